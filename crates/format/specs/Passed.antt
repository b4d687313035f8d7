-- What is known of what passed a check: of the ends of variable bytes, of a column at its place, of offsets.
use Rattle.std.specs.Prelude.{ℕ, suc, ◌+◌, ◌-◌, ◌*◌, ◌<◌, ◌≤◌, ◌≡◌, List, length, get_or, drop, Ok}
use Rattle.format.specs.declared.Column.{Column}
use Rattle.format.specs.Check.{Check}
use Rattle.format.specs.Limits.{max_slot, max_total}
use Rattle.format.specs.Sheet.{layout, end, column_fault, column_bytes}

-- a check of a column passes, whichever number the column has
pub record Passes (fault : ℕ → Check) : Type 0 where
  pub c : ℕ
  pub pass : fault c ≡ Ok tt

-- ends j and j + 1 do not fall, and are no further apart than the limit
pub record Step (s : List ℕ) (j : ℕ) : Type 0 where
  pub rises : end s j ≤ end s (suc j)
  pub short : end s (suc j) - end s j ≤ max_slot

-- the ends of n values of variable bytes in front of s, and as many bytes as the last says
pub record Ended (n : ℕ) (s : List ℕ) : Type 0 where
  pub step : (j : ℕ) → j < n → Step s j
  pub room : 4 * suc n + end s n ≤ length s

-- column c passes at its place, and ends within the sheet
pub record Stands (col : Column) (n c at : ℕ) (s : List ℕ) : Type 0 where
  pub passes : column_fault col.options.required (layout col) n c (drop at s) ≡ Ok tt
  pub room : at + column_bytes (layout col) n (drop at s) ≤ length s

-- offsets 0 to n cut rows out of the bytes
pub record Cuts (n : ℕ) (bytes offsets : List ℕ) : Type 0 where
  pub there : suc n ≤ length offsets
  pub first : get_or offsets 0 0 ≡ 0
  pub rising : (j : ℕ) → j < n → get_or offsets j 0 ≤ get_or offsets (suc j) 0
  pub inside : get_or offsets n 0 ≤ length bytes
  pub small : get_or offsets n 0 ≤ max_total

-- row r lies between its offsets, within the row bytes
pub record Lies (bytes offsets : List ℕ) (r : ℕ) : Type 0 where
  pub there : r + 1 < length offsets
  pub rises : get_or offsets r 0 ≤ get_or offsets (r + 1) 0
  pub inside : get_or offsets (r + 1) 0 ≤ length bytes

-- each of n rows does
abbrev pub AllLie : ℕ → List ℕ → List ℕ → Type 0
AllLie n bytes offsets = (r : ℕ) → r < n → Lies bytes offsets r
