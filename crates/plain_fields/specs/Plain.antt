-- Fields that are good by their length.
use Rattle.std.specs.Prelude.{ℕ, ◌-◌, ◌<◌, ◌≤◌, ◌≡◌, true, ◌⊎◌, List, length, get_or, take, drop}
use Rattle.format.specs.declared.Column.{Column}
use Rattle.format.specs.declared.SortOptions.{SortOptions}
use Rattle.format.specs.Kinds.{Slot, column_shape}
use Rattle.format.specs.Sheet.{layout}
use Rattle.format.specs.Read.{field_read, from_bad, null_lead, read_field, found_null, found_value}
use Rattle.format.specs.Cleared.{added}

-- a field of so many bytes in front of s opens with 01, or with the null byte and zeros after it
abbrev pub Opens : SortOptions → ℕ → List ℕ → Type 0
Opens o len s = (get_or s 0 0 ≡ 1) ⊎ ((null_lead o (get_or s 0 0) ≡ true) × (from_bad (take (len - 1) (drop 1 s)) ≡ 0))

-- a length other than 0 is that of every field of a column that opens with 01 and is there whole, and of every null; its slot adds nothing
pub record Plain (col : Column) (len : ℕ) : Type 0 where
  pub reads : (s : List ℕ) → len ≤ length s → get_or s 0 0 ≡ 1 → field_read s (read_field (column_shape col) col.options s) ≡ found_value len (len - 1)
  pub nulls : (s : List ℕ) → len ≤ length s → null_lead col.options (get_or s 0 0) ≡ true → from_bad (take (len - 1) (drop 1 s)) ≡ 0
      → field_read s (read_field (column_shape col) col.options s) ≡ found_null len
  pub adds : (x : Slot) → added (layout col) x ≡ 0

abbrev pub Lengthy : Column → ℕ → Type 0
Lengthy col len = 0 < len → Plain col len
