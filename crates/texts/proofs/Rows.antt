-- The lines of the rows that offsets cut out: what holds at the head of the loop over them, and how long they are. Assumes nothing.
use Prim.Native.Nat.{ℕ, zero, suc, ◌+◌, ◌-◌, ◌*◌, ◌<◌, ◌≤◌}
use mathlib.Core.Path.{◌≡◌, refl, ap, ◌∙◌}
use mathlib.Core.List.{List, [], ◌∷◌, ◌++◌}
use native.Mathlib.Numerals.{add-one}
use native.Mathlib.Omega.{arith}
use lib.ListN.{length, get_or, length-append}
use Rattle.format.specs.Lists.{each, joined}
use Rattle.format.specs.Entries.{row_bytes, cut_rows}
use Rattle.format.specs.Program.{hex, hex_lines}
use Rattle.format.specs.Passed.{Cuts}
use Rattle.basics.proofs.Append.{Turns, turns_begin, turns_room, turns_more, turns_end}
use Rattle.laws.proofs.Cuts.{below_last}
use Rattle.basics.specs.Wrote.{Wrote}
use Rattle.texts.specs.Text.{row_line}

-- ---- how long they are
length_hex : (row : List ℕ) → length (hex row) ≡ 2 * length row
length_hex [] = refl
length_hex (b ∷ bs) = omega (arith, length_hex bs)

pub length_lines : (rows : List (List ℕ)) → length (hex_lines rows) ≡ 2 * length (joined rows) + length rows
length_lines [] = refl
length_lines (r ∷ rs) =
    length-append (row_line r) (hex_lines rs)
    ∙ omega (arith, length-append (hex r) (10 ∷ []), length_hex r, length-append r (joined rs), length_lines rs)

-- ---- one by one
each_line : (i k : ℕ) (f : ℕ → List ℕ) → hex_lines (each i k f) ≡ joined (each i k (λ j. row_line (f j)))
each_line i zero f = refl
each_line i (suc k) f = ap (λ (l : List ℕ). row_line (f i) ++ l) (each_line (suc i) k f)

-- i of n lines are written
pub record Lined (n : ℕ) (rows offsets out₀ out : List ℕ) (at i : ℕ) : Type 0 where
  pub turns : Turns (λ j. row_line (row_bytes rows offsets j)) n out₀ 0 out at i

pub lined_begin : (n : ℕ) (rows offsets out : List ℕ) → Lined n rows offsets out out 0 0
lined_begin n rows offsets out = record { turns = turns_begin _ n out 0 }

module _ {n : ℕ} {rows offsets out₀ out : List ℕ} {at i : ℕ} (t : Lined n rows offsets out₀ out at i) where
  abbrev line : ℕ → List ℕ
  line j = row_line (row_bytes rows offsets j)

  pub lined_room : i < n → length (hex_lines (cut_rows n rows offsets)) ≤ length out₀ → at + length (line i) ≤ length out
  lined_room l fits = turns_room line n out₀ 0 out at i t.turns l (omega (arith, ap length (each_line 0 n (row_bytes rows offsets))))

  pub lined_more : {out' : List ℕ} {next : ℕ} → i < n → Wrote (line i) at out out' next → Lined n rows offsets out₀ out' next (i + 1)
  lined_more l w = rw (w.bytes, w.place) (record { turns = turns_more line n out₀ 0 out at i t.turns (length (line i)) l refl })

  pub lined_wrote : n ≤ i → Wrote (hex_lines (cut_rows n rows offsets)) 0 out₀ out at
  lined_wrote l =
      let z = turns_end line n out₀ 0 out at i t.turns l in
      rw (each_line 0 n (row_bytes rows offsets)) (record { place = z.0; bytes = z.1 })

-- ---- where row i lies
module _ {n : ℕ} {rows offsets : List ℕ} (c : Cuts n rows offsets) (i : ℕ) (l : i < n) where
  pub row_rises : get_or offsets i 0 ≤ get_or offsets (i + 1) 0
  row_rises = rw (add-one i) (c.rising i l)

  pub row_inside : get_or offsets (i + 1) 0 ≤ length rows
  row_inside = omega (arith, c.inside, below_last n rows offsets c (n - (i + 1)) (i + 1) (omega arith))
