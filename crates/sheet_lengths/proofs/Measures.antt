-- The fields of a column that passes. Assumes nothing.
use Prim.Native.Nat.{ℕ, zero, suc, ◌+◌, ◌-◌, ◌*◌, ◌<◌, ◌≤◌}
use mathlib.Core.Path.{◌≡◌, sym, ap, ap₂, ◌∙◌}
use mathlib.Core.Bool.{Bool, true, false}
use mathlib.Core.List.{List}
use native.Mathlib.Numerals.{add-one}
use native.Mathlib.Omega.{arith}
use lib.ListN.{length, drop, length-drop}
use lib.Seq.{length-take-le}
use Rattle.format.specs.declared.Kind.TheVariants.{Variable}
use Rattle.format.specs.Limits.{max_slot}
use Rattle.format.specs.Lists.{Bytes, each, sum}
use Rattle.format.specs.Kinds.{variable}
use Rattle.format.specs.Field.{padded_length, field_length, max_field}
use Rattle.format.specs.Sheet.{ended, packed, bit, end, value_at, slot_if, column_fault}
use Rattle.format.specs.Schemas.{no_column}
use Rattle.format.specs.Passed.{Ended, Passes}
use Rattle.laws.proofs.Sheets.{last_end, column_passed, variable_passed}
use Rattle.laws.proofs.Totals.{total_most}
use Rattle.sheet_lengths.specs.Measures.{variable_length, variable_total}

-- ---- variable bytes

-- a value is as long as its ends are apart
value_long : (n : ℕ) (s : List ℕ) (r : ℕ) → Ended n s → r < n → length (value_at ended n s r) ≡ end s (suc r) - end s r
value_long n s r g l =
    length-take-le (end s (suc r) - end s r) (drop (end s r) (drop (4 * suc n) s))
    (omega (arith, g.room, last_end n s g (n - suc r) (suc r) (omega arith), length-drop (end s r) (drop (4 * suc n) s), length-drop (4 * suc n) s))

module _ (n : ℕ) (s : List ℕ) (p : Passes (λ c. column_fault false ended n c s)) where
  pub ends : Ended n (drop (packed n) s)
  ends = variable_passed n p.c (drop (packed n) s) (column_passed false ended n p.c s p.pass).1

  -- the ends of all rows are there
  pub ends_room : 4 * suc n ≤ length (drop (packed n) s)
  ends_room = omega (arith, ends.room)

  module _ (r : ℕ) (l : r < n) where
    pub null_length : bit s r ≡ false → 1 ≡ variable_length n s r
    null_length e = rw e

    pub value_length : bit s r ≡ true → (a b : ℕ) → a ≡ end (drop (packed n) s) r → b ≡ end (drop (packed n) s) (r + 1) → padded_length (b - a) ≡ variable_length n s r
    value_length e a b f g =
        ap₂ (λ (x y : ℕ). padded_length (y - x)) f (g ∙ ap (end (drop (packed n) s)) (add-one r))
        ∙ ap padded_length (sym (value_long n (drop (packed n) s) r ends l))
        ∙ ap (λ (t : Bool). field_length variable (slot_if t (value_at ended n (drop (packed n) s) r))) (sym e)

    -- the ends do not fall, and are no further apart than the limit
    pub apart : (a b : ℕ) → a ≡ end (drop (packed n) s) r → b ≡ end (drop (packed n) s) (r + 1) → (a ≤ b) × (b - a ≤ max_slot)
    apart a b f g =
        let next : b ≡ end (drop (packed n) s) (suc r) = g ∙ ap (end (drop (packed n) s)) (add-one r) in
        let step = ends.step r l in
        (omega arith, omega arith)

-- the fields of n rows fit
pub variable_most : (n : ℕ) (s : List ℕ) → Bytes s → Passes (λ c. column_fault false ended n c s) → variable_total n s ≤ n * max_field
variable_most n s b p = total_most (record { kind = Variable; options = no_column.options }) n p.c s b p.pass (omega arith)

-- ---- fields of one length
pub sum_same : (f : ℕ → ℕ) (b i k : ℕ) → ((j : ℕ) → f j ≡ b) → sum (each i k f) ≡ k * b
sum_same f b i zero h = omega arith
sum_same f b i (suc k) h = omega (arith, h i, sum_same f b (suc i) k h)
