-- The values of a column that passes: where the value of a row lies, what its reader may ask, and the slot of a row. Assumes nothing.
use Prim.Native.Nat.{ℕ, suc, ◌+◌, ◌-◌, ◌*◌, ◌/◌, ◌<◌, ◌≤◌}
use mathlib.Core.Path.{◌≡◌, ap, ap₂, sym, ◌∙◌}
use mathlib.Core.Bool.{Bool as Truth, true, false, cond}
use mathlib.Core.Option.{none, some}
use mathlib.Core.List.{List}
use native.Mathlib.Numerals.{add-one}
use native.Mathlib.Omega.{arith}
use lib.ListN.{length, take, drop, length-take}
use lib.Seq.{drop-drop}
use Rattle.format.specs.declared.Kind.{Kind}
use Rattle.format.specs.declared.Kind.TheVariants.{Bool, Variable}
use Rattle.format.specs.Limits.{max_slot}
use Rattle.format.specs.Kinds.{shape, value_bytes}
use Rattle.format.specs.Sheet.{Layout, ended, layout_for, packed, bit, end, values_fault, value_at, column_fault, slot_at}
use Rattle.format.specs.Passed.{Ended, Passes}
use Rattle.bits.proofs.Nulls.{bits_passed}
use Rattle.basics.specs.Wide.{WideKind}
use Rattle.basics.proofs.Checks.{enough}
use Rattle.basics.proofs.Sorts.{wide_layout}
use Rattle.laws.proofs.Sheets.{last_end, column_passed, variable_passed, within}

-- ---- variable bytes

-- the value of row r lies between the ends a and b, counted from the first byte after the ends
pub record Between (n : ℕ) (s : List ℕ) (r a b : ℕ) : Type 0 where
  pub starts : 4 * (n + 1) + a ≤ 4 * (n + 1) + b
  pub stops : 4 * (n + 1) + b ≤ length s
  pub value : take ((4 * (n + 1) + b) - (4 * (n + 1) + a)) (drop (4 * (n + 1) + a) s) ≡ value_at ended n s r
  pub short : length (value_at ended n s r) ≤ max_slot

-- where the two are ends r and r + 1
pub between : (n : ℕ) (s : List ℕ) (r a b : ℕ) → Ended n s → r < n → a ≡ end s r → b ≡ end s (r + 1) → Between n s r a b
between n s r a b g l p q =
    let next : b ≡ end s (suc r) = q ∙ ap (end s) (add-one r) in
    record {
      starts = omega (arith, (g.step r l).rises);
      stops = omega (arith, last_end n s g (n - suc r) (suc r) (omega arith), g.room);
      value =
          ap₂ {C = List ℕ} (λ (k : ℕ) (t : List ℕ). take k t) {x = (4 * (n + 1) + b) - (4 * (n + 1) + a)} {y = end s (suc r) - end s r} (omega (arith, (g.step r l).rises))
          (ap (λ (k : ℕ). drop k s) {x = 4 * (n + 1) + a} {y = 4 * suc n + end s r} (omega arith) ∙ sym (drop-drop (end s r) (4 * suc n) s));
      short = omega (arith, length-take (end s (suc r) - end s r) (drop (end s r) (drop (4 * suc n) s)), (g.step r l).short);
    }

-- ---- what a callee asks, from values that pass, by the kind
module _ {kind : Kind} (n r : ℕ) (s : List ℕ) (l : r < n) (h : Passes (λ c. values_fault (layout_for (shape kind)) n c s)) where
  pub bool_asked : kind ≡ Bool → r / 8 < length s
  bool_asked e = omega (arith, (bits_passed n h.c s (rw e at h.pass)).0)

  pub variable_asked : kind ≡ Variable → Ended n s
  variable_asked e = variable_passed n h.c s (rw e at h.pass)

  pub wide_asked : WideKind kind → r * value_bytes kind + value_bytes kind ≤ length s
  wide_asked w = omega (arith, within r n (value_bytes kind) l, (enough (length s) (n * value_bytes kind) _ _ (rw (wide_layout w) at h.pass)).0)

-- ---- the slot of row r

-- the values after the validity bytes pass
pub values_pass : (ly : Layout) (n : ℕ) (s : List ℕ) → Passes (λ c. column_fault false ly n c s) → Passes (λ c. values_fault ly n c (drop (packed n) s))
values_pass ly n s h = record { c = h.c; pass = (column_passed false ly n h.c s h.pass).1 }

-- what the validity bit says
pub slot_valid : (ly : Layout) (n : ℕ) (s : List ℕ) (r : ℕ) → bit s r ≡ true → slot_at ly n s r ≡ some (value_at ly n (drop (packed n) s) r)
slot_valid ly n s r e = ap (λ (b : Truth). cond b (some (value_at ly n (drop (packed n) s) r)) none) e

pub slot_null : (ly : Layout) (n : ℕ) (s : List ℕ) (r : ℕ) → bit s r ≡ false → slot_at ly n s r ≡ none
slot_null ly n s r e = ap (λ (b : Truth). cond b (some (value_at ly n (drop (packed n) s) r)) none) e
