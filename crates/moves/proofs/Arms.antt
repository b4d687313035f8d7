-- What the arms of a match on a kind say of a lead byte, and the bytes after a null's. Assumes nothing.
use Prim.Native.Nat.{ℕ, suc, ◌+◌, ◌<◌, ◌≤◌}
use mathlib.Core.Path.{◌≡◌, refl, sym, ap, subst, ◌∙◌}
use mathlib.Core.Bool.{Bool, true, false, cond}
use native.Mathlib.Numerals.{add-one}
use native.Mathlib.Omega.{arith}
use lib.Dec.{eqb}
use borrow.Author.Tests.{lt-ltb, le-ltb}
use Rattle.format.specs.declared.Kind.{Kind}
use Rattle.format.specs.declared.Kind.TheVariants.{Variable}
use Rattle.format.specs.declared.SortOptions.{SortOptions}
use Rattle.format.specs.declared.RowFault.TheVariants.{NullRest}
use Rattle.format.specs.declared.Spot.TheVariants.{Nulls}
use Rattle.format.specs.Kinds.{Shape, shape, shape_bytes, value_bytes}
use Rattle.format.specs.Cutter.{Move, on, whole, bad, lead_move, first_bad, null_move}
use Rattle.basics.proofs.Sorts.{fixed_arm}
use Rattle.moves.specs.Moves.{fixed_lead}

-- ---- a test that holds, and one that does not

pub when : {A : Type 0} {t : Bool} {x : A} (y : A) → t ≡ true → x ≡ cond t x y
when {A} {t} {x} y e = sym (ap (λ (b : Bool). cond b x y) e)

pub unless : {A : Type 0} {t : Bool} {y z : A} (x : A) → t ≡ false → z ≡ y → z ≡ cond t x y
unless {A} {t} {y} {z} x e h = h ∙ sym (ap (λ (b : Bool). cond b x y) e)

-- ---- the lead byte

-- every kind but variable bytes
pub fixed_lead_lem : (kind : Kind) (w : ℕ) (o : SortOptions) (at b : ℕ) → (kind ≡ Variable → ⊥) → w ≡ value_bytes kind
    → fixed_lead w o at b ≡ lead_move (shape kind) o at b
fixed_lead_lem kind w o at b h e =
    rw e (fixed_arm (λ x. fixed_lead (value_bytes x) o at b ≡ lead_move (shape x) o at b) kind refl
    (λ k. subst (λ (sh : Shape). fixed_lead (shape_bytes sh) o at b ≡ lead_move sh o at b) (sym k.says) refl) h)

-- ---- the rest of a null

-- a byte more
pub null_on : (w seen known at b first : ℕ) → first ≡ first_bad known at b → seen + 1 < w → on (Nulls (seen + 1) first) ≡ null_move w seen known at b
null_on w seen known at b first e h =
    ap (λ (n : ℕ). on (Nulls n first)) (add-one seen)
    ∙ ap (λ (n : ℕ). on (Nulls (suc seen) n)) e
    ∙ when _ (lt-ltb (suc seen) w (omega arith))

-- the last
pub null_last : (w seen known at b first : ℕ) (m : Move) → first ≡ first_bad known at b → w ≤ seen + 1
    → m ≡ cond (eqb first 0) whole (bad NullRest first) → m ≡ null_move w seen known at b
null_last w seen known at b first m e h p =
    unless _ (le-ltb (suc seen) w (omega arith)) (p ∙ ap (λ (n : ℕ). cond (eqb n 0) whole (bad NullRest n)) e)
