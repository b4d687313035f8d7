-- What the arms of a match on a kind say of a value byte's move, and powers of 256. Assumes nothing.
use Prim.Native.Nat.{ℕ, zero, suc, ◌+◌, ◌-◌, ◌*◌, ◌^◌, ◌<◌, ◌≤◌}
use mathlib.Core.Path.{◌≡◌, refl, sym, ap, subst, ◌∙◌}
use mathlib.Core.Bool.{Bool, true, false, cond, false≢true}
use mathlib.Core.Logic.{◌⊎◌, inl, inr}
use mathlib.Core.List.{List, [], ◌∷◌, reverse}
use native.Mathlib.Nat.{pow-suc}
use native.Mathlib.Numerals.{add-one}
use native.Mathlib.Omega.{arith}
use lib.Dec.{eqb}
use borrow.Author.Tests.{ltb-true, lt-ltb, le-ltb}
use Rattle.format.specs.declared.Kind.{Kind}
use Rattle.format.specs.declared.SortOptions.{SortOptions}
use Rattle.format.specs.declared.RowFault.TheVariants.{BoolByte, Unfolded}
use Rattle.format.specs.declared.Spot.TheVariants.{Value}
use Rattle.format.specs.Lists.{low, low_bytes}
use Rattle.format.specs.Kinds.{Fixed, bool, plain, number, integer, float, parts, Shape, fixed, variable, shape, shape_bytes, value_bytes, width}
use Rattle.format.specs.Key.{allowed, float_unkey, unkey}
use Rattle.format.specs.Fold.{folded_bits, is_folded}
use Rattle.format.specs.CutterRule.{spelt_kept, spot_kept}
use Rattle.format.specs.Cutter.{Move, on, whole, bad, turn, spelt_with, value_move, move}
use Rattle.basics.proofs.Sorts.{plain_arm, PlainArm}
use Rattle.number.proofs.Folds.{folded_same}
use Rattle.cutter_laws.proofs.RuleMoves.{and_true}
use Rattle.moves.proofs.Arms.{when, unless}
use Rattle.value_moves.specs.Values.{AnyBytes, folding_move}

-- ---- value bytes

any_allowed : (k : Fixed) (f : List ℕ) → (k ≡ bool → ⊥) → allowed k f ≡ true
any_allowed bool f h = absurd (h refl)
any_allowed (plain n) f h = refl
any_allowed (number n) f h = refl
any_allowed (integer n) f h = refl
any_allowed (float n) f h = refl
any_allowed (parts ns) f h = refl

module _ (k : Fixed) (w : ℕ) (o : SortOptions) (seen spelt at b : ℕ) (a : AnyBytes w o.fold k) where
  pub any_on : seen + 1 < w → on (Value (seen + 1) 0) ≡ value_move k o seen spelt at b
  any_on h =
      ap (λ (n : ℕ). on (Value n 0)) (add-one seen)
      ∙ ap (λ (t : Bool). on (Value (suc seen) (cond t (256 * spelt + turn o b) 0))) (sym a.unfolded)
      ∙ when _ (lt-ltb (suc seen) (width k) (omega (arith, a.bytes)))

  pub any_whole : w ≤ seen + 1 → whole ≡ value_move k o seen spelt at b
  any_whole h =
      unless _ (le-ltb (suc seen) (width k) (omega (arith, a.bytes)))
      (when _ (ap (λ (t : Bool). cond t (eqb (folded_bits (width k) (low (spelled k))) (low (spelled k))) true) a.unfolded)
      ∙ when _ (any_allowed k (turn o b ∷ []) a.other))
    where
      spelled : Fixed → List ℕ
      spelled j = unkey j (reverse (low_bytes (width j) (spelt_with j o spelt b)))

-- every kind but bools, floats and variable bytes
pub plain_kind : (kind : Kind) (w : ℕ) (fold : Bool) → PlainArm kind → w ≡ value_bytes kind
    → (k : Fixed) × (shape kind ≡ fixed k) × AnyBytes w fold k
plain_kind kind w fold h e =
    let u = plain_arm kind h in
    (u.0.k, u.0.says, record { bytes = sym (e ∙ ap shape_bytes u.0.says); other = u.0.other; unfolded = u.1 fold })

-- a spot in a value of such a kind
pub value_inside : (sh : Shape) (fold : Bool) (at seen spelt : ℕ) → spot_kept sh fold at (Value seen spelt) ≡ true → seen < shape_bytes sh
value_inside (fixed k) fold at seen spelt h = ltb-true seen (width k) (and_true h).0
value_inside variable fold at seen spelt h = absurd (false≢true h)

-- a float that folds
pub folding_value : (w : ℕ) (o : SortOptions) (seen spelt at b : ℕ) → o.fold ≡ true → folding_move w seen spelt at (turn o b) ≡ value_move (float w) o seen spelt at b
folding_value w o seen spelt at b e = rw e

-- and one that does not
pub float_any : (w : ℕ) (fold : Bool) → fold ≡ false → AnyBytes w fold (float w)
float_any w fold e = record { bytes = refl; other = λ q. let z : ◌≡◌ {A = ℕ} 0 1 = cc in omega arith; unfolded = e }

-- x is the number that its bytes spell, y the same with its bytes turned round, z the float, f the same folded
pub spelt_folded : (n x y z f : ℕ) → z < 256 ^ n → low_bytes n y ≡ reverse (low_bytes n x) → low_bytes n z ≡ float_unkey (low_bytes n y) → f ≡ folded_bits n z
    → eqb f z ≡ is_folded (float n) true (float_unkey (reverse (low_bytes n x)))
spelt_folded n x y z f small a k e = folded_same n z f small e ∙ ap (is_folded (float n) true) (k ∙ ap float_unkey a)

-- ---- powers of 256

pub power_up : (n j : ℕ) → 256 ^ n ≤ 256 ^ (j + n)
power_up n zero = let z : 0 + n ≡ n = omega arith in rw z (omega arith)
power_up n (suc j) = let z : suc j + n ≡ suc (j + n) = omega arith in rw z (omega (arith, power_up n j, pow-suc 256 (j + n)))

-- no float has more than eight bytes
pub power_most : (n : ℕ) → n ≤ 8 → 256 ^ n ≤ 2 ^ 64
power_most n h = subst (λ (m : ℕ). 256 ^ n ≤ 256 ^ m) (let z : (8 - n) + n ≡ 8 = omega arith in z) (power_up n (8 - n))

-- a byte more
pub spelt_room : (seen spelt b : ℕ) → spelt < 256 ^ seen → b < 256 → 256 * spelt + b < 256 ^ suc seen
spelt_room seen spelt b h l = omega (arith, pow-suc 256 seen)

pub at_most_eight : (w : ℕ) → (w ≡ 2) ⊎ ((w ≡ 4) ⊎ (w ≡ 8)) → w ≤ 8
at_most_eight w (inl e) = omega arith
at_most_eight w (inr (inl e)) = omega arith
at_most_eight w (inr (inr e)) = omega arith

pub eight_left : (w : ℕ) → (w ≡ 2) ⊎ ((w ≡ 4) ⊎ (w ≡ 8)) → (w ≡ 2 → ⊥) → (w ≡ 4 → ⊥) → w ≡ 8
eight_left w (inl e) a b = absurd (a e)
eight_left w (inr (inl e)) a b = absurd (b e)
eight_left w (inr (inr e)) a b = e

-- ---- the answers for a value byte

module _ (o : SortOptions) (seen at b t : ℕ) (e : t ≡ turn o b) where
  pub bool_whole : t < 2 → (spelt : ℕ) → whole ≡ value_move bool o seen spelt at b
  bool_whole h spelt = unless _ (le-ltb (suc seen) 1 (omega arith)) (when _ (lt-ltb (turn o b) 2 (omega arith)))

  pub bool_bad : 2 ≤ t → (spelt : ℕ) → bad BoolByte at ≡ value_move bool o seen spelt at b
  bool_bad h spelt = unless _ (le-ltb (suc seen) 1 (omega arith)) (unless _ (le-ltb (turn o b) 2 (omega arith)) refl)

module _ (w seen spelt at b n : ℕ) (e : n ≡ 256 * spelt + b) where
  pub folding_on : seen + 1 < w → on (Value (seen + 1) n) ≡ folding_move w seen spelt at b
  folding_on h =
      ap (λ (m : ℕ). on (Value m n)) (add-one seen)
      ∙ ap (λ (m : ℕ). on (Value (suc seen) m)) e
      ∙ when _ (lt-ltb (suc seen) w (omega arith))

  pub folding_last : (m : Move) → w ≤ seen + 1 → m ≡ cond (is_folded (float w) true (float_unkey (reverse (low_bytes w n)))) whole (bad Unfolded (at - seen))
      → m ≡ folding_move w seen spelt at b
  folding_last m h p =
      unless _ (le-ltb (suc seen) w (omega arith))
      (p ∙ ap (λ (x : ℕ). cond (is_folded (float w) true (float_unkey (reverse (low_bytes w x)))) whole (bad Unfolded (at - seen))) e)

-- a spot in a float
pub float_kept : {kind j : Kind} (w : ℕ) (fold : Bool) (at seen spelt : ℕ) → kind ≡ j → shape j ≡ fixed (float w)
    → spot_kept (shape kind) fold at (Value seen spelt) ≡ true → (seen < w) × (spelt_kept (float w) fold seen spelt ≡ true)
float_kept w fold at seen spelt e f h =
    let p = and_true (subst (λ (sh : Shape). spot_kept sh fold at (Value seen spelt) ≡ true) (ap shape e ∙ f) h) in
    (ltb-true seen w p.0, p.1)

-- the matched case j of a kind
pub value_told : {kind j : Kind} (o : SortOptions) (seen spelt at b : ℕ) → kind ≡ j → move (shape j) o (Value seen spelt) at b ≡ move (shape kind) o (Value seen spelt) at b
value_told o seen spelt at b e = sym (ap (λ (k : Kind). move (shape k) o (Value seen spelt) at b) e)
