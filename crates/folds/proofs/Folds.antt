-- Folding the bits of a float of n bytes: what the steps without a branch come to, and the same of its bytes. Assumes nothing.
use Prim.Native.Nat.{ℕ, ◌+◌, ◌-◌, ◌*◌, ◌%◌, ◌^◌, ◌<◌}
use mathlib.Core.Path.{◌≡◌, refl, sym, ap, ◌∙◌}
use mathlib.Core.Bool.{Bool, true, false, cond, ◌&&◌}
use native.Mathlib.Nat.{mod-eq_of_lt}
use native.Mathlib.Omega.{arith}
use lib.Dec.{ltb, eqb}
use lib.Arith.{digits_mod}
use mir.Val.{bool_byte}
use borrow.Author.Tests.{ltb-true, ltb-false, eqb-true}
use Rattle.format.specs.Lists.{low_bytes}
use Rattle.format.specs.Kinds.{float}
use Rattle.format.specs.Value.{half}
use Rattle.format.specs.Fold.{magnitude, infinity, one_na_n, folded_bits, folded_value, is_folded}
use Rattle.basics.proofs.Sorts.{Foldable}
use Rattle.basics.proofs.LowBytes.{low_low_bytes}

-- without the sign a pattern is the rest by the half
rest_is : (h x : ℕ) → x < h + h → (t : Bool) → ltb x h ≡ t → cond t x (x - h) ≡ x % h
rest_is h x s true e = sym (mod-eq_of_lt (ltb-true x h e))
rest_is h x s false e =
    let l = ltb-false x h e in
    let d : x - h < h = omega arith in
    let q : 1 * h + (x - h) ≡ x = omega arith in
    sym (digits_mod 1 d) ∙ ap (λ (y : ℕ). y % h) q

module _ (n : ℕ) (f : Foldable n) (halves : half n + half n ≡ 256 ^ n) (b : Bool) (x : ℕ) (fits : x < 256 ^ n) where
  -- the tests as numbers
  abbrev nan : ℕ
  nan = bool_byte (b && ltb (infinity n) (x % half n))

  abbrev minus : ℕ
  minus = bool_byte (b && eqb x (half n))

  small : x < half n + half n
  small = rw halves fits

  rest : magnitude n x ≡ x % half n
  rest = rest_is (half n) x small (ltb x (half n)) refl

  -- no NaN is −0
  apart : ltb (infinity n) (x % half n) ≡ true → eqb x (half n) ≡ true → ⊥
  apart p q = go (ltb x (half n)) refl
    where
      go : (t : Bool) → ltb x (half n) ≡ t → ⊥
      go true s = omega (arith, ltb-true x (half n) s, eqb-true x (half n) q)
      go false s =
          omega (arith, eqb-true x (half n) q, ltb-true (infinity n) (x % half n) p, rest_is (half n) x small false s)

  -- what the steps come to
  pub folds_to : x - (nan + minus) * x + nan * one_na_n n ≡ cond b (folded_bits n x) x
  folds_to = rw rest (go b (ltb (infinity n) (x % half n)) (eqb x (half n)) refl refl)
    where
      go : (b p q : Bool) → ltb (infinity n) (x % half n) ≡ p → eqb x (half n) ≡ q
          → x - (bool_byte (b && p) + bool_byte (b && q)) * x + bool_byte (b && p) * one_na_n n ≡ cond b (cond p (one_na_n n) (cond q 0 x)) x
      go false p q i j = omega arith
      go true true true i j = absurd (apart i j)
      go true true false i j = omega arith
      go true false true i j = omega arith
      go true false false i j = omega arith

-- ---- the bytes of a float of n bytes that is folded to r

module _ (n : ℕ) (x r : ℕ) (small : x < 256 ^ n) where
  pub folded_spelled : (b : Bool) → r ≡ cond b (folded_bits n x) x → low_bytes n r ≡ folded_value (float n) b (low_bytes n x)
  folded_spelled true e = rw (low_low_bytes n x small) (ap (low_bytes n) e)
  folded_spelled false e = ap (low_bytes n) e

  -- it is folded if that changes nothing
  pub folded_same : r ≡ folded_bits n x → eqb r x ≡ is_folded (float n) true (low_bytes n x)
  folded_same e = rw (low_low_bytes n x small) (ap (λ (y : ℕ). eqb y x) e)
