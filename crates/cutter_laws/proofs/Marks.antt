-- The marks of a block: a bit for each byte that is not zero. What is left of them after so many bytes, and where the lowest is. Assumes
-- nothing.
use Prim.Native.Nat.{ℕ, zero, suc, ◌+◌, ◌*◌, ◌/◌, ◌%◌, ◌^◌, ◌≤◌}
use mathlib.Core.Path.{◌≡◌, refl, ap, sym, ◌∙◌}
use mathlib.Core.Bool.{Bool, true, false, cond, ◌&&◌, true≢false}
use mathlib.Core.List.{List, [], ◌∷◌, ◌++◌}
use native.Mathlib.Nat.{pow-suc, pow-succ', div-one, zero-div, div-div-eq-div-mul}
use native.Mathlib.Omega.{arith}
use lib.Dec.{eqb}
use lib.ListN.{length, drop}
use borrow.Author.Tests.{eqb-true, eqb-false, eq-eqb, ne_eqb}
use Rattle.format.specs.Read.{all_zero, from_bad}
use Rattle.format.specs.Cutter.{lowest}

-- bit i is set if byte i is not zero
abbrev pub marks_of : List ℕ → ℕ
marks_of [] = 0
marks_of (x ∷ p) = cond (eqb x 0) 0 1 + 2 * marks_of p

-- a byte more
pub marks_next : (p : List ℕ) (x : ℕ) → marks_of (p ++ x ∷ []) ≡ marks_of p + cond (eqb x 0) 0 (2 ^ length p)
marks_next [] x = go (eqb x 0)
  where
    go : (t : Bool) → cond t 0 1 + 2 * 0 ≡ 0 + cond t 0 (2 ^ 0)
    go true = refl
    go false = refl
marks_next (y ∷ p) x =
    ap (λ (m : ℕ). cond (eqb y 0) 0 1 + 2 * m) (marks_next p x) ∙ go (eqb x 0)
  where
    go : (t : Bool) → cond (eqb y 0) 0 1 + 2 * (marks_of p + cond t 0 (2 ^ length p)) ≡ cond (eqb y 0) 0 1 + 2 * marks_of p + cond t 0 (2 ^ suc (length p))
    go true = omega arith
    go false = omega (arith, pow-suc 2 (length p))

halved : (t : Bool) (m : ℕ) → (cond t 0 1 + 2 * m) / 2 ≡ m
halved true m = omega arith
halved false m = omega arith

-- without the first e
pub marks_drop : (e : ℕ) (p : List ℕ) → marks_of p / 2 ^ e ≡ marks_of (drop e p)
marks_drop zero p = div-one (marks_of p)
marks_drop (suc e) [] = zero-div (2 ^ suc e)
marks_drop (suc e) (x ∷ p) =
    ap (λ (n : ℕ). marks_of (x ∷ p) / n) (pow-succ' 2 e)
    ∙ sym (div-div-eq-div-mul (marks_of (x ∷ p)) 2 (2 ^ e))
    ∙ ap (λ (n : ℕ). n / 2 ^ e) (halved (eqb x 0) (marks_of p))
    ∙ marks_drop e p

-- none where all bytes are zero
pub marks_zero : (p : List ℕ) → eqb (marks_of p) 0 ≡ all_zero p
marks_zero [] = refl
marks_zero (x ∷ p) = go (eqb x 0) (eqb (marks_of p) 0) refl ∙ ap (λ (t : Bool). eqb x 0 && t) (marks_zero p)
  where
    go : (s t : Bool) → eqb (marks_of p) 0 ≡ t → eqb (cond s 0 1 + 2 * marks_of p) 0 ≡ s && eqb (marks_of p) 0
    go true true q = eq-eqb (0 + 2 * marks_of p) 0 (omega (arith, eqb-true (marks_of p) 0 q)) ∙ sym q
    go true false q = ne_eqb (0 + 2 * marks_of p) 0 (λ z. eqb-false (marks_of p) 0 q (omega arith)) ∙ sym q
    go false t q = ne_eqb (1 + 2 * marks_of p) 0 (λ z. omega arith)

-- the lowest is where the bytes from the first bad one on begin
pub lowest_bad : (n : ℕ) (p : List ℕ) → length p ≤ n → all_zero p ≡ false → lowest n (marks_of p) + from_bad p ≡ length p
lowest_bad n [] l h = absurd (true≢false h)
lowest_bad zero (x ∷ p) l h = absurd (omega arith)
lowest_bad (suc n) (x ∷ p) l h = go (eqb x 0) h (lowest_bad n p (omega arith))
  where
    go : (t : Bool) → (t && all_zero p) ≡ false → (all_zero p ≡ false → lowest n (marks_of p) + from_bad p ≡ length p)
        → lowest (suc n) (cond t 0 1 + 2 * marks_of p) + cond t (from_bad p) (suc (length p)) ≡ suc (length p)
    go true q ih =
        rw (halved true (marks_of p), ne_eqb ((0 + 2 * marks_of p) % 2) 1 (λ z. omega arith)) (omega (arith, ih q))
    go false q ih = rw (eq-eqb ((1 + 2 * marks_of p) % 2) 1 (omega arith)) (omega arith)
