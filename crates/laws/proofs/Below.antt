-- Byte strings of which none is below another: the order is total. Assumes nothing.
use Prim.Native.Nat.Ordering.{eq}
use Prim.Native.Nat.Ordering.{gt}
use Prim.Native.Nat.Ordering.{lt}
use Prim.Native.Nat.{ℕ, suc, ◌<◌, compare, Ordering}
use mathlib.Core.Path.{◌≡◌, refl, ap, ap₂, sym, ◌∙◌}
use mathlib.Core.Bool.{Bool, true, false, true≢false}
use mathlib.Core.List.{List, [], ◌∷◌}
use native.Mathlib.Omega.{arith}
use Rattle.format.specs.Order.{cmp, then}
use Rattle.format.specs.Batch.{is_below, below}
use Rattle.basics.proofs.Compare.{Tri, below as less, same, above, tri, compare_lt, compare_gt, compare_eq}

-- two heads, and how the two strings compare then
pub heads_below : (x y : ℕ) (xs ys : List ℕ) → x < y → below (x ∷ xs) (y ∷ ys) ≡ true
heads_below x y xs ys h = ap (λ (o : Ordering). is_below (then o (cmp xs ys))) (compare_lt x y h)

pub heads_above : (x y : ℕ) (xs ys : List ℕ) → y < x → below (x ∷ xs) (y ∷ ys) ≡ false
heads_above x y xs ys h = ap (λ (o : Ordering). is_below (then o (cmp xs ys))) (compare_gt x y h)

pub heads_same : (x y : ℕ) (xs ys : List ℕ) → x ≡ y → below (x ∷ xs) (y ∷ ys) ≡ below xs ys
heads_same x y xs ys h = ap (λ (o : Ordering). is_below (then o (cmp xs ys))) (compare_eq x y h)

-- nothing is below the empty string
pub none_below : (xs : List ℕ) → below xs [] ≡ false
none_below [] = refl
none_below (x ∷ xs) = refl

pub below_self : (xs : List ℕ) → below xs xs ≡ false
below_self [] = refl
below_self (x ∷ xs) = heads_same x x xs xs refl ∙ below_self xs

-- not below, and then not below: not below
pub up_trans : (a b c : List ℕ) → below b a ≡ false → below c b ≡ false → below c a ≡ false
up_trans [] b c h k = none_below c
up_trans (x ∷ a) [] c h k = absurd (true≢false h)
up_trans (x ∷ a) (y ∷ b) [] h k = absurd (true≢false k)
up_trans (x ∷ a) (y ∷ b) (z ∷ c) h k = go (compare y x) (compare z y) (tri y x) (tri z y) (up_trans a b c)
  where
    go : (o p : Ordering) → Tri y x o → Tri z y p → (below b a ≡ false → below c b ≡ false → below c a ≡ false) → below (z ∷ c) (x ∷ a) ≡ false
    go lt p (less u) v ih = absurd (true≢false (sym (heads_below y x b a u) ∙ h))
    go eq lt (same u) (less v) ih = absurd (true≢false (sym (heads_below z y c b v) ∙ k))
    go eq eq (same u) (same v) ih = heads_same z x c a (v ∙ u) ∙ ih (sym (heads_same y x b a u) ∙ h) (sym (heads_same z y c b v) ∙ k)
    go eq gt (same u) (above v) ih = heads_above z x c a (omega arith)
    go gt lt (above u) (less v) ih = absurd (true≢false (sym (heads_below z y c b v) ∙ k))
    go gt eq (above u) (same v) ih = heads_above z x c a (omega arith)
    go gt gt (above u) (above v) ih = heads_above z x c a (omega arith)

-- of two strings, neither below the other, there is one
pub up_antisym : (a b : List ℕ) → below a b ≡ false → below b a ≡ false → a ≡ b
up_antisym [] [] h k = refl
up_antisym [] (y ∷ b) h k = absurd (true≢false h)
up_antisym (x ∷ a) [] h k = absurd (true≢false k)
up_antisym (x ∷ a) (y ∷ b) h k = go (compare x y) (tri x y) (up_antisym a b)
  where
    go : (o : Ordering) → Tri x y o → (below a b ≡ false → below b a ≡ false → a ≡ b) → x ∷ a ≡ y ∷ b
    go lt (less u) ih = absurd (true≢false (sym (heads_below x y a b u) ∙ h))
    go eq (same u) ih =
        ap₂ {C = List ℕ} (λ p q. p ∷ q) u (ih (sym (heads_same x y a b u) ∙ h) (sym (heads_same y x b a (sym u)) ∙ k))
    go gt (above u) ih = absurd (true≢false (sym (heads_below y x b a u) ∙ k))

-- below one way is not below the other
pub below_not : (a b : List ℕ) → below a b ≡ true → below b a ≡ false
below_not [] b h = none_below b
below_not (x ∷ a) [] h = absurd (true≢false (sym h))
below_not (x ∷ a) (y ∷ b) h = go (compare x y) (tri x y) (below_not a b)
  where
    go : (o : Ordering) → Tri x y o → (below a b ≡ true → below b a ≡ false) → below (y ∷ b) (x ∷ a) ≡ false
    go lt (less u) ih = heads_above y x b a u
    go eq (same u) ih = heads_same y x b a (sym u) ∙ ih (sym (heads_same x y a b u) ∙ h)
    go gt (above u) ih = absurd (true≢false (sym h ∙ heads_above x y a b u))
