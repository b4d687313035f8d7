-- The first byte at which two strings differ, and what follows from it.
use Prim.Native.Nat.Ordering.{eq}
use Prim.Native.Nat.Ordering.{gt}
use Prim.Native.Nat.Ordering.{lt}
use Prim.Native.Nat.{ℕ, compare, Ordering}
use mathlib.Core.Path.{◌≡◌, refl, ap, ap₂, sym, ◌∙◌, subst}
use mathlib.Core.List.{List, [], ◌∷◌, ◌++◌, tail}
use native.Mathlib.Omega.{arith}
use native.Mathlib.Nat.{suc_inj, suc-ne-zero}
use lib.ListN.{length, take}
use Rattle.format.specs.Order.{Begins, cmp, then}
use Rattle.demands.proofs.Orders.{compare_self, lt≢eq, gt≢eq, eq_of_compare, then_eq_left, then_eq_right}

-- the order at the first byte that both have and that differs; a tie where there is none
abbrev pub sep : List ℕ → List ℕ → Ordering
sep [] ys = eq
sep (x ∷ xs) [] = eq
sep (x ∷ xs) (y ∷ ys) = then (compare x y) (sep xs ys)

-- two byte strings that stand in a row as o says: they differ as o says at a byte that both have, or are the same
pub record Ranks (o : Ordering) (f g : List ℕ) : Type 0 where
  pub first : sep f g ≡ o
  pub alike : o ≡ eq → f ≡ g

pub sep_self : (f : List ℕ) → sep f f ≡ eq
sep_self [] = refl
sep_self (x ∷ xs) = rw (compare_self x) (sep_self xs)

nil_cons : {y : ℕ} {ys : List ℕ} → [] ≡ y ∷ ys → ⊥
nil_cons {y} {ys} e = suc-ne-zero (length ys) (sym (ap length e))

-- the hypothesis of a tie, at the tails of two strings with equal heads
tails : (x y : ℕ) (xs ys : List ℕ) → (then (compare x y) (sep xs ys) ≡ eq → x ∷ xs ≡ y ∷ ys) → compare x y ≡ eq → sep xs ys ≡ eq → xs ≡ ys
tails x y xs ys h c e = ap tail (h (rw c e))

-- whatever follows two such strings
sep_append : (f g r s : List ℕ) → (sep f g ≡ eq → f ≡ g) → sep (f ++ r) (g ++ s) ≡ then (sep f g) (sep r s)
sep_append [] [] r s h = refl
sep_append [] (y ∷ ys) r s h = absurd (nil_cons (h refl))
sep_append (x ∷ xs) [] r s h = absurd (nil_cons (sym (h refl)))
sep_append (x ∷ xs) (y ∷ ys) r s h = go (compare x y) refl (sep_append xs ys r s)
  where
    go : (o : Ordering) → compare x y ≡ o → ((sep xs ys ≡ eq → xs ≡ ys) → sep (xs ++ r) (ys ++ s) ≡ then (sep xs ys) (sep r s))
        → then o (sep (xs ++ r) (ys ++ s)) ≡ then (then o (sep xs ys)) (sep r s)
    go lt e ih = refl
    go eq e ih = ih (tails x y xs ys h e)
    go gt e ih = refl

cmp_sep : (f g : List ℕ) → (sep f g ≡ eq → f ≡ g) → cmp f g ≡ sep f g
cmp_sep [] [] h = refl
cmp_sep [] (y ∷ ys) h = absurd (nil_cons (h refl))
cmp_sep (x ∷ xs) [] h = absurd (nil_cons (sym (h refl)))
cmp_sep (x ∷ xs) (y ∷ ys) h = go (compare x y) refl (cmp_sep xs ys)
  where
    go : (o : Ordering) → compare x y ≡ o → ((sep xs ys ≡ eq → xs ≡ ys) → cmp xs ys ≡ sep xs ys)
        → then o (cmp xs ys) ≡ then o (sep xs ys)
    go lt e ih = refl
    go eq e ih = ih (tails x y xs ys h e)
    go gt e ih = refl

pub cmp_same : (f g : List ℕ) → cmp f g ≡ eq → f ≡ g
cmp_same [] [] e = refl
cmp_same [] (y ∷ ys) e = absurd (lt≢eq e)
cmp_same (x ∷ xs) [] e = absurd (gt≢eq e)
cmp_same (x ∷ xs) (y ∷ ys) e =
    ap₂ {C = List ℕ} (λ a b. a ∷ b) (eq_of_compare x y (then_eq_left (compare x y) (cmp xs ys) e)) (cmp_same xs ys (then_eq_right (compare x y) (cmp xs ys) e))

-- strings of one length differ at a byte that both have, or are the same
sep_cmp : (f g : List ℕ) → length f ≡ length g → sep f g ≡ cmp f g
sep_cmp [] [] e = refl
sep_cmp [] (y ∷ ys) e = absurd (omega arith)
sep_cmp (x ∷ xs) [] e = absurd (omega arith)
sep_cmp (x ∷ xs) (y ∷ ys) e = ap (then (compare x y)) (sep_cmp xs ys (suc_inj e))

-- ---- the laws of `Ranks`

tie : {o : Ordering} {f g : List ℕ} → Ranks o f g → sep f g ≡ eq → f ≡ g
tie k e = k.alike (sym k.first ∙ e)

-- whatever follows the first, cut to the length of the second, it stands so to the second
front_sep : (f g s : List ℕ) → (sep f g ≡ eq → f ≡ g) → cmp (take (length g) (f ++ s)) g ≡ sep f g
front_sep [] [] s h = refl
front_sep [] (y ∷ ys) s h = absurd (nil_cons (h refl))
front_sep (x ∷ xs) [] s h = absurd (nil_cons (sym (h refl)))
front_sep (x ∷ xs) (y ∷ ys) s h = go (compare x y) refl (front_sep xs ys s)
  where
    go : (o : Ordering) → compare x y ≡ o → ((sep xs ys ≡ eq → xs ≡ ys) → cmp (take (length ys) (xs ++ s)) ys ≡ sep xs ys)
        → then o (cmp (take (length ys) (xs ++ s)) ys) ≡ then o (sep xs ys)
    go lt e ih = refl
    go eq e ih = ih (tails x y xs ys h e)
    go gt e ih = refl

pub ranks_front : {o : Ordering} {f g : List ℕ} → Ranks o f g → (s : List ℕ) → cmp (take (length g) (f ++ s)) g ≡ o
ranks_front {o} {f} {g} k s = front_sep f g s (tie k) ∙ k.first

-- the order of the strings is o
pub ranks_cmp : {o : Ordering} {f g : List ℕ} → Ranks o f g → cmp f g ≡ o
ranks_cmp {o} {f} {g} k = cmp_sep f g (tie k) ∙ k.first

sep_begins : (f r : List ℕ) → sep f (f ++ r) ≡ eq
sep_begins [] r = refl
sep_begins (x ∷ xs) r = rw (compare_self x) (sep_begins xs r)

sep_begun : (f r : List ℕ) → sep (f ++ r) f ≡ eq
sep_begun [] [] = refl
sep_begun [] (x ∷ xs) = refl
sep_begun (x ∷ xs) r = rw (compare_self x) (sep_begun xs r)

-- one begins the other only if they are the same
pub ranks_begins : {o : Ordering} {f g : List ℕ} → Ranks o f g → Begins f g → f ≡ g
ranks_begins {o} {f} {g} k b = tie k (subst (λ (z : List ℕ). sep f z ≡ eq) b.1 (sep_begins f b.0))

pub ranks_begun : {o : Ordering} {f g : List ℕ} → Ranks o f g → Begins g f → f ≡ g
ranks_begun {o} {f} {g} k b = tie k (subst (λ (z : List ℕ). sep z g ≡ eq) b.1 (sep_begun g b.0))

pub ranks_self : (f : List ℕ) → Ranks eq f f
ranks_self f = record { first = sep_self f; alike = λ e. refl }

-- one after the other
pub ranks_append : {o p : Ordering} {f g r s : List ℕ} → Ranks o f g → Ranks p r s → Ranks (then o p) (f ++ r) (g ++ s)
ranks_append {o} {p} {f} {g} {r} {s} k l = record {
  first = sep_append f g r s (tie k) ∙ ap₂ then k.first l.first;
  alike = λ e. ap₂ (λ (a b : List ℕ). a ++ b) (k.alike (then_eq_left o p e)) (l.alike (then_eq_right o p e));
}

-- of one length
pub ranks_even : (f g : List ℕ) → length f ≡ length g → Ranks (cmp f g) f g
ranks_even f g e = record { first = sep_cmp f g e; alike = cmp_same f g }
