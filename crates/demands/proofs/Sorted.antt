-- A list that is sorted, strictly one way, is known from what is in it. Assumes nothing.
use Prim.Native.Nat.{ℕ, zero, suc, ◌+◌, ◌<◌}
use mathlib.Core.Path.{◌≡◌, refl, ap, ap₂, sym, subst}
use mathlib.Core.Bool.{Bool, true, false, cond}
use mathlib.Core.List.{List, [], ◌∷◌}
use native.Mathlib.Omega.{arith}
use lib.Dec.{eqb}
use lib.ListN.{length, get_or}
use borrow.Author.Tests.{eqb-true, eqb-false, eq-eqb, ne_eqb}
use Rattle.basics.proofs.Lists.{Every, every_at}
use Rattle.joiner.proofs.Sorting.{Each}
use Rattle.demands.specs.JoinOrder.{times, Along}

-- ---- by places, and one after the other
all : (P : ℕ → Type 0) (xs : List ℕ) → ((j : ℕ) → j < length xs → P (get_or xs j 0)) → Every P xs
all P [] h = tt
all P (x ∷ xs) h = (h 0 (omega arith), all P xs (λ j l. h (suc j) (omega arith)))

pub along_each : (R : ℕ → ℕ → Type 0) (xs : List ℕ) → Along R xs → Each R xs
along_each R [] h = tt
along_each R (x ∷ xs) h =
    (all (R x) xs (λ j l. h 0 (suc j) (omega arith) (omega arith)), along_each R xs (λ i j l m. h (suc i) (suc j) (omega arith) (omega arith)))

pub each_along : (R : ℕ → ℕ → Type 0) (xs : List ℕ) → Each R xs → Along R xs
each_along R [] h i j l m = absurd (omega arith)
each_along R (x ∷ xs) h i zero l m = absurd (omega arith)
each_along R (x ∷ xs) h zero (suc j) l m = every_at (R x) xs 0 j h.0 (omega arith)
each_along R (x ∷ xs) h (suc i) (suc j) l m = each_along R xs h.1 i j (omega arith) (omega arith)

-- ---- what is in a list
-- what every element is, one that is there is
pub every_there : (P : ℕ → Type 0) (xs : List ℕ) (e : ℕ) → Every P xs → 0 < times e xs → P e
every_there P [] e h l = absurd (omega arith)
every_there P (x ∷ xs) e h l = go (eqb e x) refl l (every_there P xs e h.1)
  where
    go : (t : Bool) → eqb e x ≡ t → 0 < cond t 1 0 + times e xs → (0 < times e xs → P e) → P e
    go true q m ih = subst P (sym (eqb-true e x q)) h.0
    go false q m ih = ih (omega arith)

once : (e x : ℕ) (xs : List ℕ) → e ≡ x → times e (x ∷ xs) ≡ 1 + times e xs
once e x xs q = ap (λ (t : Bool). cond t 1 0 + times e xs) (eq-eqb e x q)

pub sorted_unique : (R : ℕ → ℕ → Type 0) → ((d e : ℕ) → R d e → R e d → ⊥) → (xs ys : List ℕ) → ((e : ℕ) → times e xs ≡ times e ys)
    → Each R xs → Each R ys → xs ≡ ys
sorted_unique R apart [] [] same hx hy = refl
sorted_unique R apart [] (y ∷ ys) same hx hy = absurd (omega (arith, same y, once y y ys refl))
sorted_unique R apart (x ∷ xs) [] same hx hy = absurd (omega (arith, same x, once x x xs refl))
sorted_unique R apart (x ∷ xs) (y ∷ ys) same hx hy = go (eqb x y) refl (λ t. sorted_unique R apart xs ys t hx.1 hy.1)
  where
    go : (t : Bool) → eqb x y ≡ t → (((e : ℕ) → times e xs ≡ times e ys) → xs ≡ ys) → x ∷ xs ≡ y ∷ ys
    go true q ih =
        let e : x ≡ y = eqb-true x y q in
        ap₂ {C = List ℕ} (λ a b. a ∷ b) e
        (ih
        (λ i.
        let u : cond (eqb i x) 1 0 + times i xs ≡ cond (eqb i y) 1 0 + times i ys = same i in
        let v : ◌≡◌ {A = ℕ} (cond (eqb i x) 1 0) (cond (eqb i y) 1 0) = ap {B = ℕ} (λ (z : ℕ). cond (eqb i z) 1 0) e in
        omega arith))
    go false q ih =
        absurd (apart x y
        (every_there (R x) xs y hx.0
        (omega (arith, same y, once y y ys refl, ap (λ (t : Bool). cond t 1 0 + times y xs) (ne_eqb y x (λ e. eqb-false x y q (sym e))))))
        (every_there (R y) ys x hy.0 (omega (arith, same x, once x x xs refl, ap (λ (t : Bool). cond t 1 0 + times x ys) q))))
