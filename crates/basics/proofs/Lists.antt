-- Lists by index, joined parts, the ends of parts, and sums. Assumes nothing.
use Prim.Native.Nat.{ℕ, zero, suc, ◌+◌, ◌-◌, ◌*◌, ◌<◌, ◌≤◌}
use mathlib.Core.Path.{◌≡◌, refl, ap, ap₂, sym, ◌∙◌}
use mathlib.Core.List.{List, [], ◌∷◌, ◌++◌, map, append_assoc}
use native.Mathlib.Nat.{sub-zero, zero-add}
use native.Mathlib.Numerals.{add-one}
use native.Mathlib.Omega.{arith}
use lib.ListN.{length, get_or, take, drop, length-append}
use lib.Seq.{take_at, drop_at, drop-append-add}
use Rattle.format.specs.Lists.{each, ends_from, joined, sum}
use Rattle.basics.proofs.Append.{each_step, each_none}

-- ---- every element is such as P says
abbrev pub Every : {A : Type 0} → (A → Type 0) → List A → Type 0
Every P [] = Unit {0}
Every P (x ∷ xs) = P x × Every P xs

pub every_at : {A : Type 0} (P : A → Type 0) (xs : List A) (d : A) (i : ℕ) → Every P xs → i < length xs → P (get_or xs i d)
every_at P [] d i h l = absurd (omega arith)
every_at P (x ∷ xs) d zero h l = h.0
every_at P (x ∷ xs) d (suc i) h l = every_at P xs d i h.1 (omega arith)

pub every_each : {A : Type 0} (P : A → Type 0) (i k : ℕ) (f : ℕ → A) → ((j : ℕ) → i ≤ j → j < i + k → P (f j)) → Every P (each i k f)
every_each P i zero f h = tt
every_each P i (suc k) f h = (h i (omega arith) (omega arith), every_each P (suc i) k f (λ j a b. h j (omega arith) (omega arith)))

-- ---- f at i, i + 1, .., k of them
pub each_same : {A : Type 0} (i k : ℕ) (f g : ℕ → A) → ((j : ℕ) → i ≤ j → j < i + k → f j ≡ g j) → each i k f ≡ each i k g
each_same i zero f g h = refl
each_same i (suc k) f g h = ap₂ (λ x y. x ∷ y) (h i (omega arith) (omega arith)) (each_same (suc i) k f g (λ j a b. h j (omega arith) (omega arith)))

pub each_next : {A : Type 0} (i k : ℕ) (f : ℕ → A) → each (suc i) k f ≡ each i k (λ j. f (suc j))
each_next i zero f = refl
each_next i (suc k) f = ap (λ l. f (suc i) ∷ l) (each_next (suc i) k f)

pub length_each : {A : Type 0} (i k : ℕ) (f : ℕ → A) → length (each i k f) ≡ k
length_each i zero f = refl
length_each i (suc k) f = ap suc (length_each (suc i) k f)

pub map_each : {A B : Type 0} (g : A → B) (i k : ℕ) (f : ℕ → A) → map g (each i k f) ≡ each i k (λ j. g (f j))
map_each g i zero f = refl
map_each g i (suc k) f = ap (λ l. g (f i) ∷ l) (map_each g (suc i) k f)

each_from : {A : Type 0} (i k : ℕ) (f : ℕ → A) (d : A) (j : ℕ) → j < k → get_or (each i k f) j d ≡ f (i + j)
each_from i zero f d j h = absurd (omega arith)
each_from i (suc k) f d zero h = ap f (omega arith)
each_from i (suc k) f d (suc j) h = each_from (suc i) k f d j (omega arith) ∙ ap f (omega arith)

-- element j of f at 0, 1, .., n - 1
pub each_at : {A : Type 0} (n : ℕ) (f : ℕ → A) (d : A) (j : ℕ) → j < n → get_or (each 0 n f) j d ≡ f j
each_at n f d j h = each_from 0 n f d j h ∙ ap f (zero-add j)

each_list : {A : Type 0} (xs : List A) (d : A) → each 0 (length xs) (λ i. get_or xs i d) ≡ xs
each_list [] d = refl
each_list (x ∷ xs) d = ap (λ l. x ∷ l) (each_next 0 (length xs) (λ i. get_or (x ∷ xs) i d) ∙ each_list xs d)

-- a list is f at 0, 1, .. if each of its elements is
pub each_is : {A : Type 0} (xs : List A) (d : A) (n : ℕ) (f : ℕ → A) → length xs ≡ n → ((i : ℕ) → i < n → f i ≡ get_or xs i d) → each 0 n f ≡ xs
each_is xs d n f e h = each_same 0 n f (λ i. get_or xs i d) (λ j a b. h j (omega arith)) ∙ ap (λ m. each 0 m (λ i. get_or xs i d)) (sym e) ∙ each_list xs d

-- a list mapped is f of its elements
pub map_is : {A B : Type 0} (f : A → B) (xs : List A) (d : A) → map f xs ≡ each 0 (length xs) (λ i. f (get_or xs i d))
map_is f xs d = ap (map f) (sym (each_list xs d)) ∙ map_each f 0 (length xs) (λ i. get_or xs i d)

-- ---- parts of one length
pub length_joined : (w : ℕ) (xs : List (List ℕ)) → Every (λ x. length x ≡ w) xs → length (joined xs) ≡ length xs * w
length_joined w [] h = omega arith
length_joined w (x ∷ xs) h =
    let q : suc (length xs) * w ≡ w + length xs * w = omega arith in
    length-append x (joined xs) ∙ omega (arith, length_joined w xs h.1)

-- part i
pub long_at : (w : ℕ) (xs : List (List ℕ)) (t : List ℕ) (i : ℕ) (d : List ℕ) → Every (λ x. length x ≡ w) xs → i < length xs
    → take w (drop (i * w) (joined xs ++ t)) ≡ get_or xs i d
long_at w [] t i d h l = absurd (omega arith)
long_at w (x ∷ xs) t zero d h l =
    let z : zero * w ≡ 0 = omega arith in
    ap (λ (n : ℕ). take w (drop n ((x ++ joined xs) ++ t))) z ∙ ap (take w) (append_assoc x (joined xs) t) ∙ take_at x (joined xs ++ t) w h.0
long_at w (x ∷ xs) t (suc i) d h l =
    let z : suc i * w ≡ length x + i * w = omega (arith, h.0) in
    ap (take w) (ap₂ (λ (n : ℕ) (y : List ℕ). drop n y) z (append_assoc x (joined xs) t) ∙ drop-append-add x (joined xs ++ t) (i * w))
    ∙ long_at w xs t i d h.1 (omega arith)

-- ---- parts of any length, and their ends

-- end i, where the first is k
abbrev pub end_at : ℕ → List (List ℕ) → ℕ → ℕ
end_at k xs i = get_or (ends_from k xs) i 0

pub length_ends : (k : ℕ) (xs : List (List ℕ)) → length (ends_from k xs) ≡ suc (length xs)
length_ends k [] = refl
length_ends k (x ∷ xs) = ap suc (length_ends (k + length x) xs)

pub end_first : (k : ℕ) (xs : List (List ℕ)) → end_at k xs 0 ≡ k
end_first k [] = refl
end_first k (x ∷ xs) = refl

pub end_next : (k : ℕ) (xs : List (List ℕ)) (i : ℕ) → i < length xs → end_at k xs (suc i) ≡ end_at k xs i + length (get_or xs i [])
end_next k [] i h = absurd (omega arith)
end_next k (x ∷ xs) zero h = end_first (k + length x) xs
end_next k (x ∷ xs) (suc i) h = end_next (k + length x) xs i (omega arith)

pub end_last : (k : ℕ) (xs : List (List ℕ)) → end_at k xs (length xs) ≡ k + length (joined xs)
end_last k [] = omega arith
end_last k (x ∷ xs) = end_last (k + length x) xs ∙ omega (arith, length-append x (joined xs))

pub end_most : (k : ℕ) (xs : List (List ℕ)) (i : ℕ) → i ≤ length xs → end_at k xs i ≤ k + length (joined xs)
end_most k [] zero h = omega arith
end_most k [] (suc i) h = absurd (omega arith)
end_most k (x ∷ xs) zero h = omega arith
end_most k (x ∷ xs) (suc i) h = omega (arith, end_most (k + length x) xs i (omega arith), length-append x (joined xs))

cut_from : (p : List ℕ) (xs : List (List ℕ)) (t : List ℕ) (i k : ℕ) → length p ≡ k → i < length xs
    → take (end_at k xs (suc i) - end_at k xs i) (drop (end_at k xs i) (p ++ joined xs ++ t)) ≡ get_or xs i []
cut_from p [] t i k e h = absurd (omega arith)
cut_from p (x ∷ xs) t zero k e h =
    let n : end_at (k + length x) xs 0 - k ≡ length x = omega (arith, end_first (k + length x) xs) in
    ap₂ {C = List ℕ} (λ (a : ℕ) (y : List ℕ). take a y) n
    (ap (drop k) (append_assoc p (x ++ joined xs) t) ∙ drop_at p ((x ++ joined xs) ++ t) k e ∙ append_assoc x (joined xs) t)
    ∙ take_at x (joined xs ++ t) (length x) refl
cut_from p (x ∷ xs) t (suc i) k e h =
    let from : ℕ → ℕ = end_at (k + length x) xs in
    ap (λ (y : List ℕ). take (from (suc i) - from i) (drop (from i) (y ++ t))) (sym (append_assoc p x (joined xs)))
    ∙ cut_from (p ++ x) xs t i (k + length x) (length-append p x ∙ omega arith) (omega arith)

-- part i lies between ends i and i + 1
pub cut_at : (xs : List (List ℕ)) (t : List ℕ) (i : ℕ) → i < length xs
    → take (end_at 0 xs (suc i) - end_at 0 xs i) (drop (end_at 0 xs i) (joined xs ++ t)) ≡ get_or xs i []
cut_at xs t i h = cut_from [] xs t i 0 refl h

-- ---- a function at every element of a part
module _ {A B : Type 0} (f : A → B) where
  pub map_take : (n : ℕ) (xs : List A) → map f (take n xs) ≡ take n (map f xs)
  map_take zero xs = refl
  map_take (suc n) [] = refl
  map_take (suc n) (x ∷ xs) = ap (λ (l : List B). f x ∷ l) (map_take n xs)

  pub map_drop : (n : ℕ) (xs : List A) → map f (drop n xs) ≡ drop n (map f xs)
  map_drop zero xs = refl
  map_drop (suc n) [] = refl
  map_drop (suc n) (x ∷ xs) = map_drop n xs

-- ---- adding up f at 0, 1, .., n - 1

-- t is the sum of the first i of n
abbrev pub Adding : (ℕ → ℕ) → ℕ → ℕ → ℕ → Type 0
Adding f n i t = (i ≤ n) × (t + sum (each i (n - i) f) ≡ sum (each 0 n f))

pub adding_begin : (f : ℕ → ℕ) (n : ℕ) → Adding f n 0 0
adding_begin f n = (omega arith, zero-add (sum (each 0 (n - 0) f)) ∙ ap (λ (k : ℕ). sum (each 0 k f)) (sub-zero n))

pub adding_more : (f : ℕ → ℕ) (n i t : ℕ) → Adding f n i t → i < n → Adding f n (i + 1) (t + f i)
adding_more f n i t h l = (omega arith, rw (add-one i) (omega (arith, h.1, ap sum (each_step f n i l))))

-- what is added next stays within the sum
pub adding_most : (f : ℕ → ℕ) (n i t : ℕ) → Adding f n i t → i < n → t + f i ≤ sum (each 0 n f)
adding_most f n i t h l = omega (arith, h.1, ap sum (each_step f n i l))

pub adding_end : (f : ℕ → ℕ) (n i t : ℕ) → Adding f n i t → n ≤ i → t ≡ sum (each 0 n f)
adding_end f n i t h l = omega (arith, h.1, ap sum (each_none f n i l))

-- no one of k is over b, so they are not over k times b
pub sum_most : (f : ℕ → ℕ) (b i k : ℕ) → ((j : ℕ) → i ≤ j → j < i + k → f j ≤ b) → sum (each i k f) ≤ k * b
sum_most f b i zero h = omega arith
sum_most f b i (suc k) h = omega (arith, h i (omega arith) (omega arith), sum_most f b (suc i) k (λ j x y. h j (omega arith) (omega arith)))
