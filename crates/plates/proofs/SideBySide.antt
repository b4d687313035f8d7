-- Sorted rows: of two none later is below, what stands between two that begin alike begins so too, and so rows that share their first
-- k fields stand side by side. Assumes nothing.
use Prim.Native.Nat.Ordering.{eq}
use Prim.Native.Nat.Ordering.{gt}
use Prim.Native.Nat.Ordering.{lt}
use Prim.Native.Nat.{ℕ, zero, suc, ◌+◌, ◌-◌, ◌<◌, ◌≤◌, compare, Ordering}
use mathlib.Core.Path.{◌≡◌, refl, ap, ap₂, sym, subst, ◌∙◌}
use mathlib.Core.List.{List, [], ◌∷◌, ◌++◌}
use native.Mathlib.Omega.{arith}
use lib.ListN.{take, drop, take-append-drop}
use Rattle.format.specs.declared.Column.{Column}
use Rattle.format.specs.Fits.{HasValues}
use Rattle.format.specs.Lists.{Bytes}
use Rattle.format.specs.Order.{Begins, cmp, then}
use Rattle.format.specs.Prefix.{first_fields, first_length}
use Rattle.format.specs.Row.{row}
use Rattle.basics.proofs.Bytes.{bytes_right}
use Rattle.basics.proofs.Compare.{Tri, below, same, above, tri, compare_lt, compare_gt, compare_eq}
use Rattle.laws.proofs.Fields.{bytes_row}
use Rattle.plates.specs.Prefix.{Sorted, Together}
use Rattle.plates.proofs.FirstFields.{fits_first, first_row, first_fields_lem}
use Rattle.demands.proofs.Orders.{lt≢eq}

-- two heads, and how the two strings compare then
heads : (x y : ℕ) (xs ys : List ℕ) (o : Ordering) → compare x y ≡ o → cmp (x ∷ xs) (y ∷ ys) ≡ then o (cmp xs ys)
heads x y xs ys o e = ap (λ (p : Ordering). then p (cmp xs ys)) e

gt≢lt : ¬ (gt ≡ lt)
gt≢lt e = let z : ◌≡◌ {A = ℕ} 0 1 = cc in omega arith

-- not below, and then not below: not below
up_trans : (a b c : List ℕ) → ¬ (cmp b a ≡ lt) → ¬ (cmp c b ≡ lt) → ¬ (cmp c a ≡ lt)
up_trans [] b [] h k e = lt≢eq (sym e)
up_trans [] b (z ∷ c) h k e = gt≢lt e
up_trans (x ∷ a) [] c h k e = h refl
up_trans (x ∷ a) (y ∷ b) [] h k e = k refl
up_trans (x ∷ a) (y ∷ b) (z ∷ c) h k e = go (compare y x) (compare z y) (tri y x) (tri z y) (up_trans a b c)
  where
    -- the third head is above the first
    far : x < z → ⊥
    far l = gt≢lt (sym (heads z x c a gt (compare_gt z x l)) ∙ e)

    go : (o p : Ordering) → Tri y x o → Tri z y p → (¬ (cmp b a ≡ lt) → ¬ (cmp c b ≡ lt) → ¬ (cmp c a ≡ lt)) → ⊥
    go lt p (below u) v ih = h (heads y x b a lt (compare_lt y x u))
    go eq lt (same u) (below v) ih = k (heads z y c b lt (compare_lt z y v))
    go eq eq (same u) (same v) ih =
        ih
        (λ q. h (heads y x b a eq (compare_eq y x u) ∙ q))
        (λ q. k (heads z y c b eq (compare_eq z y v) ∙ q))
        (sym (heads z x c a eq (compare_eq z x (v ∙ u))) ∙ e)
    go eq gt (same u) (above v) ih = far (omega arith)
    go gt lt (above u) (below v) ih = k (heads z y c b lt (compare_lt z y v))
    go gt eq (above u) (same v) ih = far (omega arith)
    go gt gt (above u) (above v) ih = far (omega arith)

-- no row is below itself
up_self : (a : List ℕ) → ¬ (cmp a a ≡ lt)
up_self [] e = lt≢eq (sym e)
up_self (x ∷ a) e = up_self a (sym (heads x x a a eq (compare_eq x x refl)) ∙ e)

-- what stands between two that begin alike begins so too
between : (f r s b : List ℕ) → ¬ (cmp b (f ++ r) ≡ lt) → ¬ (cmp (f ++ s) b ≡ lt) → Begins f b
between [] r s b h k = (b, refl)
between (x ∷ f) r s [] h k = absurd (h refl)
between (x ∷ f) r s (y ∷ b) h k = go (compare y x) (tri y x) (between f r s b)
  where
    go : (o : Ordering) → Tri y x o → (¬ (cmp b (f ++ r) ≡ lt) → ¬ (cmp (f ++ s) b ≡ lt) → Begins f b) → Begins (x ∷ f) (y ∷ b)
    go lt (below u) ih = absurd (h (heads y x b (f ++ r) lt (compare_lt y x u)))
    go eq (same u) ih =
        let g =
        ih
        (λ q. h (heads y x b (f ++ r) eq (compare_eq y x u) ∙ q))
        (λ q. k (heads x y (f ++ s) b eq (compare_eq x y (sym u)) ∙ q)) in
        (g.0, ap₂ {C = List ℕ} (λ p q. p ∷ q) (sym u) g.1)
    go gt (above u) ih = absurd (k (heads x y (f ++ s) b lt (compare_lt x y u)))

-- ---- sorted rows

-- row i + d is not below row i
in_order : (n : ℕ) (rows : ℕ → List ℕ) → Sorted n rows → (i d : ℕ) → i + d < n → ¬ (cmp (rows (i + d)) (rows i) ≡ lt)
in_order n rows s i zero l = subst (λ (m : ℕ). ¬ (cmp (rows m) (rows i) ≡ lt)) (let q : i ≡ i + zero = omega arith in q) (up_self (rows i))
in_order n rows s i (suc d) l =
    subst (λ (m : ℕ). ¬ (cmp (rows m) (rows i) ≡ lt)) (let q : suc (i + d) ≡ i + suc d = omega arith in q)
    (up_trans (rows i) (rows (i + d)) (rows (suc (i + d))) (in_order n rows s i d (omega arith)) (s (i + d) (omega arith)))

not_below : (n : ℕ) (rows : ℕ → List ℕ) → Sorted n rows → (i j : ℕ) → i ≤ j → j < n → ¬ (cmp (rows j) (rows i) ≡ lt)
not_below n rows s i j a b =
    let e : i + (j - i) ≡ j = omega arith in
    subst (λ (m : ℕ). ¬ (cmp (rows m) (rows i) ≡ lt)) e (in_order n rows s i (j - i) (omega arith))

-- the first fields of a row, and then its others
begun : (k : ℕ) (cols : List Column) (s : List ℕ) → first_fields k cols s ++ drop (first_length k cols s) s ≡ s
begun k cols s = take-append-drop (first_length k cols s) s

-- a row that begins with the first k fields of another has these
shares : (k : ℕ) (cols : List Column) (f g : List ℕ) → HasValues cols f → HasValues cols g → Begins (first_fields k cols f) g
    → first_fields k cols g ≡ first_fields k cols f
shares k cols f g v w h =
    let is : first_fields k cols f ≡ row (take k cols) (take k v.values)
    = ap (first_fields k cols) (sym v.spell) ∙ first_fields_lem k cols v.values v.fit in
    let bytes : Bytes (first_fields k cols f ++ h.0) = subst Bytes (w.spell ∙ sym h.1) (bytes_row cols w.values w.fit) in
    ap (first_fields k cols) (sym h.1 ∙ ap (λ (z : List ℕ). z ++ h.0) is)
    ∙ first_row k cols (take k v.values) h.0 (fits_first k cols v.values v.fit) (bytes_right (first_fields k cols f) h.0 bytes)
    ∙ sym is

-- rows of values that are sorted: those that share their first k fields stand side by side
pub side_by_side : (cols : List Column) (n : ℕ) (rows : ℕ → List ℕ) → ((r : ℕ) → r < n → HasValues cols (rows r)) → Sorted n rows
    → (k : ℕ) → Together n (λ r. first_fields k cols (rows r))
side_by_side cols n rows v s k i j l a b c e =
    let f : List ℕ = first_fields k cols (rows i) in
    let r : List ℕ = drop (first_length k cols (rows i)) (rows i) in
    let t : List ℕ = drop (first_length k cols (rows l)) (rows l) in
    let first : f ++ r ≡ rows i = begun k cols (rows i) in
    let last : f ++ t ≡ rows l = ap (λ (z : List ℕ). z ++ t) e ∙ begun k cols (rows l) in
    shares k cols (rows i) (rows j) (v i (omega arith)) (v j (omega arith))
    (between f r t (rows j)
    (λ q. not_below n rows s i j a (omega arith) (ap (cmp (rows j)) (sym first) ∙ q))
    (λ q. not_below n rows s j l b c (ap (λ (z : List ℕ). cmp z (rows j)) (sym last) ∙ q)))
