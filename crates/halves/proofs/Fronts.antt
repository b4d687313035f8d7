-- A row's front and the key: what the tests of the two searches say of a row, and that a row passes where one before it does. Assumes nothing.
use Prim.Native.Nat.Ordering.{eq}
use Prim.Native.Nat.Ordering.{gt}
use Prim.Native.Nat.Ordering.{lt}
use Prim.Native.Nat.{ℕ, zero, suc, compare, Ordering}
use mathlib.Core.Path.{◌≡◌, refl, ap, ap₂, sym, ◌∙◌}
use mathlib.Core.Bool.{Bool, true, false, not, true≢false}
use mathlib.Core.List.{List, [], ◌∷◌, ◌++◌}
use native.Mathlib.Omega.{arith}
use lib.Dec.{eqb}
use lib.ListN.{length, get_or, take, drop, take-append-drop}
use lib.Seq.{take_at}
use borrow.Author.Tests.{eqb-true, eq-eqb, not-true, not-false}
use Rattle.format.specs.Order.{Begins, cmp, then}
use Rattle.format.specs.Batch.{is_below, below}
use Rattle.basics.proofs.Compare.{Tri, below as less, same, above, tri}
use Rattle.laws.proofs.Below.{heads_below, heads_above, heads_same, none_below, below_self, below_not, up_trans, up_antisym}
use Rattle.laws.proofs.Parsed.{and_true}
use Rattle.format.specs.Lookup.{begins}
use Rattle.halves.specs.Turns.{front, reached, passed, Rises}

-- ---- of two rows neither cut to m bytes is below the other, where it was not before
front_up : (m : ℕ) (x y : List ℕ) → below y x ≡ false → below (take m y) (take m x) ≡ false
front_up zero x y h = refl
front_up (suc m) [] y h = none_below (take (suc m) y)
front_up (suc m) (x ∷ xs) [] h = absurd (true≢false h)
front_up (suc m) (x ∷ xs) (y ∷ ys) h = go (compare y x) (tri y x) (front_up m xs ys)
  where
    go : (o : Ordering) → Tri y x o → (below ys xs ≡ false → below (take m ys) (take m xs) ≡ false) → below (y ∷ take m ys) (x ∷ take m xs) ≡ false
    go lt (less u) ih = absurd (true≢false (sym (heads_below y x ys xs u) ∙ h))
    go eq (same u) ih = heads_same y x (take m ys) (take m xs) u ∙ ih (sym (heads_same y x ys xs u) ∙ h)
    go gt (above u) ih = heads_above y x (take m ys) (take m xs) u

-- ---- a row's front stands below the key where the row does, and above it only where the row does

then_below : (o p q : Ordering) → is_below p ≡ is_below q → is_below (then o p) ≡ is_below (then o q)
then_below lt p q e = refl
then_below eq p q e = e
then_below gt p q e = refl

front_below : (key x : List ℕ) → below (front key x) key ≡ below x key
front_below [] x = sym (none_below x)
front_below (k ∷ key) [] = refl
front_below (k ∷ key) (y ∷ x) = then_below (compare y k) (cmp (front key x) key) (cmp x key) (front_below key x)

then_above : (o p q : Ordering) → (is_below p ≡ true → is_below q ≡ true) → is_below (then o p) ≡ true → is_below (then o q) ≡ true
then_above lt p q f h = refl
then_above eq p q f h = f h
then_above gt p q f h = h

pub passed_above : (key x : List ℕ) → passed key x ≡ true → below key x ≡ true
passed_above [] x h = absurd (true≢false (sym h))
passed_above (k ∷ key) [] h = h
passed_above (k ∷ key) (y ∷ x) h = then_above (compare k y) (cmp key (front key x)) (cmp key x) (passed_above key x) h

-- a row that is not reached is below the key
pub short_below : (key x : List ℕ) → reached key x ≡ false → below x key ≡ true
short_below key x h = sym (front_below key x) ∙ not-false (below (front key x) key) h

-- ---- what begins with the key has it in front, and so it is reached and not passed

begins_front : (key x : List ℕ) → begins key x ≡ true → front key x ≡ key
begins_front [] x h = refl
begins_front (k ∷ key) [] h = absurd (true≢false (sym h))
begins_front (k ∷ key) (y ∷ x) h =
    let t = and_true (eqb k y) (begins key x) h in
    ap₂ {C = List ℕ} (λ a b. a ∷ b) (sym (eqb-true k y t.0)) (begins_front key x t.1)

front_begins : (key x : List ℕ) → front key x ≡ key → begins key x ≡ true
front_begins [] x e = refl
front_begins (k ∷ key) [] e = absurd (omega (arith, ap length e))
front_begins (k ∷ key) (y ∷ x) e =
    let head : k ≡ y = sym (ap {B = ℕ} (λ (z : List ℕ). get_or z 0 0) e) in
    rw (eq-eqb k y head) (front_begins key x (ap (drop 1) e))

-- a row begins with the key where the definition's test holds
pub begins_begun : (key x : List ℕ) → begins key x ≡ true → Begins key x
begins_begun key x h =
    (drop (length key) x, ap (λ (z : List ℕ). z ++ drop (length key) x) (sym (begins_front key x h)) ∙ take-append-drop (length key) x)

pub begun_begins : (key x : List ℕ) → Begins key x → begins key x ≡ true
begun_begins key x h = front_begins key x (ap (front key) (sym h.1) ∙ take_at key h.0 (length key) refl)

pub begun_reached : (key x : List ℕ) → begins key x ≡ true → reached key x ≡ true
begun_reached key x h = rw (begins_front key x h) (ap not (below_self key))

pub begun_left : (key x : List ℕ) → begins key x ≡ true → passed key x ≡ false
begun_left key x h = rw (begins_front key x h) (below_self key)

-- and nothing else is reached and not passed
pub left_begun : (key x : List ℕ) → reached key x ≡ true → passed key x ≡ false → begins key x ≡ true
left_begun key x h k = front_begins key x (up_antisym (front key x) key (not-true (below (front key x) key) h) k)

-- what is passed is reached
pub passed_reached : (key x : List ℕ) → passed key x ≡ true → reached key x ≡ true
passed_reached key x h = ap not (below_not key (front key x) h)

-- ---- a row that is not below one that passes a test passes it
pub reached_rises : (key : List ℕ) → Rises (reached key)
reached_rises key x y h k =
    ap not (up_trans key (front key x) (front key y) (not-true (below (front key x) key) k) (front_up (length key) x y h))

pub passed_rises : (key : List ℕ) → Rises (passed key)
passed_rises key x y h k = go (passed key y) refl
  where
    go : (t : Bool) → passed key y ≡ t → t ≡ true
    go true e = refl
    go false e = absurd (true≢false (sym k ∙ up_trans (front key x) (front key y) key (front_up (length key) x y h) e))
