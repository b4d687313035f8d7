-- Rows side by side: a field more of each is as good as the rows one after the other, since no row reaches into the next. Assumes nothing.
use Prim.Native.Nat.{ℕ, zero, suc, ◌+◌, ◌-◌, ◌<◌, ◌≤◌}
use mathlib.Core.Path.{◌≡◌, refl, sym, ap, ap₂, ◌∙◌}
use mathlib.Core.List.{List, [], ◌∷◌, ◌++◌}
use mathlib.Core.Logic.{◌⊎◌, inl, inr}
use native.Mathlib.Omega.{arith}
use lib.ListN.{length, set, length-append}
use lib.Seq.{sets, set_comm}
use Rattle.format.specs.Lists.{each, joined}
use Rattle.basics.proofs.Append.{sets_append}
use Rattle.basics.proofs.Compare.{choose}
use Rattle.chunk_writer.specs.Cursors.{cursor, placed, Moved}

-- ---- runs of bytes apart from each other
set_apart : (xs l : List ℕ) (i j x : ℕ) → j < i → sets (set l j x) i xs ≡ set (sets l i xs) j x
set_apart [] l i j x h = refl
set_apart (y ∷ ys) l i j x h =
    ap (λ (m : List ℕ). sets m (suc i) ys) (set_comm l j i x y (λ e. absurd (omega (arith, e)))) ∙ set_apart ys (set l i y) (suc i) j x (omega arith)

sets_apart : (v xs l : List ℕ) (j i : ℕ) → j + length v ≤ i → sets (sets l j v) i xs ≡ sets (sets l i xs) j v
sets_apart [] xs l j i h = refl
sets_apart (x ∷ v) xs l j i h =
    sets_apart v xs (set l j x) (suc j) i (omega arith) ∙ ap (λ (m : List ℕ). sets m (suc j) v) (set_apart xs l i j x (omega arith))

-- ---- pieces at places

-- the same pieces at the same places
pub placed_same : (place place' : ℕ → ℕ) (piece piece' : ℕ → List ℕ) (i k : ℕ) (out : List ℕ)
    → ((j : ℕ) → i ≤ j → j < i + k → (place j ≡ place' j) × (piece j ≡ piece' j)) → placed place piece i k out ≡ placed place' piece' i k out
placed_same place place' piece piece' i zero out h = refl
placed_same place place' piece piece' i (suc k) out h =
    let e = h i (omega arith) (omega arith) in
    ap (placed place piece (suc i) k) (ap₂ (sets out) e.0 e.1)
    ∙ placed_same place place' piece piece' (suc i) k (sets out (place' i) (piece' i)) (λ j a b. h j (omega arith) (omega arith))

-- pieces of no bytes
pub placed_empty : (place : ℕ → ℕ) (i k : ℕ) (out : List ℕ) → placed place (λ j. []) i k out ≡ out
placed_empty place i zero out = refl
placed_empty place i (suc k) out = placed_empty place (suc i) k out

-- so many, and then the others
pub placed_split : (place : ℕ → ℕ) (piece : ℕ → List ℕ) (i a b : ℕ) (out : List ℕ)
    → placed place piece i (a + b) out ≡ placed place piece (i + a) b (placed place piece i a out)
placed_split place piece i zero b out =
    ap (λ (k : ℕ). placed place piece i k out) {x = 0 + b} {y = b} (omega arith)
    ∙ ap (λ (j : ℕ). placed place piece j b out) {x = i} {y = i + 0} (omega arith)
placed_split place piece i (suc a) b out =
    ap (λ (k : ℕ). placed place piece i k out) {x = suc a + b} {y = suc (a + b)} (omega arith)
    ∙ placed_split place piece (suc i) a b (sets out (place i) (piece i))
    ∙ ap (λ (j : ℕ). placed place piece j b (placed place piece i (suc a) out)) {x = suc i + a} {y = i + suc a} (omega arith)

-- pieces that follow each other are one run
pub placed_run : (place : ℕ → ℕ) (piece : ℕ → List ℕ) (i k : ℕ) (out : List ℕ)
    → ((j : ℕ) → i ≤ j → j < i + k → place (suc j) ≡ place j + length (piece j)) → placed place piece i k out ≡ sets out (place i) (joined (each i k piece))
placed_run place piece i zero out h = refl
placed_run place piece i (suc k) out h =
    placed_run place piece (suc i) k (sets out (place i) (piece i)) (λ j a b. h j (omega arith) (omega arith))
    ∙ ap (λ (p : ℕ). sets (sets out (place i) (piece i)) p (joined (each (suc i) k piece))) (h i (omega arith) (omega arith))
    ∙ sym (sets_append (piece i) (joined (each (suc i) k piece)) out (place i))

-- a run before all places changes nothing in them
placed_beside : (place : ℕ → ℕ) (piece : ℕ → List ℕ) (i k : ℕ) (out : List ℕ) (x : ℕ) (v : List ℕ)
    → ((j : ℕ) → i ≤ j → j < i + k → x + length v ≤ place j) → placed place piece i k (sets out x v) ≡ sets (placed place piece i k out) x v
placed_beside place piece i zero out x v h = refl
placed_beside place piece i (suc k) out x v h =
    ap (placed place piece (suc i) k) (sets_apart v (piece i) out x (place i) (h i (omega arith) (omega arith)))
    ∙ placed_beside place piece (suc i) k (sets out (place i) (piece i)) x v (λ j a b. h j (omega arith) (omega arith))

-- each of k places and its length ends before the next place
abbrev pub Apart : (ℕ → ℕ) → (ℕ → ℕ) → ℕ → ℕ → Type 0
Apart place len i k = (j : ℕ) → i ≤ j → suc j < i + k → place j + len j ≤ place (suc j)

-- and before all later ones
apart_far : (place len : ℕ → ℕ) (i k d : ℕ) → Apart place len i k → i + suc d < i + k → place i + len i ≤ place (i + suc d)
apart_far place len i k zero h l = rw (the_next) (h i (omega arith) (omega arith))
  where
    the_next : i + 1 ≡ suc i
    the_next = omega arith
apart_far place len i k (suc d) h l =
    let e : i + suc (suc d) ≡ suc (i + suc d) = omega arith in
    rw e (omega (arith, apart_far place len i k d h (omega arith), h (i + suc d) (omega arith) (omega arith)))

apart_later : (place len : ℕ → ℕ) (i k j : ℕ) → Apart place len i k → i < j → j < i + k → place i + len i ≤ place j
apart_later place len i k j h a b =
    let e : i + suc (j - suc i) ≡ j = omega arith in
    rw e at (apart_far place len i k (j - suc i) h (omega arith))

-- two pieces each are one piece each, and then the other
pub placed_both : (place : ℕ → ℕ) (f g : ℕ → List ℕ) (i k : ℕ) (out : List ℕ) → Apart place (λ j. length (f j) + length (g j)) i k
    → placed place (λ j. f j ++ g j) i k out ≡ placed (λ j. place j + length (f j)) g i k (placed place f i k out)
placed_both place f g i zero out h = refl
placed_both place f g i (suc k) out h =
    ap (placed place (λ j. f j ++ g j) (suc i) k) (sets_append (f i) (g i) out (place i))
    ∙ placed_both place f g (suc i) k (sets (sets out (place i) (f i)) (place i + length (f i)) (g i)) (λ j a b. h j (omega arith) (omega arith))
    ∙ ap (placed (λ j. place j + length (f j)) g (suc i) k) (placed_beside place f (suc i) k (sets out (place i) (f i)) (place i + length (f i)) (g i)
    (λ j a b. omega (arith, apart_later place (λ j. length (f j) + length (g j)) i (suc k) j h (omega arith) (omega arith))))

-- ---- cursors that move

-- past one piece and then past another
pub moved_both : {f g : ℕ → List ℕ} {from to : ℕ} {xs ys zs : List ℕ} → Moved f from to xs ys → Moved g from to ys zs
    → Moved (λ r. f r ++ g r) from to xs zs
moved_both {f} {g} s t = record {
  same = t.same ∙ s.same;
  past = λ r a b. omega (arith, s.past r a b, t.past r a b, length-append (f r) (g r));
  before = λ i h. t.before i h ∙ s.before i h;
  after = λ i h. t.after i h ∙ s.after i h;
}

-- some rows and then those after them
module _ {f : ℕ → List ℕ} {from mid to : ℕ} {xs ys zs : List ℕ} (s : Moved f from mid xs ys) (t : Moved f mid to ys zs) where
  either : (r : ℕ) → from ≤ r → (r < mid) ⊎ (mid ≤ r) → r < to → cursor zs r ≡ cursor xs r + length (f r)
  either r a (inl l) b = t.before (suc r) (omega arith) ∙ s.past r a l
  either r a (inr l) b = t.past r l b ∙ ap (λ (k : ℕ). k + length (f r)) (s.after (suc r) (omega arith))

  pub moved_on : from ≤ mid → mid ≤ to → Moved f from to xs zs
  moved_on p q = record {
    same = t.same ∙ s.same;
    past = λ r a b. either r a (choose r mid) b;
    before = λ i h. t.before i (omega arith) ∙ s.before i h;
    after = λ i h. t.after i h ∙ s.after i (omega arith);
  }

-- past the same pieces, said another way
pub moved_same : {f g : ℕ → List ℕ} {from to : ℕ} {xs ys : List ℕ} → ((r : ℕ) → f r ≡ g r) → Moved f from to xs ys → Moved g from to xs ys
moved_same {f} {g} {from} {to} {xs} {ys} e t = record {
  same = t.same;
  past = λ r a b. t.past r a b ∙ ap (λ (l : List ℕ). cursor xs r + length l) (e r);
  before = t.before;
  after = t.after;
}
