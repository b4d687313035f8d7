-- The merge: what holds at the head of its loop, and the row that each turn takes. Assumes nothing.
use Prim.Native.Nat.{ℕ, suc, ◌+◌, ◌-◌, ◌*◌, ◌<◌, ◌≤◌}
use mathlib.Core.Path.{◌≡◌, refl, ap, ap₂, sym, ◌∙◌}
use mathlib.Core.Bool.{Bool, true, false, true≢false}
use mathlib.Core.Logic.{◌⊎◌, inl, inr}
use mathlib.Core.List.{List, [], ◌∷◌, ◌++◌}
use native.Mathlib.Nat.{sub-zero}
use native.Mathlib.Numerals.{add-one}
use native.Mathlib.Omega.{arith}
use lib.ListN.{length, set}
use borrow.Author.Tests.{le-leb, lt-leb}
use Rattle.format.specs.Limits.{max_rows}
use Rattle.format.specs.Lists.{each, over}
use Rattle.format.specs.Batch.{below}
use Rattle.format.specs.Join.{Entry, entries_from, sorted, join_order}
use Rattle.basics.proofs.Append.{each_step, each_none, over_sets, Walk, walk_start, walk_at, walk_more, walk_end}
use Rattle.basics.proofs.Compare.{choose}
use Rattle.basics.proofs.Lists.{length_each}
use Rattle.joiner.specs.Rows.{second_next}
use Rattle.joiner.proofs.Sorting.{Each, Up, numbers, length_order, takes_only, takes_first, takes_past, takes_second}

-- the entries of pass p, of the n rows f, from row i on
abbrev pub left_of : ℕ → ℕ → (ℕ → List ℕ) → ℕ → List Entry
left_of p n f i = entries_from p i (each i (n - i) f)

abbrev pub entry : ℕ → (ℕ → List ℕ) → ℕ → Entry
entry p f i = record { number = max_rows * p + i; bytes = f i }

-- the first of them, and the others
left_step : (p n : ℕ) (f : ℕ → List ℕ) (i : ℕ) → i < n → left_of p n f i ≡ entry p f i ∷ left_of p n f (i + 1)
left_step p n f i h = rw (add-one i) (ap (entries_from p i) (each_step f n i h))

left_none : (p n : ℕ) (f : ℕ → List ℕ) (i : ℕ) → n ≤ i → left_of p n f i ≡ []
left_none p n f i h = ap (entries_from p i) (each_none f n i h)

-- n rows f of pass 0 and m rows g of pass 1 are to be joined into a list
module _ (n : ℕ) (f : ℕ → List ℕ) (m : ℕ) (g : ℕ → List ℕ) (list₀ : List ℕ) where
  abbrev whole : List ℕ
  whole = join_order (each 0 n f) (each 0 m g)

  -- the order of the rows from i and from j on
  abbrev left : ℕ → ℕ → List ℕ
  left i j = numbers (sorted (left_of 0 n f i ++ left_of 1 m g j))

  -- i rows of pass 0 and j rows of pass 1 are taken, and those that are left are in order
  pub record Merges (list : List ℕ) (i j : ℕ) : Type 0 where
    pub first : i ≤ n
    pub second : j ≤ m
    pub first_up : Each Up (left_of 0 n f i)
    pub second_up : Each Up (left_of 1 m g j)
    pub wrote : Walk whole (left i j) list₀ 0 list (i + j)

  pub merge_begin : Each Up (entries_from 0 0 (each 0 n f)) → Each Up (entries_from 1 0 (each 0 m g)) → Merges list₀ 0 0
  merge_begin h k = record {
    first = omega arith;
    second = omega arith;
    first_up = rw (sub-zero n) h;
    second_up = rw (sub-zero m) k;
    wrote = rw (sub-zero n, sub-zero m) (walk_start whole list₀ 0);
  }

  length_whole : length whole ≡ n + m
  length_whole = length_order (each 0 n f) (each 0 m g) ∙ ap₂ {C = ℕ} (λ a b. a + b) (length_each 0 n f) (length_each 0 m g)

  -- all are taken
  pub merge_end : {list : List ℕ} {i j : ℕ} → Merges list i j → n + m ≤ length list₀ → n + m ≤ i + j → list ≡ over whole list₀
  merge_end {list} {i} {j} t fits h =
      let none : left i j ≡ [] =
      ap₂ (λ (a b : List Entry). numbers (sorted (a ++ b))) (left_none 0 n f i (omega (arith, t.second))) (left_none 1 m g j (omega (arith, t.first))) in
      (walk_end t.wrote none).1 ∙ sym (over_sets whole list₀ (omega (arith, length_whole)))

  module _ {list : List ℕ} {i j : ℕ} (t : Merges list i j) (h : i + j < n + m) where
    -- ---- row j of pass 1
    module _ (b : Bool) (said : b ≡ second_next n f i m g j) (yes : b ≡ true) where
      q : second_next n f i m g j ≡ true
      q = sym said ∙ yes

      second_there : j < m
      second_there = go (choose j m)
        where
          go : (j < m) ⊎ (m ≤ j) → j < m
          go (inl l) = l
          go (inr l) = absurd (true≢false (sym q ∙ rw (le-leb m j l)))

      ups : Each Up (entry 1 g j ∷ left_of 1 m g (j + 1))
      ups = rw (left_step 1 m g j second_there) at t.second_up

      taken : sorted (left_of 0 n f i ++ left_of 1 m g j) ≡ entry 1 g j ∷ sorted (left_of 0 n f i ++ left_of 1 m g (j + 1))
      taken = rw (left_step 1 m g j second_there) (go (choose i n))
        where
          go : (i < n) ⊎ (n ≤ i)
              → sorted (left_of 0 n f i ++ (entry 1 g j ∷ left_of 1 m g (j + 1))) ≡ entry 1 g j ∷ sorted (left_of 0 n f i ++ left_of 1 m g (j + 1))
          go (inl l) =
              rw (left_step 0 n f i l)
              (takes_second (entry 0 f i) (entry 1 g j) (left_of 0 n f (i + 1)) (left_of 1 m g (j + 1)) (rw (left_step 0 n f i l) at t.first_up) ups
              (rw (lt-leb m j second_there, lt-leb n i l) at q))
          go (inr l) = rw (left_none 0 n f i l) (takes_past (entry 1 g j) [] (left_of 1 m g (j + 1)) tt ups)

      pub merge_second : (x : ℕ) → x ≡ max_rows + j → Merges (set list (i + j) x) i (j + 1)
      merge_second x e = record {
        first = t.first;
        second = omega (arith, second_there);
        first_up = t.first_up;
        second_up = ups.1;
        wrote =
            walk_at (i + (j + 1))
            (walk_more t.wrote (x ∷ []) (left i (j + 1)) (ap numbers taken ∙ ap (λ (z : ℕ). z ∷ left i (j + 1)) (omega arith)))
            (omega arith);
      }

    -- ---- row i of pass 0
    module _ (b : Bool) (said : b ≡ second_next n f i m g j) (no : b ≡ false) where
      q₀ : second_next n f i m g j ≡ false
      q₀ = sym said ∙ no

      first_there : i < n
      first_there = go (choose i n)
        where
          go : (i < n) ⊎ (n ≤ i) → i < n
          go (inl l) = l
          go (inr l) = absurd (true≢false (sym (rw (lt-leb m j (omega (arith, t.first)), le-leb n i l) refl) ∙ q₀))

      ups₀ : Each Up (entry 0 f i ∷ left_of 0 n f (i + 1))
      ups₀ = rw (left_step 0 n f i first_there) at t.first_up

      taken₀ : sorted (left_of 0 n f i ++ left_of 1 m g j) ≡ entry 0 f i ∷ sorted (left_of 0 n f (i + 1) ++ left_of 1 m g j)
      taken₀ = rw (left_step 0 n f i first_there) (go (choose j m))
        where
          go : (j < m) ⊎ (m ≤ j)
              → sorted ((entry 0 f i ∷ left_of 0 n f (i + 1)) ++ left_of 1 m g j) ≡ entry 0 f i ∷ sorted (left_of 0 n f (i + 1) ++ left_of 1 m g j)
          go (inl l) =
              rw (left_step 1 m g j l)
              (takes_first (entry 0 f i) (entry 1 g j) (left_of 0 n f (i + 1)) (left_of 1 m g (j + 1)) ups₀ (rw (left_step 1 m g j l) at t.second_up)
              (rw (lt-leb m j l, lt-leb n i first_there) at q₀))
          go (inr l) = rw (left_none 1 m g j l) (takes_only (entry 0 f i) (left_of 0 n f (i + 1)) ups₀)

      pub merge_first : (x : ℕ) → x ≡ i → Merges (set list (i + j) x) (i + 1) j
      merge_first x e = record {
        first = omega (arith, first_there);
        second = t.second;
        first_up = ups₀.1;
        second_up = t.second_up;
        wrote =
            walk_at (i + 1 + j)
            (walk_more t.wrote (x ∷ []) (left (i + 1) j) (ap numbers taken₀ ∙ ap (λ (z : ℕ). z ∷ left (i + 1) j) (omega arith)))
            (omega arith);
      }
