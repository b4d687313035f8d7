-- Row starts: cursors that are set one by one, lengths that are added up at them, and the starts that come of these. Assumes nothing.
use Prim.Native.Nat.{ℕ, zero, suc, ◌+◌, ◌-◌, ◌<◌, ◌≤◌, ◌^◌}
use mathlib.Core.Path.{◌≡◌, refl, sym, ap, ◌∙◌}
use mathlib.Core.List.{List, [], ◌∷◌, ◌++◌}
use mathlib.Core.Logic.{◌⊎◌, inl, inr}
use native.Mathlib.Numerals.{add-one}
use native.Mathlib.Omega.{arith}
use lib.ListN.{length, get_or, set, length-set, length-append}
use lib.Seq.{get_or-set_same, get_or-set_other}
use Rattle.format.specs.declared.Column.{Column}
use Rattle.format.specs.Lists.{each, joined, sum}
use Rattle.basics.proofs.Compare.{choose}
use Rattle.basics.proofs.Lists.{each_same}
use Rattle.chunk_writer.specs.Cursors.{cursor}
use Rattle.row_writer.specs.Starts.{Stays, CursorsAt, Fits, Longer, slot_length, so_far, start_of, row_start}

-- ---- cursors set one by one

module _ {f : ℕ → ℕ} {r : ℕ} {xs now : List ℕ} (t : CursorsAt f r xs now) where
  -- the next is as it was
  pub cursors_still : get_or now (r + 1) 0 ≡ cursor xs r
  cursors_still = rw (add-one r) (t.stays.after (suc r) (omega arith))

  module _ (v : ℕ) (room : r + 1 < length now) (e : v ≡ f r) where
    says_at : (j : ℕ) → (j < r) ⊎ (r ≤ j) → j < r + 1 → cursor (set now (r + 1) v) j ≡ f j
    says_at j (inl l) b = get_or-set_other now (r + 1) (suc j) v 0 (λ q. absurd (omega (arith, q))) ∙ t.says j l
    says_at j (inr l) b =
        let q : r ≡ j = omega arith in
        rw (← q, ← add-one r) (get_or-set_same now (r + 1) v 0 room ∙ e)

    -- it is set
    pub cursors_more : CursorsAt f (r + 1) xs (set now (r + 1) v)
    cursors_more = record {
      stays = record {
        same = length-set now (r + 1) v ∙ t.stays.same;
        first = get_or-set_other now (r + 1) 0 v 0 (λ q. absurd (omega (arith, q))) ∙ t.stays.first;
        after = λ i h. get_or-set_other now (r + 1) i v 0 (λ q. absurd (omega (arith, q))) ∙ t.stays.after i (omega arith);
      };
      says = λ j h. says_at j (choose j r) h;
    }

pub stays_on : {n : ℕ} {xs ys zs : List ℕ} → Stays n xs ys → Stays n ys zs → Stays n xs zs
stays_on s t = record { same = t.same ∙ s.same; first = t.first ∙ s.first; after = λ i h. t.after i h ∙ s.after i h }

-- ---- sums

-- one more
pub each_snoc : {A : Type 0} (i k : ℕ) (f : ℕ → A) → each i (suc k) f ≡ each i k f ++ (f (i + k) ∷ [])
each_snoc i zero f = ap (λ (j : ℕ). f j ∷ []) {x = i} {y = i + 0} (omega arith)
each_snoc i (suc k) f =
    ap (λ l. f i ∷ l) (each_snoc (suc i) k f ∙ ap (λ (j : ℕ). each (suc i) k f ++ (f j ∷ [])) {x = suc i + k} {y = i + suc k} (omega arith))

pub sum_append : (xs ys : List ℕ) → sum (xs ++ ys) ≡ sum xs + sum ys
sum_append [] ys = omega arith
sum_append (x ∷ xs) ys = omega (arith, sum_append xs ys)

pub sum_next : (f : ℕ → ℕ) (r : ℕ) → sum (each 0 (r + 1) f) ≡ sum (each 0 r f) + f r
sum_next f r =
    ap (λ (k : ℕ). sum (each 0 k f)) (add-one r) ∙ ap sum (each_snoc 0 r f) ∙ sum_append (each 0 r f) (f (0 + r) ∷ [])
    ∙ ap (λ (j : ℕ). sum (each 0 r f) + (f j + 0)) {x = 0 + r} {y = r} (omega arith) ∙ omega arith

-- the sum of k is not over the sum of more
pub sum_below : (f : ℕ → ℕ) (r d : ℕ) → sum (each 0 r f) ≤ sum (each 0 (r + d) f)
sum_below f r zero = rw (the_same) (omega arith)
  where
    the_same : r + 0 ≡ r
    the_same = omega arith
sum_below f r (suc d) =
    let e : r + suc d ≡ (r + d) + 1 = omega arith in
    rw e (omega (arith, sum_below f r d, sum_next f (r + d)))

pub sum_within : (f : ℕ → ℕ) (r n : ℕ) → r ≤ n → sum (each 0 r f) ≤ sum (each 0 n f)
sum_within f r n h =
    let e : r + (n - r) ≡ n = omega arith in
    rw e at (sum_below f r (n - r))

-- the bytes of parts together
pub joined_sum : (f : ℕ → List ℕ) (i k : ℕ) → length (joined (each i k f)) ≡ sum (each i k (λ j. length (f j)))
joined_sum f i zero = refl
joined_sum f i (suc k) = omega (arith, length-append (f i) (joined (each (suc i) k f)), joined_sum f (suc i) k)

-- a part and the parts before it are not over all of them
pub joined_within : (f : ℕ → List ℕ) (r n : ℕ) → r < n → length (joined (each 0 r f)) + length (f r) ≤ length (joined (each 0 n f))
joined_within f r n h =
    omega (arith, joined_sum f 0 r, joined_sum f 0 n, sum_next (λ j. length (f j)) r, sum_within (λ j. length (f j)) (r + 1) n (omega arith))

pub joined_next : (f : ℕ → List ℕ) (c : ℕ) → length (joined (each 0 (c + 1) f)) ≡ length (joined (each 0 c f)) + length (f c)
joined_next f c = joined_sum f 0 (c + 1) ∙ sum_next (λ j. length (f j)) c ∙ ap (λ (k : ℕ). k + length (f c)) (sym (joined_sum f 0 c))

pub start_next : (row : ℕ → List ℕ) (r : ℕ) → row_start row (suc r) ≡ row_start row r + length (row r)
start_next row r = ap (row_start row) (sym (add-one r)) ∙ joined_next row r

-- rows whose lengths are added up begin where they should
pub starts_are : (row : ℕ → List ℕ) (fixed n : ℕ) (xs : List ℕ) → ((r : ℕ) → r < n → so_far fixed xs r ≡ length (row r)) → (r : ℕ) → r ≤ n
    → start_of fixed xs r ≡ row_start row r
starts_are row fixed n xs h r l = ap sum (each_same 0 r (so_far fixed xs) (λ i. length (row i)) (λ j a b. h j (omega arith))) ∙ sym (joined_sum row 0 r)

-- ---- the lengths of c fields of each row, at the cursors
pub record Lengths (F : ℕ → ℕ → List ℕ) (n : ℕ) (xs now : List ℕ) (fixed c : ℕ) : Type 0 where
  pub stays : Stays n xs now
  pub says : (r : ℕ) → r < n → so_far fixed now r ≡ length (joined (each 0 c (F r)))

module _ {F : ℕ → ℕ → List ℕ} {n : ℕ} {xs now : List ℕ} {fixed c : ℕ} (t : Lengths F n xs now fixed c) where
  module _ (col : Column) (s : List ℕ) (same : (r : ℕ) → r < n → length (F r c) ≡ slot_length col n s r) where
    -- the next fields fit
    pub lengths_fit : (count : ℕ) → c < count → length (joined (each 0 n (λ r. joined (each 0 count (F r))))) < 2 ^ 64 → Fits col n s fixed now
    lengths_fit count h small r l =
        omega (arith, t.says r l, same r l, joined_within (F r) c count h, joined_within (λ r. joined (each 0 count (F r))) r n l)

    -- they are added
    pub lengths_more : (fixed' : ℕ) (now' : List ℕ) → Longer col n s fixed now fixed' now' → Lengths F n xs now' fixed' (c + 1)
    lengths_more fixed' now' p = record {
      stays = stays_on t.stays p.stays;
      says = λ r l. omega (arith, t.says r l, p.says r l, same r l, joined_next (F r) c);
    }

  -- all are
  module _ (count : ℕ) (e : c ≡ count) where
    abbrev rows : ℕ → List ℕ
    rows r = joined (each 0 count (F r))

    pub lengths_are : (r : ℕ) → r ≤ n → start_of fixed now r ≡ row_start rows r
    lengths_are = starts_are rows fixed n now (λ r l. t.says r l ∙ ap (λ (k : ℕ). length (joined (each 0 k (F r)))) e)

    pub lengths_end : {entry ys : List ℕ} → Stays n entry xs → CursorsAt (start_of fixed now) n now ys → CursorsAt (row_start rows) n entry ys
    lengths_end s p = record { stays = stays_on s (stays_on t.stays p.stays); says = λ r l. p.says r l ∙ lengths_are r (omega arith) }
