-- The loops over ends: what holds at their heads, and what each way out of a turn gives. Assumes nothing.
use Rattle.std.proofs.Common.{◌≡◌, ℕ, zero, suc, ◌+◌, ◌-◌, ◌*◌, ◌/◌, ◌%◌, ◌^◌, ◌<◌, ◌≤◌, ◌⊎◌, List, sym, refl, ap, ◌∙◌, subst, inl, inr, add-one, arith, le-ltb, lt-ltb}
use Rattle.format.specs.declared.Refusal.TheVariants.{Ends, LongSlot}
use Rattle.std.specs.declared.result.Result.TheVariants.{Ok, Err}
use Rattle.format.specs.Limits.{max_rows, max_slot}
use Rattle.format.specs.Passed.{Step}
use Rattle.format.specs.Sheet.{end, ends_fault}
use Rattle.basics.proofs.Compare.{choose}
use Rattle.sheet_ends.specs.Steps.{Steps}

-- ---- one turn of the definition
fall : (c : ℕ) (s : List ℕ) (i k : ℕ) → end s (suc i) < end s i → ends_fault c s i (suc k) ≡ Err (Ends c i)
fall c s i k h = rw (lt-ltb (end s (suc i)) (end s i) h)

over : (c : ℕ) (s : List ℕ) (i k : ℕ) → end s i ≤ end s (suc i) → max_slot < end s (suc i) - end s i
    → ends_fault c s i (suc k) ≡ Err (LongSlot c i)
over c s i k g h = rw (le-ltb (end s (suc i)) (end s i) g, lt-ltb max_slot (end s (suc i) - end s i) h)

pass : (c : ℕ) (s : List ℕ) (i k : ℕ) → end s i ≤ end s (suc i) → end s (suc i) - end s i ≤ max_slot
    → ends_fault c s i (suc k) ≡ ends_fault c s (suc i) k
pass c s i k g h = rw (le-ltb (end s (suc i)) (end s i) g, le-ltb max_slot (end s (suc i) - end s i) h)

-- ---- at the head of a turn: the rows so far pass
pub record Turn (c : ℕ) (s : List ℕ) (n row last : ℕ) : Type 0 where
  pub here : row ≤ n
  pub ends : last ≡ end s row
  pub says : ends_fault c s row (n - row) ≡ ends_fault c s 0 n

pub start : (c : ℕ) (s : List ℕ) (n last : ℕ) → last ≡ end s 0 → Turn c s n 0 last
start c s n last e = record { here = omega arith; ends = e; says = ap (ends_fault c s 0) (let z : n - 0 ≡ n = omega arith in z) }

-- ---- the ways on from the head of a turn
pub done : (c : ℕ) (s : List ℕ) (n row last : ℕ) → Turn c s n row last → n ≤ row → Ok tt ≡ ends_fault c s 0 n
done c s n row last t h = ap (ends_fault c s row) (let z : 0 ≡ n - row = omega arith in z) ∙ t.says

module _ (c : ℕ) (s : List ℕ) (n row last next : ℕ) (t : Turn c s n row last) (l : row < n) (e : next ≡ end s (row + 1)) where
  left : n - row ≡ suc (n - (row + 1))
  left = omega arith

  from : ends_fault c s row (suc (n - (row + 1))) ≡ ends_fault c s 0 n
  from = ap (ends_fault c s row) (sym left) ∙ t.says

  end_next : next ≡ end s (suc row)
  end_next = rw add-one at e

  pub falls : next < last → Err (Ends c row) ≡ ends_fault c s 0 n
  falls h = sym (fall c s row (n - (row + 1)) (rw (end_next, t.ends) at h)) ∙ from

  pub long : last ≤ next → max_slot < next - last → Err (LongSlot c row) ≡ ends_fault c s 0 n
  long g h = sym (over c s row (n - (row + 1)) (rw (end_next, t.ends) at g) (rw (end_next, t.ends) at h)) ∙ from

  pub more : last ≤ next → next - last ≤ max_slot → Turn c s n (row + 1) next
  more g h = record {
    here = omega arith;
    ends = e;
    says = ap (λ (j : ℕ). ends_fault c s j (n - (row + 1))) (add-one row)
        ∙ sym (pass c s row (n - (row + 1)) (rw (end_next, t.ends) at g) (rw (end_next, t.ends) at h)) ∙ from;
  }

-- ---- the sum of what the steps have beyond the limit

-- ends that all step so pass
pass_from : (c : ℕ) (s : List ℕ) (k i : ℕ) → ((j : ℕ) → i ≤ j → j < i + k → Step s j) → ends_fault c s i k ≡ Ok tt
pass_from c s zero i h = refl
pass_from c s (suc k) i h =
    let t = h i (omega arith) (omega arith) in
    pass c s i k t.rises t.short ∙ pass_from c s k (suc i) (λ j p q. h j (omega arith) (omega arith))

pub steps_pass : (c : ℕ) (s : List ℕ) (n : ℕ) → Steps n s → ends_fault c s 0 n ≡ Ok tt
steps_pass c s n h = pass_from c s n 0 (λ j p q. h j (omega arith))

-- at the head of a turn: a sum of 0 says that the rows so far do
pub record Sum (s : List ℕ) (n row excess : ℕ) : Type 0 where
  pub here : row ≤ n
  pub small : excess ≤ row * 281474976710656
  pub says : excess ≡ 0 → Steps row s

pub sum_start : (s : List ℕ) (n : ℕ) → Sum s n 0 0
sum_start s n = record { here = omega arith; small = omega arith; says = λ e j l. absurd (omega arith) }

-- it goes into a word
pub sum_fits : {s : List ℕ} {n row excess : ℕ} → Sum s n row excess → n ≤ max_rows → excess < 2 ^ 64
sum_fits t h = omega (arith, t.here, t.small)

module _ (s : List ℕ) (n row excess last next step : ℕ) (t : Sum s n row excess) (l : row < n) (e : last ≡ end s row) (f : next ≡ end s (row + 1))
    (b : last < 4294967296) (w : (step + last) % 2 ^ 64 ≡ next) (m : step < 2 ^ 64) where
  stepped : step / 2 ^ 16 ≡ 0 → Step s row
  stepped z =
      let is : step + last ≡ next = omega (arith, w, z, b) in
      let after : next ≡ end s (suc row) = rw add-one at f in
      record { rises = omega (arith, is, e, after); short = omega (arith, is, e, after, z) }

  pub sum_more : Sum s n (row + 1) (excess + step / 2 ^ 16)
  sum_more = record {
    here = omega arith;
    small = omega (arith, t.small, m);
    says = λ z j h. go z j (choose j row) h;
  }
    where
      go : excess + step / 2 ^ 16 ≡ 0 → (j : ℕ) → (j < row) ⊎ (row ≤ j) → j < row + 1 → Step s j
      go z j (inl p) h = t.says (omega (arith, z)) j p
      go z j (inr p) h = subst (Step s) (let same : row ≡ j = omega (arith, p, h) in same) (stepped (omega (arith, z)))
