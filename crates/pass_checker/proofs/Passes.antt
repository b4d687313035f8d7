-- The check of a pass: what holds at the head of its loop over the rows, and what each way out answers. Assumes nothing.
use Prim.Native.Nat.{ℕ, suc, ◌+◌, ◌-◌, ◌<◌, ◌≤◌}
use mathlib.Core.Path.{◌≡◌, refl, ap, sym, ◌∙◌}
use mathlib.Core.Bool.{true, false}
use mathlib.Core.Logic.{◌⊎◌, inl, inr}
use mathlib.Core.List.{List, [], ◌∷◌}
use native.Mathlib.Nat.{sub-zero}
use native.Mathlib.Omega.{arith}
use borrow.Author.Tests.{lt-ltb, le-ltb}
use Rattle.format.specs.Check.{Check, fail_if}
use Rattle.std.specs.declared.result.Result.TheVariants.{Ok, Err}
use Rattle.format.specs.declared.Refusal.{Refusal}
use Rattle.format.specs.declared.Refusal.TheVariants.{ManyRows, OutOfOrder}
use Rattle.format.specs.Limits.{max_rows}
use Rattle.format.specs.Lists.{each}
use Rattle.format.specs.Entries.{cut_rows, offsets_fault}
use Rattle.format.specs.Batch.{below, order_from, order_fault, pass_fault}
use Rattle.basics.proofs.Append.{each_step, each_none}
use Rattle.basics.proofs.Compare.{choose}

-- ---- the loop

-- the rows from row r on
abbrev from_row : ℕ → ℕ → List (List ℕ) → Check
from_row p r [] = Ok tt
from_row p r (x ∷ xs) = order_from p r x xs

from_first : (p : ℕ) (xs : List (List ℕ)) → from_row p 0 xs ≡ order_fault p xs
from_first p [] = refl
from_first p (x ∷ xs) = refl

module _ (p n : ℕ) (f : ℕ → List ℕ) where
  -- the rows from row r on are out of order where all of them are
  pub record Orders (r : ℕ) : Type 0 where
    pub says : from_row p r (each r (n - r) f) ≡ order_fault p (each 0 n f)

  pub orders_begin : Orders 0
  orders_begin = record { says = rw (sub-zero n) (from_first p (each 0 n f)) }

  module _ (r : ℕ) (t : Orders r) where
    module _ (h : r + 1 < n) where
      next : fail_if (below (f (suc r)) (f r)) (OutOfOrder p (suc r)) (from_row p (suc r) (each (suc r) (n - suc r) f)) ≡ order_fault p (each 0 n f)
      next =
          ap (λ (z : List (List ℕ)). fail_if (below (f (suc r)) (f r)) (OutOfOrder p (suc r)) (from_row p (suc r) z)) (each_step f n (suc r) (omega arith))
          ∙ sym (ap (from_row p r) (each_step f n r (omega arith) ∙ ap (λ (z : List (List ℕ)). f r ∷ z) (each_step f n (suc r) (omega arith))))
          ∙ t.says

      -- row s, which comes after row r, is the first that is below the one before it
      pub orders_fault : (s : ℕ) → s ≡ r + 1 → below (f s) (f r) ≡ true → Err (OutOfOrder p s) ≡ order_fault p (each 0 n f)
      orders_fault s q e = let u : s ≡ suc r = omega arith in rw u (rw (rw u at e) at next)

      -- it is not
      pub orders_more : (s : ℕ) → s ≡ r + 1 → below (f s) (f r) ≡ false → Orders s
      orders_more s q e = let u : s ≡ suc r = omega arith in rw u (record { says = rw (rw u at e) at next })

    -- no row is
    pub orders_end : n ≤ r + 1 → Ok tt ≡ order_fault p (each 0 n f)
    orders_end h = go (choose r n)
      where
        go : (r < n) ⊎ (n ≤ r) → Ok tt ≡ order_fault p (each 0 n f)
        go (inl l) =
            sym (ap (from_row p r) (each_step f n r l ∙ ap (λ (z : List (List ℕ)). f r ∷ z) (each_none f n (suc r) (omega arith)))) ∙ t.says
        go (inr l) = sym (ap (from_row p r) (each_none f n r l)) ∙ t.says

-- ---- the ways out
module _ (p n : ℕ) (bytes offsets : List ℕ) where
  -- 6
  pub many : max_rows < n → Err (ManyRows n) ≡ pass_fault p n bytes offsets
  unfolding pass_fault
  many h = rw (lt-ltb max_rows n h)

  module _ (h : n ≤ max_rows) where
    -- 14, 15, 12
    pub bad_offsets : (x : Refusal) → offsets_fault n bytes offsets ≡ Err x → Err x ≡ pass_fault p n bytes offsets
    unfolding pass_fault
    bad_offsets x e = rw (le-ltb max_rows n h, e)

    -- 26, or none of them
    pub by_order : (x : Check) → offsets_fault n bytes offsets ≡ Ok tt → x ≡ order_fault p (cut_rows n bytes offsets) → x ≡ pass_fault p n bytes offsets
    unfolding pass_fault
    by_order x e f = rw (le-ltb max_rows n h, e) f
