-- The search by halves: what holds at the head of its loop, and that each half keeps it in a sorted batch. Assumes nothing.
use Prim.Native.Nat.{ℕ, zero, suc, ◌+◌, ◌<◌, ◌≤◌}
use mathlib.Core.Path.{◌≡◌, refl, ap, sym, ◌∙◌}
use mathlib.Core.Bool.{Bool, true, false, true≢false}
use mathlib.Core.List.{List, [], ◌∷◌}
use native.Mathlib.Omega.{arith}
use lib.ListN.{length, get_or}
use Rattle.std.specs.declared.result.Result.TheVariants.{Ok}
use Rattle.format.specs.declared.Refusal.TheVariants.{OutOfOrder}
use Rattle.format.specs.Lists.{each}
use Rattle.format.specs.Batch.{below, order_from, order_fault}
use Rattle.basics.proofs.Checks.{fail_if_pass}
use Rattle.basics.proofs.Lists.{length_each, each_at}
use Rattle.laws.proofs.Below.{below_self, up_trans}
use Rattle.halves.specs.Turns.{Rises, Turns}

-- ---- sorted rows: none is below one before it

after : (p r : ℕ) (x : List ℕ) (ys : List (List ℕ)) → order_from p r x ys ≡ Ok tt → (j : ℕ) → j < length ys → below (get_or ys j []) x ≡ false
after p r x [] e j l = absurd (omega arith)
after p r x (y ∷ ys) e zero l = (fail_if_pass (below y x) (OutOfOrder p (suc r)) _ e).0
after p r x (y ∷ ys) e (suc j) l =
    let t = fail_if_pass (below y x) (OutOfOrder p (suc r)) _ e in
    up_trans x y (get_or ys j []) t.0 (after p (suc r) y ys t.1 j (omega arith))

ordered_from : (p r : ℕ) (x : List ℕ) (ys : List (List ℕ)) → order_from p r x ys ≡ Ok tt → (i j : ℕ) → i ≤ j → j < suc (length ys)
    → below (get_or (x ∷ ys) j []) (get_or (x ∷ ys) i []) ≡ false
ordered_from p r x ys e zero zero h l = below_self x
ordered_from p r x ys e zero (suc j) h l = after p r x ys e j (omega arith)
ordered_from p r x ys e (suc i) zero h l = absurd (omega arith)
ordered_from p r x [] e (suc i) (suc j) h l = absurd (omega arith)
ordered_from p r x (y ∷ ys) e (suc i) (suc j) h l =
    ordered_from p (suc r) y ys (fail_if_pass (below y x) (OutOfOrder p (suc r)) _ e).1 i j (omega arith) (omega arith)

pub in_order : (p : ℕ) (rows : List (List ℕ)) → order_fault p rows ≡ Ok tt → (i j : ℕ) → i ≤ j → j < length rows
    → below (get_or rows j []) (get_or rows i []) ≡ false
in_order p [] e i j h l = absurd (omega arith)
in_order p (x ∷ xs) e i j h l = ordered_from p 0 x xs e i j h l

-- ---- the loop, over n rows f
module _ (test : List ℕ → Bool) (n : ℕ) (f : ℕ → List ℕ) where
  abbrev rows : List (List ℕ)
  rows = each 0 n f

  -- the rows before `low` fail the test, and those from `high` on pass it
  pub record Narrows (low high : ℕ) : Type 0 where
    pub fail : (i : ℕ) → i < low → test (get_or rows i []) ≡ false
    pub pass : (i : ℕ) → high ≤ i → i < length rows → test (get_or rows i []) ≡ true

  long : length rows ≡ n
  long = length_each 0 n f

  pub begin : Narrows 0 n
  begin = record { fail = λ i h. absurd (omega arith); pass = λ i h l. absurd (omega (arith, long)) }

  module _ {low high : ℕ} (t : Narrows low high) (inside : high ≤ n) where
    pub end : low ≤ high → high ≤ low → Turns test rows low
    end around h = record { inside = omega (arith, long); fail = t.fail; pass = λ i l k. t.pass i (omega arith) k }

    -- the rows are sorted, and what one between `low` and `high` answers is b
    module _ (rises : Rises test) (p : ℕ) (sorted : order_fault p rows ≡ Ok tt) (m : ℕ) (before_high : m < high) (b : Bool) (said : b ≡ test (f m)) where
      answers : test (get_or rows m []) ≡ b
      answers = ap test (each_at n f [] m (omega arith)) ∙ sym said

      -- it passes, and so does every row from it on
      pub lower_half : b ≡ true → Narrows low m
      lower_half e = record {
        fail = t.fail;
        pass = λ i h l. rises (get_or rows m []) (get_or rows i []) (in_order p rows sorted m i h l) (answers ∙ e);
      }

      -- it fails, and so does every row before it
      pub upper_half : b ≡ false → Narrows (m + 1) high
      upper_half e = record { fail = λ i h. go i (omega arith) (test (get_or rows i [])) refl; pass = t.pass }
        where
          go : (i : ℕ) → i ≤ m → (x : Bool) → test (get_or rows i []) ≡ x → x ≡ false
          go i h false q = refl
          go i h true q =
              let up = in_order p rows sorted i m h (omega (arith, long)) in
              absurd (true≢false (sym (rises (get_or rows i []) (get_or rows m []) up q) ∙ answers ∙ e))
