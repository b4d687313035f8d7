-- Places where a test turns: the first row that passes it, one past the last, and the two numbers of a look-up. Assumes nothing.
use Prim.Native.Nat.{ℕ, zero, suc, ◌<◌, ◌≤◌}
use mathlib.Core.Path.{◌≡◌, refl, ap, sym, ◌∙◌}
use mathlib.Core.Bool.{Bool, true, false, true≢false}
use mathlib.Core.Logic.{◌⊎◌, inl, inr}
use mathlib.Core.List.{List, [], ◌∷◌}
use native.Mathlib.Omega.{arith}
use lib.ListN.{length, get_or}
use borrow.Author.Tests.{eq-eqb, ne_eqb}
use Rattle.format.specs.Batch.{below}
use Rattle.basics.proofs.Compare.{choose}
use Rattle.laws.proofs.Below.{below_not}
use Rattle.format.specs.Lookup.{begins, first_that, past_last, missing, found_first, found_past}
use Rattle.halves.specs.Turns.{reached, passed, Turns}
use Rattle.halves.proofs.Fronts.{passed_above, short_below, begun_reached, begun_left, left_begun, passed_reached}

module _ (test : List ℕ → Bool) where
  -- no row before place r passes the test, and the row there does, if there is one
  first_at : (rows : List (List ℕ)) (r : ℕ) → r ≤ length rows → ((i : ℕ) → i < r → test (get_or rows i []) ≡ false)
      → (r < length rows → test (get_or rows r []) ≡ true) → first_that test rows ≡ r
  first_at [] zero l miss hit = refl
  first_at [] (suc r) l miss hit = absurd (omega arith)
  first_at (x ∷ xs) zero l miss hit = rw (hit (omega arith))
  first_at (x ∷ xs) (suc r) l miss hit =
      rw (miss 0 (omega arith)) (ap suc (first_at xs r (omega arith) (λ i h. miss (suc i) (omega arith)) (λ h. hit (omega arith))))

  -- no row from place p on passes the test, and the row before it does, if there is one
  past_at : (rows : List (List ℕ)) (p : ℕ) → p ≤ length rows → ((i : ℕ) → p ≤ i → i < length rows → test (get_or rows i []) ≡ false)
      → ((q : ℕ) → p ≡ suc q → test (get_or rows q []) ≡ true) → past_last test rows ≡ p
  past_at [] p l miss hit = omega arith
  past_at (x ∷ xs) zero l miss hit =
      rw (miss 0 (omega arith) (omega arith), past_at xs zero (omega arith) (λ i a b. miss (suc i) (omega arith) (omega arith)) (λ q e. absurd (omega arith)))
  past_at (x ∷ xs) (suc zero) l miss hit =
      rw (hit 0 refl, past_at xs zero (omega arith) (λ i a b. miss (suc i) (omega arith) (omega arith)) (λ q e. absurd (omega arith)))
  past_at (x ∷ xs) (suc (suc p)) l miss hit =
      rw (past_at xs (suc p) (omega arith) (λ i a b. miss (suc i) (omega arith) (omega arith)) (λ q e. hit (suc q) (ap suc e)))

-- ---- a key, and the places where the two tests turn
module _ (key : List ℕ) (rows : List (List ℕ)) (a b : ℕ) (first : Turns (reached key) rows a) (past : Turns (passed key) rows b) where
  -- what is true cannot be false
  apart : (t : Bool) → (t ≡ true → ⊥) → t ≡ false
  apart true f = absurd (f refl)
  apart false f = refl

  -- the first is no later than the other
  pub in_turn : a ≤ b
  in_turn = go (choose b a)
    where
      go : (b < a) ⊎ (a ≤ b) → a ≤ b
      go (inl l) =
          absurd (true≢false (sym (passed_reached key (get_or rows b []) (past.pass b (omega arith) (omega (arith, first.inside)))) ∙ first.fail b l))
      go (inr l) = l

  -- a row before the first is below the key, and one from the other on above it; neither begins with the key
  pub lower : (i : ℕ) → i < a → (below (get_or rows i []) key ≡ true) × (begins key (get_or rows i []) ≡ false)
  lower i l = (
    short_below key (get_or rows i []) (first.fail i l),
    apart (begins key (get_or rows i [])) (λ e. true≢false (sym (begun_reached key (get_or rows i []) e) ∙ first.fail i l)),
  )

  pub upper : (i : ℕ) → b ≤ i → i < length rows → (below key (get_or rows i []) ≡ true) × (begins key (get_or rows i []) ≡ false)
  upper i l h = (
    passed_above key (get_or rows i []) (past.pass i l h),
    apart (begins key (get_or rows i [])) (λ e. true≢false (sym (past.pass i l h) ∙ begun_left key (get_or rows i []) e)),
  )

  -- those between them begin with it
  pub inner : (i : ℕ) → a ≤ i → i < b → begins key (get_or rows i []) ≡ true
  inner i l h = left_begun key (get_or rows i []) (first.pass i l (omega (arith, past.inside))) (past.fail i h)

  -- ---- there are such
  module _ (l : a < b) where
    some_past : past_last (begins key) rows ≡ b
    some_past = past_at (begins key) rows b past.inside (λ i x y. (upper i x y).1) (λ q e. inner q (omega arith) (omega arith))

    there : missing key rows ≡ false
    there = rw some_past (ne_eqb b 0 (λ e. omega arith))

    some_found : (a ≡ found_first key rows) × (b ≡ found_past key rows)
    some_found = (
      rw there (sym (first_at (begins key) rows a first.inside (λ i x. (lower i x).1) (λ h. inner a (omega arith) l))),
      rw there (sym some_past),
    )

  -- ---- there are none
  module _ (e : a ≡ b) where
    none_past : past_last (begins key) rows ≡ 0
    none_past = past_at (begins key) rows 0 (omega arith) (λ i x y. go i y (choose i b)) (λ q e. absurd (omega arith))
      where
        go : (i : ℕ) → i < length rows → (i < b) ⊎ (b ≤ i) → begins key (get_or rows i []) ≡ false
        go i y (inl x) = (lower i (omega arith)).1
        go i y (inr x) = (upper i x y).1

    gone : missing key rows ≡ true
    gone = rw none_past (eq-eqb 0 0 refl)

    stands : first_that (below key) rows ≡ a
    stands =
        first_at (below key) rows a first.inside (λ i x. below_not (get_or rows i []) key (lower i x).0)
        (λ h. (upper a (omega arith) h).0)

    none_found : (a ≡ found_first key rows) × (b ≡ found_past key rows)
    none_found = (rw gone (sym stands), rw gone (sym e ∙ sym stands))

  -- the two places are the two numbers
  pub places : (a ≡ found_first key rows) × (b ≡ found_past key rows)
  places = go (choose a b)
    where
      go : (a < b) ⊎ (b ≤ a) → (a ≡ found_first key rows) × (b ≡ found_past key rows)
      go (inl l) = some_found l
      go (inr l) = none_found (omega (arith, in_turn))
