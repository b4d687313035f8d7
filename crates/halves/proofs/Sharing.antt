-- Sorted rows: every row that a look-up finds shares the key and no other does, and where none does the place is where the key would
-- stand. Assumes nothing.
use Prim.Native.Nat.{ℕ, zero, suc, ◌<◌, ◌≤◌}
use mathlib.Core.Path.{◌≡◌, refl, sym, subst, ◌∙◌}
use mathlib.Core.Bool.{Bool, true, false, cond, true≢false}
use mathlib.Core.Logic.{◌⊎◌, inl, inr, ◌↔◌}
use mathlib.Core.List.{List, [], ◌∷◌}
use native.Mathlib.Omega.{arith}
use lib.ListN.{length, get_or}
use Rattle.std.specs.declared.result.Result.TheVariants.{Ok}
use Rattle.format.specs.Order.{Begins}
use Rattle.format.specs.Batch.{order_fault}
use Rattle.format.specs.Lookup.{begins, first_that, found_first, found_past}
use Rattle.basics.proofs.Compare.{choose}
use Rattle.halves.specs.Turns.{reached, passed, Rises, Turns}
use Rattle.halves.specs.Shares.{Shares}
use Rattle.halves.proofs.Fronts.{begins_begun, begun_begins, reached_rises, passed_rises}
use Rattle.halves.proofs.Narrowing.{in_order}
use Rattle.halves.proofs.Places.{in_turn, lower, upper, inner, places}

-- ---- the first row that passes a test
module _ (test : List ℕ → Bool) where
  first_inside : (rows : List (List ℕ)) → first_that test rows ≤ length rows
  first_inside [] = omega arith
  first_inside (x ∷ xs) = go (test x) (first_inside xs)
    where
      go : (t : Bool) → first_that test xs ≤ length xs → cond t 0 (suc (first_that test xs)) ≤ suc (length xs)
      go true ih = omega arith
      go false ih = omega arith

  before_first : (rows : List (List ℕ)) (i : ℕ) → i < first_that test rows → test (get_or rows i []) ≡ false
  before_first [] i l = absurd (omega arith)
  before_first (x ∷ xs) i l = go (test x) refl i l (before_first xs)
    where
      go : (t : Bool) → test x ≡ t → (i : ℕ) → i < cond t 0 (suc (first_that test xs))
          → ((j : ℕ) → j < first_that test xs → test (get_or xs j []) ≡ false) → test (get_or (x ∷ xs) i []) ≡ false
      go true e i h ih = absurd (omega arith)
      go false e zero h ih = e
      go false e (suc i) h ih = ih i (omega arith)

  at_first : (rows : List (List ℕ)) → first_that test rows < length rows → test (get_or rows (first_that test rows) []) ≡ true
  at_first [] l = absurd (omega arith)
  at_first (x ∷ xs) l = go (test x) refl l (at_first xs)
    where
      go : (t : Bool) → test x ≡ t → cond t 0 (suc (first_that test xs)) < suc (length xs)
          → (first_that test xs < length xs → test (get_or xs (first_that test xs) []) ≡ true)
          → test (get_or (x ∷ xs) (cond t 0 (suc (first_that test xs))) []) ≡ true
      go true e h ih = e
      go false e h ih = ih (omega arith)

module _ (p : ℕ) (key : List ℕ) (rows : List (List ℕ)) (sorted : order_fault p rows ≡ Ok tt) where
  -- is where the test turns
  turns : (test : List ℕ → Bool) → Rises test → Turns test rows (first_that test rows)
  turns test rises = record {
    inside = first_inside test rows;
    fail = before_first test rows;
    pass = λ i l h.
        rises (get_or rows (first_that test rows) []) (get_or rows i []) (in_order p rows sorted _ i l h) (at_first test rows (omega arith));
  }

  -- ---- the two places
  abbrev a : ℕ
  a = first_that (reached key) rows

  abbrev b : ℕ
  b = first_that (passed key) rows

  first : Turns (reached key) rows a
  first = turns (reached key) (reached_rises key)

  past : Turns (passed key) rows b
  past = turns (passed key) (passed_rises key)

  -- a row between them begins with the key, and one that does is between them
  between : (i : ℕ) → i < length rows → (a ≤ i) × (i < b) ↔ Begins key (get_or rows i [])
  between i l = (
    λ h. begins_begun key (get_or rows i []) (inner key rows a b first past i h.0 h.1),
    λ h. (after h (choose i a), before h (choose i b)),
  )
    where
      apart : (t : Bool) → t ≡ false → t ≡ true → ⊥
      apart t e f = true≢false (sym f ∙ e)

      after : Begins key (get_or rows i []) → (i < a) ⊎ (a ≤ i) → a ≤ i
      after h (inl q) = absurd (apart (begins key (get_or rows i [])) (lower key rows a b first past i q).1 (begun_begins key (get_or rows i []) h))
      after h (inr q) = q

      before : Begins key (get_or rows i []) → (i < b) ⊎ (b ≤ i) → i < b
      before h (inl q) = q
      before h (inr q) = absurd (apart (begins key (get_or rows i [])) (upper key rows a b first past i q l).1 (begun_begins key (get_or rows i []) h))

  both_places : Shares key rows a b
  both_places = record {
    ordered = in_turn key rows a b first past;
    inside = past.inside;
    lower = λ i l. (lower key rows a b first past i l).0;
    found = between;
    upper = λ i l h. (upper key rows a b first past i l h).0;
    none = λ never. go never (choose a b);
  }
    where
      go : ((i : ℕ) → i < length rows → ¬ Begins key (get_or rows i [])) → (a < b) ⊎ (b ≤ a) → a ≡ b
      go never (inl l) =
          let h : a < length rows = omega (arith, past.inside) in
          absurd (never a h ((between a h).0 (omega arith, l)))
      go never (inr l) = omega (arith, in_turn key rows a b first past)

  -- ---- the two numbers of a look-up
  pub shares : Shares key rows (found_first key rows) (found_past key rows)
  shares =
      let q = places key rows a b first past in
      subst (λ (m : ℕ). Shares key rows m (found_past key rows)) q.0 (subst (λ (m : ℕ). Shares key rows a m) q.1 both_places)
