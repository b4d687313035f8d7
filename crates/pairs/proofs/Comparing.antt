-- The ways out of `compare_pairs_listed`, and one pair from many. Assumes nothing.
use Prim.Native.Nat.{ℕ, ◌<◌, ◌≤◌}
use mathlib.Core.Path.{◌≡◌, refl, sym, ap, ◌∙◌}
use mathlib.Core.List.{List, [], ◌∷◌}
use native.Mathlib.Omega.{arith}
use lib.ListN.{length, get_or}
use lib.Seq.{sets}
use borrow.Author.Tests.{lt-ltb, le-ltb}
use Rattle.format.specs.declared.Refusal.{Refusal}
use Rattle.format.specs.declared.Refusal.TheVariants.{OffsetRoom}
use Rattle.format.specs.Check.{Check, both}
use Rattle.std.specs.declared.result.Result.TheVariants.{Ok, Err}
use Rattle.format.specs.Numbers.{Answer}
use Rattle.format.specs.declared.Schema.{Schema}
use Rattle.format.specs.Schemas.{cols_of}
use Rattle.format.specs.Described.{ColumnList, list_fault, columns}
use Rattle.format.specs.CompareSheets.{rows_rank, counted_fault, sheets_fault, pair_fault, pairs_fault, pair_count, first_row, second_row, pair_ranks, compare_pairs_check, compare_pairs_answer, compare_pairs_ranks, compare_sheets_check, compare_sheets_answer}
use Rattle.format.specs.Promises.{PairsCompared, SheetsCompared}
use Rattle.format.specs.Entries.{answer}
use Rattle.basics.proofs.Append.{over_sets}
use Rattle.basics.proofs.Checks.{answer_done}
use Rattle.basics.proofs.Lists.{length_each}
use Rattle.laws.proofs.Numbers.{numbers_injective}
use Rattle.list_reader.specs.Listing.{Listed, ListedAs, Sound}
use Rattle.list_reader.proofs.Schemas.{list_refused, list_passed, list_sound}

module _ (list : ColumnList) (n₀ : ℕ) (sheet₀ : List ℕ) (n₁ : ℕ) (sheet₁ rows lent : List ℕ) where
  -- a refusal writes nothing
  refused : (x : Refusal) → compare_pairs_check list n₀ sheet₀ n₁ sheet₁ rows (length lent) ≡ Err x
      → PairsCompared list n₀ sheet₀ n₁ sheet₁ rows lent (Err x) lent
  unfolding compare_pairs_answer compare_pairs_ranks
  refused x e = record { answers = rw e refl; ranks = rw e refl }

  -- ---- the list is read
  module _ (b : Listed) (l : ListedAs list b) where
    pub bad_list : (x : Refusal) → b ≡ Err x → PairsCompared list n₀ sheet₀ n₁ sheet₁ rows lent (Err x) lent
    unfolding compare_pairs_check sheets_fault
    bad_list x e = refused x (rw (list_refused list b x l e) refl)

    -- and passes
    module _ (schema : Schema) (e : b ≡ Ok schema) where
      pub good_list : Sound list schema
      good_list = list_sound list b schema l e

      fine : list_fault list ≡ Ok tt
      fine = (list_passed list b schema l e).0

      -- the faults of a sheet, told of the schema's columns
      told : (n : ℕ) (sheet : List ℕ) (x : Check) → x ≡ counted_fault n (cols_of schema) sheet → counted_fault n (columns list) sheet ≡ x
      told n sheet x h = rw (← good_list.cols) (sym h)

      pub bad_first : (x : Refusal) → Err x ≡ counted_fault n₀ (cols_of schema) sheet₀ → PairsCompared list n₀ sheet₀ n₁ sheet₁ rows lent (Err x) lent
      unfolding compare_pairs_check sheets_fault
      bad_first x f = refused x (rw (fine, told n₀ sheet₀ (Err x) f) refl)

      module _ (f : Ok tt ≡ counted_fault n₀ (cols_of schema) sheet₀) where
        pub bad_second : (x : Refusal) → Err x ≡ counted_fault n₁ (cols_of schema) sheet₁ → PairsCompared list n₀ sheet₀ n₁ sheet₁ rows lent (Err x) lent
        unfolding compare_pairs_check sheets_fault
        bad_second x g = refused x (rw (fine, told n₀ sheet₀ (Ok tt) f, told n₁ sheet₁ (Err x) g) refl)

        module _ (g : Ok tt ≡ counted_fault n₁ (cols_of schema) sheet₁) where
          pub bad_pair : (x : Refusal) → Err x ≡ pairs_fault n₀ n₁ rows 0 (pair_count rows) → PairsCompared list n₀ sheet₀ n₁ sheet₁ rows lent (Err x) lent
          unfolding compare_pairs_check sheets_fault
          bad_pair x h = refused x (rw (fine, told n₀ sheet₀ (Ok tt) f, told n₁ sheet₁ (Ok tt) g, ← h) refl)

          module _ (h : Ok tt ≡ pairs_fault n₀ n₁ rows 0 (pair_count rows)) where
            pub short : length lent < pair_count rows → PairsCompared list n₀ sheet₀ n₁ sheet₁ rows lent (Err (OffsetRoom (pair_count rows))) lent
            unfolding compare_pairs_check sheets_fault
            short s = refused (OffsetRoom (pair_count rows))
                (rw (fine, told n₀ sheet₀ (Ok tt) f, told n₁ sheet₁ (Ok tt) g, ← h, lt-ltb (length lent) (pair_count rows) s) refl)

            passes : pair_count rows ≤ length lent → compare_pairs_check list n₀ sheet₀ n₁ sheet₁ rows (length lent) ≡ Ok tt
            unfolding compare_pairs_check sheets_fault
            passes s = rw (fine, told n₀ sheet₀ (Ok tt) f, told n₁ sheet₁ (Ok tt) g, ← h, le-ltb (length lent) (pair_count rows) s) refl

            pub compared : pair_count rows ≤ length lent → (lent' : List ℕ) → lent' ≡ sets lent 0 (pair_ranks (cols_of schema) n₀ sheet₀ n₁ sheet₁ rows)
                → PairsCompared list n₀ sheet₀ n₁ sheet₁ rows lent (Ok (pair_count rows, 0)) lent'
            unfolding compare_pairs_answer compare_pairs_ranks
            compared s lent' w =
                let cols = cols_of schema in
                let ranks : List ℕ = pair_ranks cols n₀ sheet₀ n₁ sheet₁ rows in
                let long : length ranks ≡ pair_count rows =
                length_each 0 (pair_count rows) (λ k. rows_rank cols n₀ sheet₀ (first_row rows k) n₁ sheet₁ (second_row rows k)) in
                record {
                  answers = rw (passes s) refl;
                  ranks = rw (passes s, ← good_list.cols) (w ∙ sym (over_sets ranks lent (omega (arith, long))));
                }

-- ---- one pair from many

answer_refused : (m : Check) (a b : ℕ) (x : Refusal) → answer m a b ≡ Err x → m ≡ Err x
answer_refused (Ok tt) a b x e = absurd (let z : ◌≡◌ {A = ℕ} 0 1 = cc in omega arith)
answer_refused (Err y) a b x e = cc

module _ (list : ColumnList) (n₀ : ℕ) (sheet₀ : List ℕ) (r₀ n₁ : ℕ) (sheet₁ : List ℕ) (r₁ x : ℕ) (r : Answer) (lent : List ℕ)
    (h : PairsCompared list n₀ sheet₀ n₁ sheet₁ (r₀ ∷ r₁ ∷ []) (x ∷ []) r lent) where
  -- one answer is enough for one pair, so that the check is that of the one
  same_check : compare_pairs_check list n₀ sheet₀ n₁ sheet₁ (r₀ ∷ r₁ ∷ []) 1 ≡ compare_sheets_check list n₀ sheet₀ r₀ n₁ sheet₁ r₁
  unfolding compare_pairs_check compare_sheets_check
  same_check = ap (both (sheets_fault list n₀ sheet₀ n₁ sheet₁)) (alone (both (pair_fault n₀ r₀ n₁ r₁) (Ok tt)) ∙ alone (pair_fault n₀ r₀ n₁ r₁))
    where
      alone : (y : Check) → both y (Ok tt) ≡ y
      alone (Ok tt) = refl
      alone (Err z) = refl

  says : r ≡ answer (compare_sheets_check list n₀ sheet₀ r₀ n₁ sheet₁ r₁) 1 0
  unfolding compare_pairs_answer
  says = numbers_injective r _ h.answers ∙ ap (λ (y : Check). answer y 1 0) same_check

  pub one_refused : (y : Refusal) → r ≡ Err y → SheetsCompared list n₀ sheet₀ r₀ n₁ sheet₁ r₁ (Err y)
  unfolding compare_sheets_answer
  one_refused y e = record { answers = rw (answer_refused (compare_sheets_check list n₀ sheet₀ r₀ n₁ sheet₁ r₁) 1 0 y (sym says ∙ e)) refl }

  pub one_done : (a b : ℕ) → r ≡ Ok (a, b) → SheetsCompared list n₀ sheet₀ r₀ n₁ sheet₁ r₁ (Ok (get_or lent 0 0, 0))
  unfolding compare_sheets_answer compare_pairs_ranks
  one_done a b e =
      let d = answer_done (compare_sheets_check list n₀ sheet₀ r₀ n₁ sheet₁ r₁) 1 0 a b (sym says ∙ e) in
      record { answers = rw (d.0, h.ranks, same_check, d.0) refl }
