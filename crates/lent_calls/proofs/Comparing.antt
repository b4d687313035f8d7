-- What the C entries that compare sheet rows make of the lent bytes, from what they are told of the answer. Assumes nothing.
use Prim.Native.Nat.{ℕ, ◌<◌, ◌≤◌}
use mathlib.Core.Path.{◌≡◌}
use mathlib.Core.List.{List}
use lib.ListN.{length}
use Rattle.format.specs.Numbers.{Answer, numbers_of}
use Rattle.format.specs.Lists.{over}
use Rattle.format.specs.Described.{ColumnList}
use Rattle.format.specs.CompareSheets.{compare_sheets_answer, compare_pairs_answer, compare_pairs_ranks}
use Rattle.format.specs.Lent.{eights, number_bytes, answer_room, lent_compare_sheets, lent_compare_pairs, lent_compare_pairs_ranks}
use Rattle.format.specs.Promises.{SheetsCompared, PairsCompared, LentSheetsCompared, LentPairsCompared}
use Rattle.lent_calls.proofs.Entries.{short_answer, short_kept, long_answer, long_new}

-- ---- an answer that cannot hold the four numbers
module _ (lent : List ℕ) (short : length lent < answer_room) where
  pub sheets_short : (list : ColumnList) (n₀ : ℕ) (sheet₀ : List ℕ) (r₀ n₁ : ℕ) (sheet₁ : List ℕ) (r₁ : ℕ)
      → LentSheetsCompared list n₀ sheet₀ r₀ n₁ sheet₁ r₁ lent lent
  unfolding lent_compare_sheets
  sheets_short list n₀ sheet₀ r₀ n₁ sheet₁ r₁ = record { answers = short_answer lent short (compare_sheets_answer list n₀ sheet₀ r₀ n₁ sheet₁ r₁) }

  pub pairs_short : (list : ColumnList) (n₀ : ℕ) (sheet₀ : List ℕ) (n₁ : ℕ) (sheet₁ pairs found : List ℕ)
      → LentPairsCompared list n₀ sheet₀ n₁ sheet₁ pairs found lent found lent
  unfolding lent_compare_pairs lent_compare_pairs_ranks
  pairs_short list n₀ sheet₀ n₁ sheet₁ pairs found = record {
    answers = short_answer lent short (compare_pairs_answer list n₀ sheet₀ n₁ sheet₁ (eights pairs) (length found));
    ranks = short_kept lent short (compare_pairs_ranks list n₀ sheet₀ n₁ sheet₁ (eights pairs) found) found;
  }

-- ---- one that can, and holds those of r
module _ (lent lent' : List ℕ) (r : Answer) (long : answer_room ≤ length lent) (put : lent' ≡ over (number_bytes (numbers_of r)) lent) where
  pub sheets_long : (list : ColumnList) (n₀ : ℕ) (sheet₀ : List ℕ) (r₀ n₁ : ℕ) (sheet₁ : List ℕ) (r₁ : ℕ)
      → SheetsCompared list n₀ sheet₀ r₀ n₁ sheet₁ r₁ r → LentSheetsCompared list n₀ sheet₀ r₀ n₁ sheet₁ r₁ lent lent'
  unfolding lent_compare_sheets
  sheets_long list n₀ sheet₀ r₀ n₁ sheet₁ r₁ h = record {
    answers = long_answer lent lent' r long put (compare_sheets_answer list n₀ sheet₀ r₀ n₁ sheet₁ r₁) h.answers;
  }

  pub pairs_long : (list : ColumnList) (n₀ : ℕ) (sheet₀ : List ℕ) (n₁ : ℕ) (sheet₁ pairs found found' : List ℕ)
      → PairsCompared list n₀ sheet₀ n₁ sheet₁ (eights pairs) found r found' → LentPairsCompared list n₀ sheet₀ n₁ sheet₁ pairs found lent found' lent'
  unfolding lent_compare_pairs lent_compare_pairs_ranks
  pairs_long list n₀ sheet₀ n₁ sheet₁ pairs found found' h = record {
    answers = long_answer lent lent' r long put (compare_pairs_answer list n₀ sheet₀ n₁ sheet₁ (eights pairs) (length found)) h.answers;
    ranks = long_new lent lent' r long put found' _ found h.ranks;
  }
