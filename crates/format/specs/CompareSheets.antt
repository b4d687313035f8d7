-- Rows of two sheets under one list, compared straight from the values: one row of each, and many pairs of rows.
use Prim.Native.Nat.Ordering.{eq}
use Prim.Native.Nat.Ordering.{gt}
use Prim.Native.Nat.Ordering.{lt}
use Prim.Native.Nat.{ℕ, zero, suc, ◌+◌, ◌*◌, ◌/◌, Ordering}
use Rattle.std.specs.Prelude.{List, ltb, leb, length, get_or, Ok}
use Rattle.format.specs.declared.Column.{Column}
use Rattle.format.specs.Numbers.{Answer}
use Rattle.format.specs.Check.{Check, both, fail_if}
use Rattle.format.specs.declared.Refusal.TheVariants.{SheetRow, OffsetRoom}
use Rattle.format.specs.Lists.{each}
use Rattle.format.specs.Described.{ColumnList, list_fault, columns}
use Rattle.format.specs.Sheet.{sheet_fault}
use Rattle.format.specs.Value.{row_order}
use Rattle.format.specs.Entries.{answer, written, row_count_fault, row_values}

-- 0, 1 or 2 for below, equal or above
abbrev pub rank : Ordering → ℕ
rank lt = 0
rank eq = 1
rank gt = 2

-- how row r₀ of the first sheet stands to row r₁ of the second
abbrev pub rows_rank : List Column → ℕ → List ℕ → ℕ → ℕ → List ℕ → ℕ → ℕ
rows_rank cols n₀ sheet₀ r₀ n₁ sheet₁ r₁ = rank (row_order cols (row_values cols n₀ sheet₀ r₀) (row_values cols n₁ sheet₁ r₁))

-- 6 and sheet faults, as in encode
abbrev pub counted_fault : ℕ → List Column → List ℕ → Check
counted_fault n cols sheet = both (row_count_fault n) (sheet_fault n cols sheet)

-- list; 6 and sheet faults, first sheet first
unfoldable pub sheets_fault : ColumnList → ℕ → List ℕ → ℕ → List ℕ → Check
sheets_fault list n₀ sheet₀ n₁ sheet₁ =
    both (list_fault list)
    (both (counted_fault n₀ (columns list) sheet₀)
    (counted_fault n₁ (columns list) sheet₁))

-- 32: a row number past its sheet, sheet 0 before sheet 1
abbrev pub sheet_row_fault : ℕ → ℕ → ℕ → Check
sheet_row_fault i r n = fail_if (leb n r) (SheetRow i r) (Ok tt)

abbrev pub pair_fault : ℕ → ℕ → ℕ → ℕ → Check
pair_fault n₀ r₀ n₁ r₁ = both (sheet_row_fault 0 r₀ n₀) (sheet_row_fault 1 r₁ n₁)

-- ---- compare_sheets

-- the list and the sheets, then 32
unfoldable pub compare_sheets_check : ColumnList → ℕ → List ℕ → ℕ → ℕ → List ℕ → ℕ → Check
compare_sheets_check list n₀ sheet₀ r₀ n₁ sheet₁ r₁ = both (sheets_fault list n₀ sheet₀ n₁ sheet₁) (pair_fault n₀ r₀ n₁ r₁)

-- success: how the one row stands to the other, 0
unfoldable pub compare_sheets_answer : ColumnList → ℕ → List ℕ → ℕ → ℕ → List ℕ → ℕ → Answer
compare_sheets_answer list n₀ sheet₀ r₀ n₁ sheet₁ r₁ =
    answer (compare_sheets_check list n₀ sheet₀ r₀ n₁ sheet₁ r₁) (rows_rank (columns list) n₀ sheet₀ r₀ n₁ sheet₁ r₁) 0

-- ---- compare_pairs: two row numbers a pair, one after the other; an odd last number does not count

abbrev pub pair_count : List ℕ → ℕ
pair_count rows = length rows / 2

-- the two rows of pair k
abbrev pub first_row : List ℕ → ℕ → ℕ
first_row rows k = get_or rows (2 * k) 0

abbrev pub second_row : List ℕ → ℕ → ℕ
second_row rows k = get_or rows (2 * k + 1) 0

-- the first pair at fault, of k pairs from pair i on
abbrev pub pairs_fault : ℕ → ℕ → List ℕ → ℕ → ℕ → Check
pairs_fault n₀ n₁ rows i zero = Ok tt
pairs_fault n₀ n₁ rows i (suc k) = both (pair_fault n₀ (first_row rows i) n₁ (second_row rows i)) (pairs_fault n₀ n₁ rows (suc i) k)

-- the list and the sheets, then 32, then 14 of the answers
unfoldable pub compare_pairs_check : ColumnList → ℕ → List ℕ → ℕ → List ℕ → List ℕ → ℕ → Check
compare_pairs_check list n₀ sheet₀ n₁ sheet₁ rows room =
    both (sheets_fault list n₀ sheet₀ n₁ sheet₁)
    (both (pairs_fault n₀ n₁ rows 0 (pair_count rows))
    (fail_if (ltb room (pair_count rows)) (OffsetRoom (pair_count rows))
    (Ok tt)))

-- success: the pairs, 0
unfoldable pub compare_pairs_answer : ColumnList → ℕ → List ℕ → ℕ → List ℕ → List ℕ → ℕ → Answer
compare_pairs_answer list n₀ sheet₀ n₁ sheet₁ rows room = answer (compare_pairs_check list n₀ sheet₀ n₁ sheet₁ rows room) (pair_count rows) 0

-- how the rows of each pair stand
abbrev pub pair_ranks : List Column → ℕ → List ℕ → ℕ → List ℕ → List ℕ → List ℕ
pair_ranks cols n₀ sheet₀ n₁ sheet₁ rows = each 0 (pair_count rows) (λ k. rows_rank cols n₀ sheet₀ (first_row rows k) n₁ sheet₁ (second_row rows k))

-- the lent answers: a byte a pair
unfoldable pub compare_pairs_ranks : ColumnList → ℕ → List ℕ → ℕ → List ℕ → List ℕ → List ℕ → List ℕ
compare_pairs_ranks list n₀ sheet₀ n₁ sheet₁ rows answers =
    written (compare_pairs_check list n₀ sheet₀ n₁ sheet₁ rows (length answers)) (pair_ranks (columns list) n₀ sheet₀ n₁ sheet₁ rows) answers
