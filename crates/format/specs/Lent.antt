-- The C entries: the same answers on lent bytes. Offsets, the order and the answer are eight bytes a number, low byte first; a
-- description is four bytes.
use Rattle.std.specs.Prelude.{ℕ, ◌*◌, ◌/◌, cond, List, [], ◌∷◌, map, ltb, length, take, drop}
use Rattle.format.specs.Numbers.{Answer, numbers_of}
use Rattle.format.specs.declared.Returned.{Returned}
use Rattle.format.specs.Lists.{each, joined, over, low, low_bytes}
use Rattle.format.specs.Columns.{spelled_columns}
use Rattle.format.specs.Described.{ColumnList, codes}
use Rattle.format.specs.Entries.{written, check_list_answer, read_list_check, read_list_answer, measure_answer, encode_answer, encode_rows, encode_offsets, decode_answer, decode_sheet}
use Rattle.format.specs.Join.{join_answer, join_list}
use Rattle.format.specs.Lookup.{lookup_answer}
use Rattle.format.specs.CompareSheets.{compare_sheets_answer, compare_pairs_answer, compare_pairs_ranks}

-- the numbers of lent bytes; a shorter tail does not count
abbrev pub eights : List ℕ → List ℕ
eights bs = each 0 (length bs / 8) (λ i. low (take 8 (drop (8 * i) bs)))

abbrev pub eight_bytes : List ℕ → List ℕ
eight_bytes ns = joined (map (low_bytes 8) ns)

abbrev pub number_bytes : Returned → List ℕ
number_bytes a = eight_bytes (a.0 ∷ a.1 ∷ a.2 ∷ a.3 ∷ [])

-- the bytes of an answer: four numbers
abbrev pub answer_room : ℕ
answer_room = 32

-- the lent answer at exit: the four numbers in front, on refusals too; if it cannot hold them all, no lent byte changes
abbrev pub answer_bytes : Answer → List ℕ → List ℕ
answer_bytes a lent = cond (ltb (length lent) answer_room) lent (over (number_bytes (numbers_of a)) lent)

-- another lent buffer at exit, if the answer holds the four numbers
abbrev pub unless_short : List ℕ → List ℕ → List ℕ → List ℕ
unless_short lent new old = cond (ltb (length lent) answer_room) old new

unfoldable pub lent_check_list : List ℕ → List ℕ → List ℕ
lent_check_list list lent = answer_bytes (check_list_answer list) lent

-- the room for descriptions: four bytes each
abbrev pub code_room : List ℕ → ℕ
code_room descriptions = length descriptions / 4

unfoldable pub lent_read_list : List ℕ → List ℕ → List ℕ → List ℕ
lent_read_list list descriptions lent = answer_bytes (read_list_answer list (code_room descriptions)) lent

-- the lent descriptions: the columns, four bytes each
unfoldable pub lent_read_list_codes : List ℕ → List ℕ → List ℕ → List ℕ
lent_read_list_codes list descriptions lent =
    unless_short lent (written (read_list_check list (code_room descriptions)) (codes (spelled_columns list)) descriptions) descriptions

unfoldable pub lent_measure : ColumnList → ℕ → List ℕ → List ℕ → List ℕ
lent_measure list n sheet lent = answer_bytes (measure_answer list n sheet) lent

unfoldable pub lent_encode : ColumnList → ℕ → List ℕ → ℕ → List ℕ → List ℕ → List ℕ
lent_encode list n sheet row_room offsets lent = answer_bytes (encode_answer list n sheet row_room (length offsets / 8)) lent

unfoldable pub lent_encode_rows : ColumnList → ℕ → List ℕ → List ℕ → List ℕ → List ℕ → List ℕ
lent_encode_rows list n sheet rows offsets lent = unless_short lent (encode_rows list n sheet rows (length offsets / 8)) rows

unfoldable pub lent_encode_offsets : ColumnList → ℕ → List ℕ → ℕ → List ℕ → List ℕ → List ℕ
lent_encode_offsets list n sheet row_room offsets lent =
    unless_short lent (over (eight_bytes (encode_offsets list n sheet row_room (eights offsets))) offsets) offsets

unfoldable pub lent_decode : ColumnList → ℕ → List ℕ → List ℕ → ℕ → List ℕ → List ℕ
lent_decode list n rows offsets sheetRoom lent = answer_bytes (decode_answer list n rows (eights offsets) sheetRoom) lent

unfoldable pub lent_decode_sheet : ColumnList → ℕ → List ℕ → List ℕ → List ℕ → List ℕ → List ℕ
lent_decode_sheet list n rows offsets sheet lent = unless_short lent (decode_sheet list n rows (eights offsets) sheet) sheet

unfoldable pub lent_join : ℕ → List ℕ → List ℕ → ℕ → List ℕ → List ℕ → List ℕ → List ℕ → List ℕ
lent_join n₀ rows₀ offsets₀ n₁ rows₁ offsets₁ list lent =
    answer_bytes (join_answer n₀ rows₀ (eights offsets₀) n₁ rows₁ (eights offsets₁) (length list / 8)) lent

unfoldable pub lent_join_list : ℕ → List ℕ → List ℕ → ℕ → List ℕ → List ℕ → List ℕ → List ℕ → List ℕ
lent_join_list n₀ rows₀ offsets₀ n₁ rows₁ offsets₁ list lent =
    unless_short lent (over (eight_bytes (join_list n₀ rows₀ (eights offsets₀) n₁ rows₁ (eights offsets₁) (eights list))) list) list

unfoldable pub lent_lookup : ColumnList → ℕ → List ℕ → ℕ → List ℕ → List ℕ → List ℕ → List ℕ
lent_lookup list k key n rows offsets lent = answer_bytes (lookup_answer list k key n rows (eights offsets)) lent

unfoldable pub lent_compare_sheets : ColumnList → ℕ → List ℕ → ℕ → ℕ → List ℕ → ℕ → List ℕ → List ℕ
lent_compare_sheets list n₀ sheet₀ r₀ n₁ sheet₁ r₁ lent = answer_bytes (compare_sheets_answer list n₀ sheet₀ r₀ n₁ sheet₁ r₁) lent

-- row numbers eight bytes each, answers a byte each
unfoldable pub lent_compare_pairs : ColumnList → ℕ → List ℕ → ℕ → List ℕ → List ℕ → ℕ → List ℕ → List ℕ
lent_compare_pairs list n₀ sheet₀ n₁ sheet₁ pairs room lent = answer_bytes (compare_pairs_answer list n₀ sheet₀ n₁ sheet₁ (eights pairs) room) lent

unfoldable pub lent_compare_pairs_ranks : ColumnList → ℕ → List ℕ → ℕ → List ℕ → List ℕ → List ℕ → List ℕ → List ℕ
lent_compare_pairs_ranks list n₀ sheet₀ n₁ sheet₁ pairs ranks lent =
    unless_short lent (compare_pairs_ranks list n₀ sheet₀ n₁ sheet₁ (eights pairs) ranks) ranks
