-- The entries, computed: answers in numbers and lent buffers at exit, for accepted and refused inputs; the program; the C entries.
-- Assumes nothing.
use Prim.Native.Nat.{ℕ, ◌*◌}
use mathlib.Core.Path.{◌≡◌, refl}
use mathlib.Core.Option.{none}
use mathlib.Core.List.{List, [], ◌∷◌, ◌++◌}
use lib.IntN.{pos, negsuc}
use lib.ListN.{replicate}
use Rattle.format.specs.declared.Kind.TheVariants.{FixedBinary}
use Rattle.format.specs.Kinds.{shape}
use Rattle.format.specs.Field.{field_length}
use Rattle.format.specs.Columns.{spelled_fault, spelled_columns}
use Rattle.format.specs.Described.{spelled}
use Rattle.format.specs.Sheet.{sheet_fault}
use Rattle.format.specs.Numbers.{three, four, numbers_of}
use Rattle.format.specs.Entries.{answer, total_fault, check_list_answer, measure_check, encode_check, measure_answer, encode_answer, encode_rows, encode_offsets, decode_check, decode_answer, decode_sheet, compare_answer}
use Rattle.format.specs.Program.{output}
use Rattle.format.specs.Lent.{lent_check_list, lent_encode, lent_encode_rows, lent_encode_offsets, lent_decode, lent_decode_sheet}

-- one column of names, nulls first, and the sheet of "a" and a null that holds "bc"
abbrev list : List ℕ
list = 16 ∷ 2 ∷ []

abbrev sheet : List ℕ
sheet = 1 ∷ 0 ∷ 0 ∷ 0 ∷ 0 ∷ 1 ∷ 0 ∷ 0 ∷ 0 ∷ 3 ∷ 0 ∷ 0 ∷ 0 ∷ 97 ∷ 98 ∷ 99 ∷ []

abbrev rows : List ℕ
rows = 2 ∷ 97 ∷ 0 ∷ 0 ∷ 0 ∷ 0 ∷ 0 ∷ 0 ∷ 0 ∷ 1 ∷ 0 ∷ []

abbrev cleared : List ℕ
cleared = 1 ∷ 0 ∷ 0 ∷ 0 ∷ 0 ∷ 1 ∷ 0 ∷ 0 ∷ 0 ∷ 1 ∷ 0 ∷ 0 ∷ 0 ∷ 97 ∷ []

-- exact room suffices; bytes and offsets past the written part stay
pub encodes : (numbers_of (measure_answer (spelled list) 2 sheet) ≡ three 0 11 1)
    × (numbers_of (encode_answer (spelled list) 2 sheet 11 3) ≡ three 0 11 1)
    × (encode_rows (spelled list) 2 sheet (replicate 12 238) 3 ≡ rows ++ 238 ∷ [])
    × (encode_offsets (spelled list) 2 sheet 11 (77 ∷ 77 ∷ 77 ∷ 77 ∷ []) ≡ 0 ∷ 10 ∷ 11 ∷ 77 ∷ [])
unfolding measure_answer encode_answer encode_rows encode_offsets encode_check measure_check spelled_fault spelled_columns sheet_fault
encodes = (refl, refl, refl, refl)

-- 6 before the sheet, 13 before 14, nothing written
pub encode_refuses : (numbers_of (encode_answer (spelled list) 4097 [] 0 0) ≡ three 6 4097 0)
    × (numbers_of (encode_answer (spelled list) 2 sheet 10 2) ≡ three 13 11 0)
    × (numbers_of (encode_answer (spelled list) 2 sheet 11 2) ≡ three 14 3 0)
    × (encode_rows (spelled list) 2 sheet (replicate 11 238) 2 ≡ replicate 11 238)
    × (encode_offsets (spelled list) 2 sheet 10 (77 ∷ 77 ∷ 77 ∷ []) ≡ 77 ∷ 77 ∷ 77 ∷ [])
unfolding encode_answer encode_rows encode_offsets encode_check measure_check spelled_fault spelled_columns sheet_fault
encode_refuses = (refl, refl, refl, refl, refl)

-- 12: 1,024 rows of sixteen columns of fixed binary, 1,024 bytes wide
pub total_refuses : (numbers_of (answer (total_fault 16777216) 0 0) ≡ three 0 0 0)
    × (numbers_of (answer (total_fault (1024 * (16 * field_length (shape (FixedBinary 1024)) none))) 0 0) ≡ three 12 16793600 0)
total_refuses = (refl, refl)

pub decodes : (numbers_of (decode_answer (spelled list) 2 (rows ++ 9 ∷ []) (0 ∷ 10 ∷ 11 ∷ 5 ∷ []) 14) ≡ three 0 14 1)
    × (decode_sheet (spelled list) 2 rows (0 ∷ 10 ∷ 11 ∷ []) (replicate 15 238) ≡ cleared ++ 238 ∷ [])
unfolding decode_answer decode_sheet decode_check spelled_fault spelled_columns
decodes = (refl, refl)

-- 14, 15 (first, falling, last), rows, 24 in this order
pub decode_refuses : (numbers_of (decode_answer (spelled list) 2 rows (1 ∷ 0 ∷ []) 14) ≡ three 14 3 0)
    × (numbers_of (decode_answer (spelled list) 2 rows (1 ∷ 0 ∷ 0 ∷ []) 14) ≡ three 15 0 0)
    × (numbers_of (decode_answer (spelled list) 2 rows (0 ∷ 11 ∷ 10 ∷ []) 14) ≡ three 15 2 0)
    × (numbers_of (decode_answer (spelled list) 2 rows (0 ∷ 10 ∷ 12 ∷ []) 14) ≡ three 15 2 0)
    × (numbers_of (decode_answer (spelled list) 2 rows (0 ∷ 9 ∷ 11 ∷ []) 0) ≡ four 16 0 0 9)
    × (numbers_of (decode_answer (spelled list) 2 (rows ++ 5 ∷ []) (0 ∷ 10 ∷ 12 ∷ []) 14) ≡ four 22 1 1 1)
    × (numbers_of (decode_answer (spelled list) 2 rows (0 ∷ 10 ∷ 11 ∷ []) 13) ≡ three 24 14 0)
    × (decode_sheet (spelled list) 2 rows (0 ∷ 10 ∷ 11 ∷ []) (replicate 13 238) ≡ replicate 13 238)
unfolding decode_answer decode_sheet decode_check spelled_fault spelled_columns
decode_refuses = (refl, refl, refl, refl, refl, refl, refl, refl)

-- unsigned bytes, a proper beginning first
pub compares : (compare_answer (1 ∷ 200 ∷ []) (1 ∷ 100 ∷ []) ≡ pos 1)
    × (compare_answer (1 ∷ []) (1 ∷ 0 ∷ []) ≡ negsuc 0)
    × (compare_answer [] [] ≡ pos 0)
unfolding compare_answer
compares = (refl, refl, refl)

-- the program's example, whole; a refusal; 25
pub program : (output (2 ∷ 0 ∷ 4 ∷ 2 ∷ 2 ∷ 0 ∷ 1 ∷ 1 ∷ 0 ∷ 0 ∷ 0 ∷ 0 ∷ 0 ∷ 0 ∷ 0 ∷ [])
    ≡ 48 ∷ 49 ∷ 56 ∷ 48 ∷ 48 ∷ 48 ∷ 48 ∷ 48 ∷ 48 ∷ 49 ∷ 10 ∷ 48 ∷ 48 ∷ 48 ∷ 48 ∷ 48 ∷ 48 ∷ 48 ∷ 48 ∷ 48 ∷ 48 ∷ 10 ∷ [])
    × (output (2 ∷ 0 ∷ 99 ∷ 2 ∷ 2 ∷ 0 ∷ []) ≡ 114 ∷ 101 ∷ 102 ∷ 117 ∷ 115 ∷ 101 ∷ 100 ∷ 32 ∷ 50 ∷ 32 ∷ 48 ∷ 32 ∷ 48 ∷ 32 ∷ 48 ∷ 10 ∷ [])
    × (output (2 ∷ 0 ∷ 4 ∷ 2 ∷ 2 ∷ []) ≡ 114 ∷ 101 ∷ 102 ∷ 117 ∷ 115 ∷ 101 ∷ 100 ∷ 32 ∷ 50 ∷ 53 ∷ 32 ∷ 48 ∷ 32 ∷ 48 ∷ 32 ∷ 48 ∷ 10 ∷ [])
unfolding output encode_check measure_check spelled_fault spelled_columns sheet_fault
program = (refl, refl, refl)

-- the lent answer: four numbers, on refusals too; if it cannot hold them, no lent byte changes. A tail of offsets stays
pub lent : (lent_check_list (16 ∷ 8 ∷ []) (replicate 33 7) ≡ 3 ∷ replicate 31 0 ++ 7 ∷ [])
    × (lent_check_list list (replicate 24 7) ≡ replicate 24 7)
    × (lent_check_list list (replicate 31 7) ≡ replicate 31 7)
    × (lent_encode (spelled list) 2 sheet 11 (replicate 27 7) (replicate 32 7) ≡ 0 ∷ replicate 7 0 ++ 11 ∷ replicate 7 0 ++ 1 ∷ replicate 15 0)
    × (lent_encode_rows (spelled list) 2 sheet (replicate 11 7) (replicate 27 7) (replicate 31 7) ≡ replicate 11 7)
    × (lent_encode_offsets (spelled list) 2 sheet 11 (replicate 27 7) (replicate 32 7) ≡ replicate 8 0 ++ 10 ∷ replicate 7 0 ++ 11 ∷ replicate 7 0 ++ replicate 3 7)
    × (lent_encode_offsets (spelled list) 2 sheet 10 (replicate 27 7) (replicate 32 7) ≡ replicate 27 7)
    × (lent_decode_sheet (spelled list) 2 rows (replicate 8 0 ++ 10 ∷ replicate 7 0 ++ 11 ∷ replicate 7 0) (replicate 14 7) (replicate 32 7) ≡ cleared)
    × (lent_decode (spelled list) 2 rows (replicate 8 0 ++ 10 ∷ replicate 7 0 ++ 11 ∷ replicate 6 0) 14 (replicate 32 7) ≡ 14 ∷ replicate 7 0 ++ 3 ∷ replicate 7 0 ++ replicate 16 0)
unfolding lent_check_list lent_encode lent_encode_rows lent_encode_offsets lent_decode lent_decode_sheet check_list_answer encode_answer encode_rows encode_offsets encode_check measure_check decode_answer decode_sheet decode_check spelled_fault spelled_columns sheet_fault
lent = (refl, refl, refl, refl, refl, refl, refl, refl, refl)
