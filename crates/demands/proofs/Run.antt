-- The small cases that document 01 has run, computed from the definitions of the entries. Assumes nothing.
use Prim.Native.Nat.{ℕ}
use mathlib.Core.Path.{◌≡◌, refl}
use mathlib.Core.List.{List, [], ◌∷◌, ◌++◌}
use lib.ListN.{replicate}
use Rattle.format.specs.Columns.{spelled_fault, spelled_columns}
use Rattle.format.specs.Described.{ColumnList, spelled}
use Rattle.format.specs.Sheet.{sheet_fault}
use Rattle.format.specs.Field.{padded_length}
use Rattle.format.specs.Numbers.{three, four, numbers_of}
use Rattle.format.specs.Entries.{measure_check, encode_check, encode_answer, encode_rows, encode_offsets, decode_check, decode_answer}

-- one column of variable bytes, nulls first
abbrev list : ColumnList
list = spelled (16 ∷ 2 ∷ [])

-- a sheet of one value of n bytes, n below 256
abbrev sheet_of : ℕ → List ℕ
sheet_of n = 1 ∷ replicate 4 0 ++ n ∷ 0 ∷ 0 ∷ 0 ∷ replicate n 0x61

-- rows "a", null give offsets 0, 10, 11
pub offsets : encode_offsets list 2 (1 ∷ replicate 4 0 ++ 1 ∷ 0 ∷ 0 ∷ 0 ∷ 1 ∷ 0 ∷ 0 ∷ 0 ∷ 0x61 ∷ []) 11 (replicate 3 9) ≡ 0 ∷ 10 ∷ 11 ∷ []
unfolding encode_offsets encode_check measure_check spelled_fault spelled_columns sheet_fault
offsets = refl

-- eight bytes end in 08, nine take 19 bytes
pub eight_and_nine : (encode_rows list 1 (sheet_of 8) (replicate 10 9) 2 ≡ 0x02 ∷ replicate 8 0x61 ++ 0x08 ∷ [])
    × (encode_rows list 1 (sheet_of 9) (replicate 19 9) 2 ≡ 0x02 ∷ replicate 8 0x61 ++ 0xff ∷ 0x61 ∷ replicate 7 0 ++ 0x01 ∷ [])
    × (numbers_of (encode_answer list 1 (sheet_of 9) 19 2) ≡ three 0 19 0)
unfolding encode_answer encode_rows encode_check measure_check spelled_fault spelled_columns sheet_fault
eight_and_nine = (refl, refl, refl)

-- length 65,535 takes 67,588 bytes, 65,536 is refused 10
pub longest : (padded_length 65535 ≡ 67588) × (numbers_of (encode_answer list 1 (1 ∷ replicate 4 0 ++ 0 ∷ 0 ∷ 1 ∷ 0 ∷ []) 0 0) ≡ three 10 0 0)
unfolding encode_answer encode_check measure_check spelled_fault spelled_columns sheet_fault
longest = (refl, refl)

-- what decode answers for one row of these bytes
abbrev decoded : List ℕ → ℕ → ℕ → ℕ → Type 0
decoded row size number place = numbers_of (decode_answer list 1 row (0 ∷ size ∷ []) 100) ≡ four number 0 0 place

-- 03 is 17, 02 is 16; a block of one byte with end 09 or 00 is 20, and with a byte in its padding 21
pub faulty : decoded (0x03 ∷ []) 1 17 0
    × decoded (0x02 ∷ []) 1 16 1
    × decoded (0x02 ∷ 0x61 ∷ replicate 7 0 ++ 0x09 ∷ []) 10 20 9
    × decoded (0x02 ∷ 0x61 ∷ replicate 7 0 ++ 0x00 ∷ []) 10 20 9
    × decoded (0x02 ∷ 0x61 ∷ replicate 6 0 ++ 0x01 ∷ 0x01 ∷ []) 10 21 8
unfolding decode_answer decode_check spelled_fault spelled_columns
faulty = (refl, refl, refl, refl, refl)
