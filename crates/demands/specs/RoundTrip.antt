-- The round trip: what encode and then decode give back, what decode and then encode do, and which sheets are encoded alike.
use Rattle.std.specs.Prelude.{ℕ, suc, ◌≡◌, List, ltb, length, get_or, take, Ok}
use Rattle.format.specs.Numbers.{Answer, numbers_of}
use Rattle.format.specs.Check.{Check, both, fail_if}
use Rattle.format.specs.declared.Refusal.TheVariants.{RowRoom, SheetRoom}
use Rattle.format.specs.Described.{ColumnList, columns}
use Rattle.format.specs.Sheet.{sheet_slots, nulls}
use Rattle.format.specs.Cleared.{cleared_sheet}
use Rattle.format.specs.Entries.{answer, written, encode_check, encode_answer, encode_rows, encode_offsets, offset_room_fault, cut_rows, rows_slots, decode_check}

-- ---- encode, then decode

-- the cleared sheet of a sheet's slots
abbrev pub cleared_of : ColumnList → ℕ → List ℕ → List ℕ
cleared_of list n sheet = cleared_sheet n (columns list) (sheet_slots n (columns list) sheet)

-- what encode refuses; and of what it does not, nothing but 24
abbrev pub back_check : ColumnList → ℕ → List ℕ → ℕ → ℕ → ℕ → Check
back_check list n sheet row_room offset_room room =
    both (encode_check list n sheet row_room offset_room)
    (fail_if (ltb room (length (cleared_of list n sheet))) (SheetRoom (length (cleared_of list n sheet))) (Ok tt))

-- success: the bytes of the cleared sheet, and the null total of the sheet
abbrev pub back_answer : ColumnList → ℕ → List ℕ → ℕ → ℕ → ℕ → Answer
back_answer list n sheet row_room offset_room room =
    answer (back_check list n sheet row_room offset_room room) (length (cleared_of list n sheet)) (nulls (sheet_slots n (columns list) sheet))

-- the cleared sheet of the same slots, and the same null total
pub record CameBack (list : ColumnList) (n : ℕ) (sheet rows offsets back : List ℕ) (r : Answer) (back' : List ℕ) : Type 0 where
  pub answers : numbers_of r ≡ numbers_of (back_answer list n sheet (length rows) (length offsets) (length back))
  pub writes : back' ≡ written (back_check list n sheet (length rows) (length offsets) (length back)) (cleared_of list n sheet) back
  pub same_slots : encode_check list n sheet (length rows) (length offsets) ≡ Ok tt
      → sheet_slots n (columns list) (cleared_of list n sheet) ≡ sheet_slots n (columns list) sheet

-- ---- decode, then encode

-- what decode refuses; and of what it does not, nothing but 13 and 14
abbrev pub again_check : ColumnList → ℕ → List ℕ → List ℕ → ℕ → ℕ → ℕ → Check
again_check list n rows offsets sheetRoom row_room offset_room =
    both (decode_check list n rows offsets sheetRoom)
    (fail_if (ltb row_room (get_or offsets n 0)) (RowRoom (get_or offsets n 0)) (offset_room_fault n offset_room))

-- success: the last offset, and the null total that decode read
abbrev pub again_answer : ColumnList → ℕ → List ℕ → List ℕ → ℕ → ℕ → ℕ → Answer
again_answer list n rows offsets sheetRoom row_room offset_room =
    answer (again_check list n rows offsets sheetRoom row_room offset_room) (get_or offsets n 0) (nulls (rows_slots (columns list) (cut_rows n rows offsets)))

-- the same rows up to the last offset, the same offsets up to index n, and the same null total
pub record CameAgain (list : ColumnList) (n : ℕ) (rows offsets sheet rows₂ offsets₂ : List ℕ) (r : Answer) (rows₂' offsets₂' : List ℕ) : Type 0 where
  pub answers : numbers_of r ≡ numbers_of (again_answer list n rows offsets (length sheet) (length rows₂) (length offsets₂))
  pub row_bytes : rows₂' ≡ written (again_check list n rows offsets (length sheet) (length rows₂) (length offsets₂)) (take (get_or offsets n 0) rows) rows₂
  pub row_ends : offsets₂' ≡ written (again_check list n rows offsets (length sheet) (length rows₂) (length offsets₂)) (take (suc n) offsets) offsets₂

-- ---- two sheets

-- encode answers and writes the same for both
pub record Alike (list : ColumnList) (n : ℕ) (s t rows offsets : List ℕ) : Type 0 where
  pub answers : encode_answer list n s (length rows) (length offsets) ≡ encode_answer list n t (length rows) (length offsets)
  pub row_bytes : encode_rows list n s rows (length offsets) ≡ encode_rows list n t rows (length offsets)
  pub row_ends : encode_offsets list n s (length rows) offsets ≡ encode_offsets list n t (length rows) offsets
