-- The public entries: what each one answers, and every byte and offset of the lent buffers at exit, for all inputs.
use Prim.Native.Nat.Ordering.{eq}
use Prim.Native.Nat.Ordering.{gt}
use Prim.Native.Nat.Ordering.{lt}
use Prim.Native.Nat.{ℕ, zero, suc, ◌-◌, Ordering}
use Rattle.std.specs.Prelude.{not, List, map, ltb, eqb, ℤ, pos, negsuc, length, get_or, take, drop, Ok, Err}
use Rattle.format.specs.declared.Column.{Column}
use Rattle.format.specs.Numbers.{Answer}
use Rattle.format.specs.Check.{Check, both, fail_if}
use Rattle.format.specs.declared.Refusal.TheVariants.{ManyRows, ManyBytes, RowRoom, OffsetRoom, Offsets, SheetRoom, ColumnRoom}
use Rattle.format.specs.Limits.{max_rows, max_total}
use Rattle.format.specs.Lists.{each, joined, ends_from, over, sum}
use Rattle.format.specs.Kinds.{Slot, column_shape}
use Rattle.format.specs.Columns.{spelled_fault, spelled_columns}
use Rattle.format.specs.Described.{ColumnList, list_fault, columns}
use Rattle.format.specs.Order.{cmp}
use Rattle.format.specs.Field.{field_length}
use Rattle.format.specs.Row.{row}
use Rattle.format.specs.Sheet.{layout, slot_at, sheet_fault, sheet_slots, nulls, slots_in, turned}
use Rattle.format.specs.Cleared.{cleared_sheet}
use Rattle.format.specs.Read.{rows_fault, row_slots}

-- the answer to a check: the two numbers of a success, or the refusal
abbrev pub answer : Check → ℕ → ℕ → Answer
answer (Ok tt) a b = Ok (a, b)
answer (Err r) a b = Err r

-- a lent buffer at exit: a success writes in front, what is past the written part stays, and a refusal writes nothing
abbrev pub written : {A : Type 0} → Check → List A → List A → List A
written (Ok tt) new old = over new old
written (Err r) new old = old

-- 6
abbrev pub row_count_fault : ℕ → Check
row_count_fault n = fail_if (ltb max_rows n) (ManyRows n) (Ok tt)

-- 12
abbrev pub total_fault : ℕ → Check
total_fault total = fail_if (ltb max_total total) (ManyBytes total 0) (Ok tt)

-- 14
abbrev pub offset_room_fault : ℕ → ℕ → Check
offset_room_fault n room = fail_if (ltb room (suc n)) (OffsetRoom (suc n)) (Ok tt)

-- ---- check_list and read_list

-- success: the column count, 0
unfoldable pub check_list_answer : List ℕ → Answer
check_list_answer list = answer (spelled_fault list) (length (spelled_columns list)) 0

-- list, 29
unfoldable pub read_list_check : List ℕ → ℕ → Check
read_list_check list room =
    both (spelled_fault list)
    (fail_if (ltb room (length (spelled_columns list))) (ColumnRoom (length (spelled_columns list)))
    (Ok tt))

-- success: as check_list
unfoldable pub read_list_answer : List ℕ → ℕ → Answer
read_list_answer list room = answer (read_list_check list room) (length (spelled_columns list)) 0

-- the lent descriptions: the columns
unfoldable pub read_list_columns : List ℕ → List Column → List Column
read_list_columns list lent = written (read_list_check list (length lent)) (spelled_columns list) lent

-- ---- measure and encode, under a list of any case

-- the values of row r of a sheet of n rows: its slots, column by column
abbrev pub row_values : List Column → ℕ → List ℕ → ℕ → List Slot
row_values cols n sheet r = slots_in (sheet_slots n cols sheet) r

-- the rows of a sheet of n rows
abbrev pub sheet_rows : ℕ → List Column → List ℕ → List (List ℕ)
sheet_rows n cols sheet = map (row cols) (turned n (sheet_slots n cols sheet))

-- the bytes that the fields of n rows take in a column that stands in front of s
abbrev pub column_total : Column → ℕ → List ℕ → ℕ
column_total col n s = sum (each 0 n (λ r. field_length (column_shape col) (slot_at (layout col) n s r)))

-- total row bytes
abbrev pub sheet_total : ℕ → List Column → List ℕ → ℕ
sheet_total n cols sheet = length (joined (sheet_rows n cols sheet))

-- list, 6, sheet, 12
unfoldable pub measure_check : ColumnList → ℕ → List ℕ → Check
measure_check list n sheet =
    both (list_fault list)
    (both (row_count_fault n)
    (both (sheet_fault n (columns list) sheet)
    (total_fault (sheet_total n (columns list) sheet))))

-- then 13, 14
unfoldable pub encode_check : ColumnList → ℕ → List ℕ → ℕ → ℕ → Check
encode_check list n sheet row_room offset_room =
    both (measure_check list n sheet)
    (fail_if (ltb row_room (sheet_total n (columns list) sheet)) (RowRoom (sheet_total n (columns list) sheet))
    (offset_room_fault n offset_room))

-- success: total row bytes and the null total
unfoldable pub measure_answer : ColumnList → ℕ → List ℕ → Answer
measure_answer list n sheet =
    answer (measure_check list n sheet) (sheet_total n (columns list) sheet) (nulls (sheet_slots n (columns list) sheet))

unfoldable pub encode_answer : ColumnList → ℕ → List ℕ → ℕ → ℕ → Answer
encode_answer list n sheet row_room offset_room =
    answer (encode_check list n sheet row_room offset_room) (sheet_total n (columns list) sheet) (nulls (sheet_slots n (columns list) sheet))

-- the row buffer: the rows, joined
unfoldable pub encode_rows : ColumnList → ℕ → List ℕ → List ℕ → ℕ → List ℕ
encode_rows list n sheet rows offset_room =
    written (encode_check list n sheet (length rows) offset_room) (joined (sheet_rows n (columns list) sheet)) rows

-- the offsets: the first 0, then each row's end
unfoldable pub encode_offsets : ColumnList → ℕ → List ℕ → ℕ → List ℕ → List ℕ
encode_offsets list n sheet row_room offsets =
    written (encode_check list n sheet row_room (length offsets)) (ends_from 0 (sheet_rows n (columns list) sheet)) offsets

-- ---- decode

-- falling in order: offsets i + 1 to i + k
abbrev pub fall_fault : List ℕ → ℕ → ℕ → Check
fall_fault offsets i zero = Ok tt
fall_fault offsets i (suc k) =
    fail_if (ltb (get_or offsets (suc i) 0) (get_or offsets i 0)) (Offsets (suc i)) (fall_fault offsets (suc i) k)

-- 14, 15 (first, falling in order, last), 12
abbrev pub offsets_fault : ℕ → List ℕ → List ℕ → Check
offsets_fault n bytes offsets =
    both (offset_room_fault n (length offsets))
    (fail_if (not (eqb (get_or offsets 0 0) 0)) (Offsets 0)
    (both (fall_fault offsets 0 n)
    (fail_if (ltb (length bytes) (get_or offsets n 0)) (Offsets n)
    (total_fault (get_or offsets n 0)))))

-- the bytes of row r
abbrev pub row_bytes : List ℕ → List ℕ → ℕ → List ℕ
row_bytes bytes offsets r = take (get_or offsets (suc r) 0 - get_or offsets r 0) (drop (get_or offsets r 0) bytes)

-- the rows between n + 1 offsets
abbrev pub cut_rows : ℕ → List ℕ → List ℕ → List (List ℕ)
cut_rows n bytes offsets = each 0 n (row_bytes bytes offsets)

-- the slots of rows that have no fault, column by column
abbrev pub rows_slots : List Column → List (List ℕ) → List (List Slot)
rows_slots cols rows = turned (length cols) (map (row_slots cols) rows)

-- the cleared sheet of the rows
abbrev pub decoded_sheet : ℕ → List Column → List (List ℕ) → List ℕ
decoded_sheet n cols rows = cleared_sheet n cols (rows_slots cols rows)

-- list, 6, 14, 15, 12, rows, 24
unfoldable pub decode_check : ColumnList → ℕ → List ℕ → List ℕ → ℕ → Check
decode_check list n bytes offsets sheetRoom =
    both (list_fault list)
    (both (row_count_fault n)
    (both (offsets_fault n bytes offsets)
    (both (rows_fault 0 (columns list) (cut_rows n bytes offsets))
    (fail_if (ltb sheetRoom (length (decoded_sheet n (columns list) (cut_rows n bytes offsets))))
    (SheetRoom (length (decoded_sheet n (columns list) (cut_rows n bytes offsets))))
    (Ok tt)))))

-- success: sheet bytes and the null total
unfoldable pub decode_answer : ColumnList → ℕ → List ℕ → List ℕ → ℕ → Answer
decode_answer list n bytes offsets sheetRoom =
    answer (decode_check list n bytes offsets sheetRoom)
    (length (decoded_sheet n (columns list) (cut_rows n bytes offsets)))
    (nulls (rows_slots (columns list) (cut_rows n bytes offsets)))

-- the sheet buffer: the cleared sheet
unfoldable pub decode_sheet : ColumnList → ℕ → List ℕ → List ℕ → List ℕ → List ℕ
decode_sheet list n bytes offsets sheet =
    written (decode_check list n bytes offsets (length sheet)) (decoded_sheet n (columns list) (cut_rows n bytes offsets)) sheet

-- ---- compare

-- −1, 0 or 1
abbrev pub sign : Ordering → ℤ
sign lt = negsuc 0
sign eq = pos 0
sign gt = pos 1

-- any bytes: unsigned, a proper beginning first
unfoldable pub compare_answer : List ℕ → List ℕ → ℤ
compare_answer a b = sign (cmp a b)
