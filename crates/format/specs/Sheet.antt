-- The sheet: columns follow one another in list order, each with its validity bytes and then its values, for n rows.
use Rattle.std.specs.Prelude.{ℕ, zero, suc, ◌+◌, ◌-◌, ◌*◌, ◌/◌, ◌%◌, ◌^◌, Bool, false, cond, ◌&&◌, ◌||◌, List, [], ◌∷◌, map, ltb, eqb, length, get_or, take, drop, Ok}
use Rattle.std.proofs.Math.Option.{none, some}
use Rattle.format.specs.declared.Column.{Column}
use Rattle.format.specs.Check.{Check, both, fail_if}
use Rattle.format.specs.declared.Refusal.TheVariants.{ColumnCut, SpareBit, Ends, LongSlot, BytesAfter, Missing}
use Rattle.format.specs.Limits.{max_slot}
use Rattle.format.specs.Lists.{each, low, sum}
use Rattle.format.specs.Kinds.{bool, plain, number, integer, float, parts, Shape, fixed, variable, Slot, width, column_shape}
use Rattle.format.specs.Fold.{folded_slot}

-- how the values of a column stand: packed bits; values of w bytes each; ends, and the bytes between them
pub data Layout : Type 0 where
  bits ended : Layout
  wide : ℕ → Layout

abbrev pub layout_for : Shape → Layout
layout_for (fixed bool) = bits
layout_for (fixed (plain w)) = wide w
layout_for (fixed (number w)) = wide w
layout_for (fixed (integer w)) = wide w
layout_for (fixed (float w)) = wide w
layout_for (fixed (parts ws)) = wide (width (parts ws))
layout_for variable = ended

abbrev pub layout : Column → Layout
layout col = layout_for (column_shape col)

-- ---- packed bits

-- ceil(n/8)
abbrev pub packed : ℕ → ℕ
packed n = (n + 7) / 8

-- row i is bit i mod 8 of byte i div 8, least bit first
abbrev pub bit : List ℕ → ℕ → Bool
bit bs i = eqb (get_or bs (i / 8) 0 / 2 ^ (i % 8) % 2) 1

-- one of the k bits from i on is set
abbrev pub any_bit : List ℕ → ℕ → ℕ → Bool
any_bit bs i zero = false
any_bit bs i (suc k) = bit bs i || any_bit bs (suc i) k

-- a spare bit, past row n, is set
abbrev pub spare_set : List ℕ → ℕ → Bool
spare_set bs n = any_bit bs n (8 * length bs - n)

-- packed bits of n rows in front of s, in column c: 7, 8
abbrev pub bits_fault : ℕ → ℕ → List ℕ → Check
bits_fault n c s =
    fail_if (ltb (length s) (packed n)) (ColumnCut c)
    (fail_if (spare_set (take (packed n) s) n) (SpareBit c)
    (Ok tt))

-- the first clear bit of the k from i on; i + k where all are set
abbrev pub first_clear : List ℕ → ℕ → ℕ → ℕ
first_clear bs i zero = i
first_clear bs i (suc k) = cond (bit bs i) (first_clear bs (suc i) k) i

-- a null in a required column, whose validity bits are in front of s: 27, at the first null row
abbrev pub required_fault : Bool → ℕ → ℕ → List ℕ → Check
required_fault required n c s = fail_if (required && ltb (first_clear s 0 n) n) (Missing c (first_clear s 0 n)) (Ok tt)

-- ---- the values of column c, which stand in front of s: what is refused, how many bytes they take, and value i

-- end i: four bytes, low byte first
abbrev pub end : List ℕ → ℕ → ℕ
end s i = low (take 4 (drop (4 * i) s))

-- row by row 9, 10: k rows from row i on
abbrev pub ends_fault : ℕ → List ℕ → ℕ → ℕ → Check
ends_fault c s i zero = Ok tt
ends_fault c s i (suc k) =
    fail_if (ltb (end s (suc i)) (end s i)) (Ends c i)
    (fail_if (ltb max_slot (end s (suc i) - end s i)) (LongSlot c i)
    (ends_fault c s (suc i) k))

-- ends cut 7, then row by row 9, 10, then bytes 7; the first end is any
abbrev pub variable_fault : ℕ → ℕ → List ℕ → Check
variable_fault n c s =
    fail_if (ltb (length s) (4 * suc n)) (ColumnCut c)
    (both (ends_fault c s 0 n)
    (fail_if (ltb (length s) (4 * suc n + end s n)) (ColumnCut c)
    (Ok tt)))

-- 7, 8 for bool, 7 for fixed
abbrev pub values_fault : Layout → ℕ → ℕ → List ℕ → Check
values_fault bits n c s = bits_fault n c s
values_fault (wide w) n c s = fail_if (ltb (length s) (n * w)) (ColumnCut c) (Ok tt)
values_fault ended n c s = variable_fault n c s

-- n + 1 ends, then as many bytes as the last says, those before the first end among them
abbrev pub values_bytes : Layout → ℕ → List ℕ → ℕ
values_bytes bits n s = packed n
values_bytes (wide w) n s = n * w
values_bytes ended n s = 4 * suc n + end s n

-- a bool is one byte, 00 or 01
abbrev pub bool_byte : Bool → List ℕ
bool_byte b = cond b 1 0 ∷ []

-- value i lies between ends i and i + 1, so that bytes before the first end mean nothing
abbrev pub value_at : Layout → ℕ → List ℕ → ℕ → List ℕ
value_at bits n s i = bool_byte (bit s i)
value_at (wide w) n s i = take w (drop (i * w) s)
value_at ended n s i = take (end s (suc i) - end s i) (drop (end s i) (drop (4 * suc n) s))

-- ---- column c, which stands in front of s

-- 1 for valid
abbrev pub slot_if : Bool → List ℕ → Slot
slot_if b v = cond b (some v) none

-- validity 7, 8, of a required column then 27, then the values
abbrev pub column_fault : Bool → Layout → ℕ → ℕ → List ℕ → Check
column_fault required ly n c s =
    both (bits_fault n c s)
    (both (required_fault required n c s)
    (values_fault ly n c (drop (packed n) s)))

abbrev pub column_bytes : Layout → ℕ → List ℕ → ℕ
column_bytes ly n s = packed n + values_bytes ly n (drop (packed n) s)

abbrev pub slot_at : Layout → ℕ → List ℕ → ℕ → Slot
slot_at ly n s i = slot_if (bit s i) (value_at ly n (drop (packed n) s) i)

abbrev pub column_slots : Layout → ℕ → List ℕ → List Slot
column_slots ly n s = each 0 n (slot_at ly n s)

-- ---- the sheet

-- column by column, from column c on, which stands at the place `at` and in front of s; at the end 11
abbrev pub sheet_fault_from : ℕ → ℕ → ℕ → List Column → List ℕ → Check
sheet_fault_from n c at [] s = fail_if (ltb 0 (length s)) (BytesAfter at) (Ok tt)
sheet_fault_from n c at (col ∷ cols) s =
    both (column_fault col.options.required (layout col) n c s)
    (sheet_fault_from n (suc c) (at + column_bytes (layout col) n s) cols (drop (column_bytes (layout col) n s) s))

-- refusals 7 to 11 and 27 of a sheet of n rows
unfoldable pub sheet_fault : ℕ → List Column → List ℕ → Check
sheet_fault n cols s = sheet_fault_from n 0 0 cols s

-- the place of column c of a sheet s, where column 0 stands at `at`; past the last column, the end of the last
abbrev pub place_from : ℕ → ℕ → List Column → List ℕ → ℕ → ℕ
place_from n at cols s zero = at
place_from n at [] s (suc c) = at
place_from n at (col ∷ cols) s (suc c) = place_from n (at + column_bytes (layout col) n (drop at s)) cols s c

abbrev pub place : ℕ → List Column → List ℕ → ℕ → ℕ
place n cols s c = place_from n 0 cols s c

-- the slots of each column, as encode takes them: folded where the column folds
abbrev pub sheet_slots : ℕ → List Column → List ℕ → List (List Slot)
sheet_slots n [] s = []
sheet_slots n (col ∷ cols) s =
    map (folded_slot (column_shape col) col.options) (column_slots (layout col) n s)
    ∷ sheet_slots n cols (drop (column_bytes (layout col) n s) s)

-- ---- slots, column by column

-- the clear validity bits of a column
abbrev pub nulls_in : List Slot → ℕ
nulls_in [] = 0
nulls_in (none ∷ ss) = suc (nulls_in ss)
nulls_in (some v ∷ ss) = nulls_in ss

-- the null total: the number of clear bits among the validity bits of all rows and columns
abbrev pub nulls : List (List Slot) → ℕ
nulls [] = 0
nulls (ss ∷ sss) = nulls_in ss + nulls sss

-- the clear bits among the first n in front of v
abbrev pub clear_bits : ℕ → List ℕ → ℕ
clear_bits n v = sum (each 0 n (λ i. cond (bit v i) 0 1))

-- slot i of each list
abbrev pub slots_in : List (List Slot) → ℕ → List Slot
slots_in sss i = map (λ ss. get_or ss i none) sss

-- from slots column by column to slots row by row, and back: list i of n has slot i of each
abbrev pub turned : ℕ → List (List Slot) → List (List Slot)
turned n sss = each 0 n (slots_in sss)
