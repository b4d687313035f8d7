-- Reading rows back: each field is read from the part of the row that the previous one left.
use Rattle.std.specs.Prelude.{ℕ, zero, suc, ◌+◌, ◌-◌, Bool, true, cond, not, ◌&&◌, ◌||◌, List, [], ◌∷◌, ◌++◌, ltb, leb, eqb, length, take, drop, get_or, Result, Ok, Err, Some, None}
use Rattle.std.proofs.Math.Option.{none, some}
use Rattle.format.specs.declared.SortOptions.{SortOptions}
use Rattle.format.specs.declared.Column.{Column}
use Rattle.format.specs.declared.RowFault.{RowFault}
use Rattle.format.specs.declared.RowFault.TheVariants.{Cut, Lead, NullRest, BoolByte, EndByte, Padding, Extra, TooLong, Unfolded}
use Rattle.format.specs.declared.FieldRead.{FieldRead}
use Rattle.format.specs.declared.FieldFault.{FieldFault}
use Rattle.format.specs.Check.{Check, both}
use Rattle.format.specs.declared.Refusal.TheVariants.{Row}
use Rattle.format.specs.Limits.{max_slot}
use Rattle.format.specs.Kinds.{Fixed, Shape, fixed, variable, Slot, width, column_shape}
use Rattle.format.specs.Key.{unkey, allowed}
use Rattle.format.specs.Fold.{is_folded}
use Rattle.format.specs.Field.{directed, null_byte, block_size}

-- what was read and the bytes that are left; or the fault, and how many bytes are left from the bad byte on
-- (the first byte missing for 16, the first bad one for 18 and 21, the end byte of the block for 23, the first value byte for 28)
pub data Parsed (A : Type 0) : Type 0 where
  got : A → List ℕ → Parsed A
  fault : RowFault → ℕ → Parsed A

abbrev pub all_zero : List ℕ → Bool
all_zero [] = true
all_zero (x ∷ xs) = eqb x 0 && all_zero xs

-- how many bytes there are from the first that is not zero on
abbrev pub from_bad : List ℕ → ℕ
from_bad [] = 0
from_bad (x ∷ xs) = cond (eqb x 0) (from_bad xs) (suc (length xs))

-- something was read
abbrev pub Good : {A : Type 0} → Parsed A → Type 0
Good (got v r) = Unit {0}
Good (fault f l) = ⊥

-- a field whose lead byte is b is null; in a required column none is
abbrev pub null_lead : SortOptions → ℕ → Bool
null_lead o b = not o.required && eqb b (null_byte o)

-- ---- variable bytes

-- with the data of this block before that of the later ones
abbrev pub after : List ℕ → Parsed (List ℕ) → Parsed (List ℕ)
after d (got v r) = got (d ++ v) r
after d (fault f l) = fault f l

-- a whole block: its data and padding p, its end byte, the bytes after it, and what is read from those if more follow.
-- 20, 21, 23; c bytes of the value came before it, and this block's data count
abbrev pub read_block : ℕ → ℕ → ℕ → List ℕ → ℕ → List ℕ → Parsed (List ℕ) → Parsed (List ℕ)
read_block size limit c p end rest more =
    cond (eqb end 255)
    (cond (ltb limit (c + size)) (fault TooLong (suc (length rest))) (after p more))
    (cond (ltb end 1 || ltb size end) (fault EndByte (suc (length rest)))
    (cond (all_zero (drop end p))
    (cond (ltb limit (c + end)) (fault TooLong (suc (length rest))) (got (take end p) rest))
    (fault Padding (from_bad (drop end p) + suc (length rest)))))

-- from block k on, no more than n of them; 16 unless the block and its end byte are there
abbrev pub read_blocks : (ℕ → ℕ) → ℕ → ℕ → ℕ → ℕ → List ℕ → Parsed (List ℕ)
read_blocks size limit zero k c s = fault Cut 0
read_blocks size limit (suc n) k c s =
    cond (leb (length s) (size k)) (fault Cut 0)
    (read_block (size k) limit c (take (size k) s) (get_or s (size k) 0) (drop (suc (size k)) s)
    (read_blocks size limit n (suc k) (c + size k) (drop (suc (size k)) s)))

-- lead byte 16, 17; each block 16, 20, 21, 23
abbrev pub read_value : ℕ → List ℕ → Parsed (List ℕ)
read_value limit [] = fault Cut 0
read_value limit (b ∷ s) =
    cond (eqb b 1) (got [] s)
    (cond (eqb b 2) (read_blocks block_size limit (length s) 0 0 s)
    (fault Lead (suc (length s))))

-- a value that was read, with what is left as it stands in the row
abbrev pub value_slot : Bool → Parsed (List ℕ) → Parsed Slot
value_slot descending (got v r) = got (some v) (directed descending r)
value_slot descending (fault f l) = fault f l

-- under descending the bytes are read inverted back, all but the null byte
abbrev pub read_variable : ℕ → SortOptions → List ℕ → Parsed Slot
read_variable limit o [] = fault Cut 0
read_variable limit o (b ∷ s) =
    cond (null_lead o b) (got none s)
    (value_slot o.descending (read_value limit (directed o.descending (b ∷ s))))

-- ---- fixed kinds: lead byte 16, 17; fixed rest 16, 18, 19, 28

-- after the null byte: zeros
abbrev pub read_null : ℕ → List ℕ → Parsed Slot
read_null w s =
    cond (ltb (length s) w) (fault Cut 0)
    (cond (all_zero (take w s)) (got none (drop w s))
    (fault NullRest (from_bad (take w s) + length (drop w s))))

-- value bytes that are there, inverted back
abbrev pub read_key : Fixed → Bool → List ℕ → List ℕ → Parsed Slot
read_key k fold f rest =
    cond (allowed k f)
    (cond (is_folded k fold (unkey k f)) (got (some (unkey k f)) rest)
    (fault Unfolded (length f + length rest)))
    (fault BoolByte (length f + length rest))

-- after 01: the value bytes
abbrev pub read_bytes : Fixed → SortOptions → List ℕ → Parsed Slot
read_bytes k o s =
    cond (ltb (length s) (width k)) (fault Cut 0)
    (read_key k o.fold (directed o.descending (take (width k) s)) (drop (width k) s))

abbrev pub read_fixed : Fixed → SortOptions → List ℕ → Parsed Slot
read_fixed k o [] = fault Cut 0
read_fixed k o (b ∷ s) =
    cond (null_lead o b) (read_null (width k) s)
    (cond (eqb b 1) (read_bytes k o s)
    (fault Lead (suc (length s))))

-- ---- rows

abbrev pub read_field : Shape → SortOptions → List ℕ → Parsed Slot
read_field (fixed k) o s = read_fixed k o s
read_field variable o s = read_variable max_slot o s

-- the slot that was read, and what is left after it
abbrev pub slot_read : Parsed Slot → Slot
slot_read (got s r) = s
slot_read (fault f l) = none

abbrev pub left_after : Parsed Slot → List ℕ
left_after (got s r) = r
left_after (fault f l) = []

-- a field reader's answer: a null of so many bytes; a value's field, with the count of the value's bytes in the sheet; a fault
abbrev pub FieldAnswer : Type 0
FieldAnswer = Result FieldRead FieldFault

abbrev pub found_null : ℕ → FieldAnswer
found_null len = Ok (record { length = len; value = None })

abbrev pub found_value : ℕ → ℕ → FieldAnswer
found_value len n = Ok (record { length = len; value = Some n })

abbrev pub found_fault : RowFault → ℕ → FieldAnswer
found_fault f l = Err (record { 0 = f; 1 = l })

-- what was read, as a field reader answers it, of the bytes s
abbrev pub field_read : List ℕ → Parsed Slot → FieldAnswer
field_read s (got none r) = found_null (length s - length r)
field_read s (got (some v) r) = found_value (length s - length r) (length v)
field_read s (fault f l) = found_fault f l

-- a fault is refused with its row and column and its place in the row of len bytes, and else what follows is judged
abbrev pub field_check : ℕ → ℕ → ℕ → Parsed Slot → (List ℕ → Check) → Check
field_check r len c (got s rest) next = next rest
field_check r len c (fault f l) next = Err (Row f r c (len - l))

-- row r of len bytes, from column c on; after the last field 22
abbrev pub row_fault : ℕ → ℕ → ℕ → List Column → List ℕ → Check
row_fault r len c [] [] = Ok tt
row_fault r len c [] (b ∷ s) = Err (Row Extra r c (len - suc (length s)))
row_fault r len c (col ∷ cols) s = field_check r len c (read_field (column_shape col) col.options s) (row_fault r len (suc c) cols)

-- the slots of a row that has no fault
abbrev pub row_slots : List Column → List ℕ → List Slot
row_slots [] s = []
row_slots (col ∷ cols) s =
    slot_read (read_field (column_shape col) col.options s) ∷ row_slots cols (left_after (read_field (column_shape col) col.options s))

-- the first fault in row order, then column order: from row r on
abbrev pub rows_fault : ℕ → List Column → List (List ℕ) → Check
rows_fault r cols [] = Ok tt
rows_fault r cols (b ∷ bs) = both (row_fault r (length b) 0 cols b) (rows_fault (suc r) cols bs)
