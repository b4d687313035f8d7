-- Rows, computed: fields of each shape under both options, the order of values, and faults 16 to 23 with how many bytes are left
-- from the bad byte on. Assumes nothing.
use Prim.Native.Nat.Ordering.{eq}
use Prim.Native.Nat.Ordering.{gt}
use Prim.Native.Nat.Ordering.{lt}
use Prim.Native.Nat.{ℕ}
use mathlib.Core.Path.{◌≡◌, refl}
use mathlib.Core.Bool.{true, false}
use mathlib.Core.Option.{none, some}
use mathlib.Core.List.{List, [], ◌∷◌, ◌++◌}
use lib.ListN.{replicate}
use Rattle.format.specs.declared.SortOptions.{SortOptions}
use Rattle.format.specs.declared.Kind.{Kind}
use Rattle.format.specs.declared.Kind.TheVariants.{Bool, I16, U16, F16, MonthDayNano, FixedBinary, Variable, I128, I256}
use Rattle.format.specs.declared.RowFault.TheVariants.{Cut, Lead, NullRest, BoolByte, EndByte, Padding, Extra, TooLong, Unfolded}
use Rattle.format.specs.Check.{Check}
use Rattle.std.specs.declared.result.Result.TheVariants.{Ok, Err}
use Rattle.format.specs.declared.Refusal.TheVariants.{Row}
use Rattle.format.specs.Kinds.{shape}
use Rattle.format.specs.Field.{field, padded_length}
use Rattle.format.specs.Value.{slot_order}
use Rattle.format.specs.Fold.{folded_bits}
use Rattle.format.specs.Read.{got, fault, read_variable, read_field, row_fault, rows_fault, row_slots}

-- ascending with nulls first, and descending with nulls last
abbrev up : SortOptions
up = record { descending = false; nulls_first = true; required = false; fold = false }

abbrev down : SortOptions
down = record { descending = true; nulls_first = false; required = false; fold = false }

-- the same as up and as down, and required
abbrev must : SortOptions
must = record { descending = false; nulls_first = true; required = true; fold = false }

abbrev must_down : SortOptions
must_down = record { descending = true; nulls_first = false; required = true; fold = false }

-- the same as up, folding
abbrev folds : SortOptions
folds = record { descending = false; nulls_first = true; required = false; fold = true }

-- descending inverts the value bytes, not the 01; the null byte is never inverted
pub fields : (field (shape I16) up (some (1 ∷ 0 ∷ [])) ≡ 1 ∷ 0x80 ∷ 1 ∷ [])
    × (field (shape I16) down (some (1 ∷ 0 ∷ [])) ≡ 1 ∷ 0x7f ∷ 0xfe ∷ [])
    × (field (shape I16) down none ≡ 0xff ∷ 0 ∷ 0 ∷ [])
    × (field (shape F16) up (some (0 ∷ 0xbc ∷ [])) ≡ 1 ∷ 0x43 ∷ 0xff ∷ [])
    × (field (shape Bool) down (some (0 ∷ [])) ≡ 1 ∷ 0xff ∷ [])
    × (field (shape MonthDayNano) up (some (1 ∷ 0 ∷ 0 ∷ 0 ∷ 2 ∷ 0 ∷ 0 ∷ 0 ∷ 3 ∷ 0 ∷ 0 ∷ 0 ∷ 0 ∷ 0 ∷ 0 ∷ 0x80 ∷ [])) ≡ 1 ∷ 0x80 ∷ 0 ∷ 0 ∷ 1 ∷ 0x80 ∷ 0 ∷ 0 ∷ 2 ∷ 0 ∷ 0 ∷ 0 ∷ 0 ∷ 0 ∷ 0 ∷ 0 ∷ 3 ∷ [])
    × (field (shape (FixedBinary 2)) down (some (7 ∷ 8 ∷ [])) ≡ 1 ∷ 0xf8 ∷ 0xf7 ∷ [])
    × (field (shape Variable) down none ≡ 0xff ∷ [])
    × (field (shape I128) up (some (5 ∷ replicate 15 0xff)) ≡ 1 ∷ 0x7f ∷ replicate 14 0xff ++ 5 ∷ [])
    × (field (shape I256) down (some (5 ∷ replicate 31 0)) ≡ 1 ∷ 0x7f ∷ replicate 30 0xff ++ 0xfa ∷ [])
fields = (refl, refl, refl, refl, refl, refl, refl, refl, refl, refl)

-- the length of a field of variable bytes
pub lengths : (padded_length 0 ≡ 1) × (padded_length 8 ≡ 10) × (padded_length 9 ≡ 19) × (padded_length 32 ≡ 37) × (padded_length 33 ≡ 70) × (padded_length 65535 ≡ 67588)
lengths = (refl, refl, refl, refl, refl, refl)

-- numbers by size, -1 below 0; floats by rank, -0 below +0; nulls where the option says, whatever descending says
pub orders : (slot_order (shape I16) up (some (0xff ∷ 0xff ∷ [])) (some (0 ∷ 0 ∷ [])) ≡ lt)
    × (slot_order (shape U16) up (some (0xff ∷ 0xff ∷ [])) (some (0 ∷ 0 ∷ [])) ≡ gt)
    × (slot_order (shape F16) up (some (0 ∷ 0x80 ∷ [])) (some (0 ∷ 0 ∷ [])) ≡ lt)
    × (slot_order (shape F16) down (some (0 ∷ 0x80 ∷ [])) (some (0 ∷ 0 ∷ [])) ≡ gt)
    × (slot_order (shape Variable) up (some (97 ∷ [])) (some (97 ∷ 0 ∷ [])) ≡ lt)
    × (slot_order (shape Variable) up none (some []) ≡ lt)
    × (slot_order (shape Variable) down none (some []) ≡ gt)
    × (slot_order (shape Variable) down none none ≡ eq)
    × (slot_order (shape I256) up (some (replicate 31 0xff ++ 0x7f ∷ [])) (some (replicate 32 0xff)) ≡ gt)
orders = (refl, refl, refl, refl, refl, refl, refl, refl, refl)

-- a fixed field: lead byte 16, 17; rest 16, 18, 19
pub fixed_faults : (read_field (shape I16) up [] ≡ fault Cut 0)
    × (read_field (shape I16) up (0xff ∷ 0 ∷ []) ≡ fault Lead 2)
    × (read_field (shape I16) up (0 ∷ 0 ∷ []) ≡ fault Cut 0)
    × (read_field (shape I16) up (0 ∷ 0 ∷ 5 ∷ 6 ∷ []) ≡ fault NullRest 2)
    × (read_field (shape Bool) down (1 ∷ 0xfd ∷ 6 ∷ []) ≡ fault BoolByte 2)
    × (read_field (shape Bool) down (1 ∷ 0xfe ∷ 6 ∷ []) ≡ got (some (1 ∷ [])) (6 ∷ []))
    × (read_field (shape I16) up (0 ∷ 0 ∷ 0 ∷ 6 ∷ []) ≡ got none (6 ∷ []))
fixed_faults = (refl, refl, refl, refl, refl, refl, refl)

-- a variable field: lead byte 16, 17; each block 16, 20, 21, 23 (here with a limit of 9 bytes)
pub variable_faults : (read_field (shape Variable) up (3 ∷ []) ≡ fault Lead 1)
    × (read_field (shape Variable) up (2 ∷ []) ≡ fault Cut 0)
    × (read_field (shape Variable) down (0xfd ∷ 1 ∷ []) ≡ fault Cut 0)
    × (read_field (shape Variable) up (2 ∷ 97 ∷ replicate 7 0 ++ 9 ∷ 5 ∷ []) ≡ fault EndByte 2)
    × (read_field (shape Variable) up (2 ∷ 97 ∷ replicate 6 0 ++ 1 ∷ 1 ∷ []) ≡ fault Padding 2)
    × (read_variable 9 up (2 ∷ replicate 8 97 ++ 255 ∷ replicate 8 97 ++ 8 ∷ []) ≡ fault TooLong 1)
    × (read_variable 7 up (2 ∷ replicate 8 97 ++ 255 ∷ []) ≡ fault TooLong 1)
    × (read_variable 9 up (2 ∷ replicate 8 97 ++ 255 ∷ 98 ∷ replicate 7 0 ++ 1 ∷ 5 ∷ []) ≡ got (some (replicate 8 97 ++ 98 ∷ [])) (5 ∷ []))
    × (read_field (shape Variable) down (0xfe ∷ 5 ∷ []) ≡ got (some []) (5 ∷ []))
    × (read_field (shape Variable) down (0xff ∷ 5 ∷ []) ≡ got none (5 ∷ []))
variable_faults = (refl, refl, refl, refl, refl, refl, refl, refl, refl, refl)

-- the null byte in a required column is 17, even where the rest is cut
pub required_faults : (read_field (shape I16) must (0 ∷ 0 ∷ 0 ∷ 6 ∷ []) ≡ fault Lead 4)
    × (read_field (shape I16) must (0 ∷ []) ≡ fault Lead 1)
    × (read_field (shape Variable) must (0 ∷ 5 ∷ []) ≡ fault Lead 2)
    × (read_field (shape Variable) must_down (0xff ∷ 5 ∷ []) ≡ fault Lead 2)
    × (read_field (shape Variable) must_down (0xfe ∷ 5 ∷ []) ≡ got (some []) (5 ∷ []))
    × (read_field (shape I16) must (1 ∷ 0x80 ∷ 1 ∷ []) ≡ got (some (1 ∷ 0 ∷ [])) [])
required_faults = (refl, refl, refl, refl, refl, refl)

-- 28 after 16 and 17, for a float that folding would change, in a column that folds; the place is its first value byte
pub folded_faults : (read_field (shape F16) folds (1 ∷ 0x7f ∷ 0xff ∷ 6 ∷ []) ≡ fault Unfolded 3)
    × (read_field (shape F16) folds (1 ∷ 0x80 ∷ 0 ∷ 6 ∷ []) ≡ got (some (0 ∷ 0 ∷ [])) (6 ∷ []))
    × (read_field (shape F16) folds (1 ∷ 0xfe ∷ 1 ∷ []) ≡ fault Unfolded 2)
    × (read_field (shape F16) folds (1 ∷ 0xfe ∷ 0 ∷ []) ≡ got (some (0 ∷ 0x7e ∷ [])) [])
    × (read_field (shape F16) folds (1 ∷ 0xfc ∷ 0 ∷ []) ≡ got (some (0 ∷ 0x7c ∷ [])) [])
    × (read_field (shape F16) folds (1 ∷ 0x7f ∷ []) ≡ fault Cut 0)
    × (read_field (shape F16) up (1 ∷ 0x7f ∷ 0xff ∷ []) ≡ got (some (0 ∷ 0x80 ∷ [])) [])
folded_faults = (refl, refl, refl, refl, refl, refl, refl)

-- every NaN becomes one, by width; −0 becomes +0; the rest stays
pub folding : (folded_bits 2 0xfc01 ≡ 0x7e00) × (folded_bits 2 0x8000 ≡ 0) × (folded_bits 2 0xfc00 ≡ 0xfc00) × (folded_bits 2 0x8001 ≡ 0x8001)
    × (folded_bits 4 0x7f800001 ≡ 0x7fc00000) × (folded_bits 4 0x80000000 ≡ 0) × (folded_bits 4 0xff800000 ≡ 0xff800000) × (folded_bits 4 1 ≡ 1)
    × (folded_bits 8 0xffffffffffffffff ≡ 0x7ff8000000000000) × (folded_bits 8 0x8000000000000000 ≡ 0) × (folded_bits 8 0x7ff0000000000000 ≡ 0x7ff0000000000000)
folding = (refl, refl, refl, refl, refl, refl, refl, refl, refl, refl, refl)

-- the first fault in row order, then column order; 22 after the last field
pub row_faults : (row_fault 4 2 0 (record { kind = Bool; options = up } ∷ []) (1 ∷ 1 ∷ []) ≡ Ok tt)
    × (row_fault 4 3 0 (record { kind = Bool; options = up } ∷ []) (1 ∷ 1 ∷ 0 ∷ []) ≡ Err (Row Extra 4 1 2))
    × (rows_fault 0 (record { kind = Bool; options = up } ∷ record { kind = Bool; options = up } ∷ []) ((1 ∷ 1 ∷ 9 ∷ 1 ∷ []) ∷ (9 ∷ []) ∷ []) ≡ Err (Row Lead 0 1 2))
    × (row_slots (record { kind = Bool; options = up } ∷ record { kind = Variable; options = down } ∷ []) (0 ∷ 0 ∷ 0xfe ∷ []) ≡ none ∷ some [] ∷ [])
row_faults = (refl, refl, refl, refl)

-- after a row and a field that pass, a bool of two bytes, what is wrong in a field of kind k
abbrev second : Kind → List ℕ → Check
second k f =
    rows_fault 7 (record { kind = Bool; options = up } ∷ record { kind = k; options = up } ∷ [])
    ((1 ∷ 1 ∷ field (shape k) up none) ∷ (1 ∷ 0 ∷ f) ∷ [])

-- places count from the start of the row: the first byte missing for 16, the bad byte for 17 to 21 (the first for 18 and 21), the
-- first extra byte for 22
pub places : (second I16 (1 ∷ 9 ∷ []) ≡ Err (Row Cut 8 1 4))
    × (second I16 (9 ∷ 0 ∷ 0 ∷ []) ≡ Err (Row Lead 8 1 2))
    × (second I16 (0 ∷ 5 ∷ 6 ∷ []) ≡ Err (Row NullRest 8 1 3))
    × (second Bool (1 ∷ 2 ∷ []) ≡ Err (Row BoolByte 8 1 3))
    × (second Variable (2 ∷ 97 ∷ replicate 7 0 ++ 9 ∷ 5 ∷ []) ≡ Err (Row EndByte 8 1 11))
    × (second Variable (2 ∷ 97 ∷ 0 ∷ 5 ∷ 0 ∷ 6 ∷ replicate 3 0 ++ 1 ∷ []) ≡ Err (Row Padding 8 1 5))
    × (second Variable (1 ∷ 5 ∷ []) ≡ Err (Row Extra 8 2 3))
places = (refl, refl, refl, refl, refl, refl, refl)
