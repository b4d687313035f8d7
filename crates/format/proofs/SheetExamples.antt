-- The sheet, computed: refusals 7 to 11 and 27 with their values, in order; its slots, its nulls, and the cleared sheet. Assumes nothing.
use Prim.Native.Nat.{ℕ}
use mathlib.Core.Path.{◌≡◌, refl}
use mathlib.Core.Bool.{true, false}
use mathlib.Core.Option.{none, some}
use mathlib.Core.List.{List, [], ◌∷◌, ◌++◌}
use Rattle.format.specs.declared.Kind.TheVariants.{Bool, I16, F16, Variable}
use Rattle.format.specs.declared.Kind.{Kind}
use Rattle.format.specs.declared.Column.{Column}
use Rattle.std.specs.declared.result.Result.TheVariants.{Ok, Err}
use Rattle.format.specs.declared.Refusal.TheVariants.{ColumnCut, SpareBit, Ends, LongSlot, BytesAfter, Missing}
use Rattle.format.specs.Sheet.{sheet_fault, sheet_slots, nulls, turned}
use Rattle.format.specs.Cleared.{cleared_sheet}

abbrev of : Kind → Column
of kind = record { kind = kind; options = record { descending = false; nulls_first = false; required = false; fold = false } }

-- the same, and required
abbrev must : Kind → Column
must kind = record { kind = kind; options = record { descending = false; nulls_first = false; required = true; fold = false } }

-- the same, and folding
abbrev folds : Kind → Column
folds kind = record { kind = kind; options = record { descending = false; nulls_first = false; required = false; fold = true } }

-- three columns of three rows: bool, i16, variable bytes; the second slot of each is null and holds something
abbrev cols : List Column
cols = of Bool ∷ of I16 ∷ of Variable ∷ []

abbrev flags : List ℕ
flags = 0b101 ∷ 0b011 ∷ []

abbrev numbers : List ℕ
numbers = 0b101 ∷ 1 ∷ 0 ∷ 9 ∷ 9 ∷ 255 ∷ 255 ∷ []

abbrev names : List ℕ
names = 0b101 ∷ 0 ∷ 0 ∷ 0 ∷ 0 ∷ 1 ∷ 0 ∷ 0 ∷ 0 ∷ 3 ∷ 0 ∷ 0 ∷ 0 ∷ 3 ∷ 0 ∷ 0 ∷ 0 ∷ 97 ∷ 98 ∷ 99 ∷ []

abbrev sheet : List ℕ
sheet = flags ++ numbers ++ names

pub accepted : sheet_fault 3 cols sheet ≡ Ok tt
unfolding sheet_fault
accepted = refl

pub slots : sheet_slots 3 cols sheet
    ≡ (some (1 ∷ []) ∷ none ∷ some (0 ∷ []) ∷ [])
    ∷ (some (1 ∷ 0 ∷ []) ∷ none ∷ some (255 ∷ 255 ∷ []) ∷ [])
    ∷ (some (97 ∷ []) ∷ none ∷ some [] ∷ [])
    ∷ []
slots = refl

pub by_row : turned 3 (sheet_slots 3 cols sheet)
    ≡ (some (1 ∷ []) ∷ some (1 ∷ 0 ∷ []) ∷ some (97 ∷ []) ∷ [])
    ∷ (none ∷ none ∷ none ∷ [])
    ∷ (some (0 ∷ []) ∷ some (255 ∷ 255 ∷ []) ∷ some [] ∷ [])
    ∷ []
by_row = refl

pub null_total : nulls (sheet_slots 3 cols sheet) ≡ 3
null_total = refl

-- zeros, and length 0, in the null slots
pub cleared : cleared_sheet 3 cols (sheet_slots 3 cols sheet)
    ≡ 0b101 ∷ 0b001 ∷ 0b101 ∷ 1 ∷ 0 ∷ 0 ∷ 0 ∷ 255 ∷ 255 ∷ 0b101 ∷ 0 ∷ 0 ∷ 0 ∷ 0 ∷ 1 ∷ 0 ∷ 0 ∷ 0 ∷ 1 ∷ 0 ∷ 0 ∷ 0 ∷ 1 ∷ 0 ∷ 0 ∷ 0 ∷ 97 ∷ []
cleared = refl

-- folded floats: −0, a NaN, a null that holds one, and 1.0
pub folded_slots : sheet_slots 4 (folds F16 ∷ []) (0b1011 ∷ 0 ∷ 0x80 ∷ 1 ∷ 0xfc ∷ 1 ∷ 0xfc ∷ 0 ∷ 0x3c ∷ [])
    ≡ (some (0 ∷ 0 ∷ []) ∷ some (0 ∷ 0x7e ∷ []) ∷ none ∷ some (0 ∷ 0x3c ∷ []) ∷ [])
    ∷ []
folded_slots = refl

-- row 8 is the first bit of the second byte
pub ninth_row : sheet_slots 9 (of Bool ∷ []) (255 ∷ 1 ∷ 0 ∷ 1 ∷ [])
    ≡ (some (0 ∷ []) ∷ some (0 ∷ []) ∷ some (0 ∷ []) ∷ some (0 ∷ []) ∷ some (0 ∷ []) ∷ some (0 ∷ []) ∷ some (0 ∷ []) ∷ some (0 ∷ []) ∷ some (1 ∷ []) ∷ [])
    ∷ []
ninth_row = refl

-- 7 and 8: validity before values, in column order
pub bits_refused : (sheet_fault 9 cols (255 ∷ []) ≡ Err (ColumnCut 0))
    × (sheet_fault 9 cols (255 ∷ 2 ∷ []) ≡ Err (SpareBit 0))
    × (sheet_fault 3 cols (7 ∷ []) ≡ Err (ColumnCut 0))
    × (sheet_fault 3 cols (7 ∷ 8 ∷ []) ≡ Err (SpareBit 0))
    × (sheet_fault 3 cols (flags ++ 8 ∷ []) ≡ Err (SpareBit 1))
    × (sheet_fault 3 cols (flags ++ 7 ∷ 0 ∷ []) ≡ Err (ColumnCut 1))
unfolding sheet_fault
bits_refused = (refl, refl, refl, refl, refl, refl)

-- 27, at the first null row: after the spare bits, before the values
pub missing_refused : (sheet_fault 3 (must Bool ∷ []) (0b1101 ∷ []) ≡ Err (SpareBit 0))
    × (sheet_fault 3 (must Bool ∷ []) (0b001 ∷ []) ≡ Err (Missing 0 1))
    × (sheet_fault 3 (must Bool ∷ []) (0b111 ∷ []) ≡ Err (ColumnCut 0))
    × (sheet_fault 3 (of Bool ∷ must I16 ∷ []) (flags ++ numbers) ≡ Err (Missing 1 1))
    × (sheet_fault 0 (must I16 ∷ []) [] ≡ Ok tt)
unfolding sheet_fault
missing_refused = (refl, refl, refl, refl, refl)

-- ends cut 7, then row by row 9 and 10, then bytes 7
pub ends_refused : (sheet_fault 1 (of Variable ∷ []) (1 ∷ 1 ∷ 0 ∷ 0 ∷ 0 ∷ []) ≡ Err (ColumnCut 0))
    × (sheet_fault 1 (of Variable ∷ []) (1 ∷ 2 ∷ 0 ∷ 0 ∷ 0 ∷ 1 ∷ 0 ∷ 0 ∷ 0 ∷ 97 ∷ []) ≡ Err (Ends 0 0))
    × (sheet_fault 2 (of Variable ∷ []) (3 ∷ 0 ∷ 0 ∷ 0 ∷ 0 ∷ 2 ∷ 0 ∷ 0 ∷ 0 ∷ 1 ∷ 0 ∷ 0 ∷ 0 ∷ 97 ∷ 97 ∷ []) ≡ Err (Ends 0 1))
    × (sheet_fault 2 (of Variable ∷ []) (0 ∷ 0 ∷ 0 ∷ 0 ∷ 0 ∷ 0 ∷ 0 ∷ 1 ∷ 0 ∷ 0 ∷ 0 ∷ 0 ∷ 0 ∷ []) ≡ Err (LongSlot 0 0))
    × (sheet_fault 1 (of Variable ∷ []) (1 ∷ 0 ∷ 0 ∷ 0 ∷ 0 ∷ 255 ∷ 255 ∷ 0 ∷ 0 ∷ 97 ∷ []) ≡ Err (ColumnCut 0))
unfolding sheet_fault
ends_refused = (refl, refl, refl, refl, refl)

-- a sliced column: its first end is 2, and the two bytes before it mean nothing
pub sliced : (sheet_fault 2 (of Variable ∷ []) (3 ∷ 2 ∷ 0 ∷ 0 ∷ 0 ∷ 3 ∷ 0 ∷ 0 ∷ 0 ∷ 3 ∷ 0 ∷ 0 ∷ 0 ∷ 9 ∷ 9 ∷ 97 ∷ []) ≡ Ok tt)
    × (sheet_slots 2 (of Variable ∷ []) (3 ∷ 2 ∷ 0 ∷ 0 ∷ 0 ∷ 3 ∷ 0 ∷ 0 ∷ 0 ∷ 3 ∷ 0 ∷ 0 ∷ 0 ∷ 9 ∷ 9 ∷ 97 ∷ []) ≡ (some (97 ∷ []) ∷ some [] ∷ []) ∷ [])
    × (sheet_fault 0 (of Variable ∷ []) (1 ∷ 0 ∷ 0 ∷ 0 ∷ 9 ∷ []) ≡ Ok tt)
    × (sheet_fault 0 (of Variable ∷ []) (2 ∷ 0 ∷ 0 ∷ 0 ∷ 9 ∷ []) ≡ Err (ColumnCut 0))
unfolding sheet_fault
sliced = (refl, refl, refl, refl)

-- 11, at its place in the sheet; no rows leave one end
pub after_refused : (sheet_fault 3 cols (sheet ++ 0 ∷ []) ≡ Err (BytesAfter 29))
    × (sheet_fault 0 (of Variable ∷ []) (0 ∷ 0 ∷ 0 ∷ 0 ∷ []) ≡ Ok tt)
    × (sheet_fault 0 cols [] ≡ Err (ColumnCut 2))
unfolding sheet_fault
after_refused = (refl, refl, refl)
