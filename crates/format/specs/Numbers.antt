-- The numbers returned: this paper's number and values for each answer.
use Rattle.std.specs.Prelude.{ℕ, Bool, ◌&&◌, ◌||◌, leb, eqb, Result, Ok, Err}
use Rattle.format.specs.declared.RowFault.{RowFault}
use Rattle.format.specs.declared.RowFault.TheVariants.{Cut, Lead, NullRest, BoolByte, EndByte, Padding, Extra, TooLong, Unfolded}
use Rattle.format.specs.declared.Refusal.{Refusal}
use Rattle.format.specs.declared.Refusal.TheVariants.{ListCut, UnknownKind, OptionBits, Width, ManyColumns, ManyRows, ColumnCut, SpareBit, Ends, LongSlot, BytesAfter, ManyBytes, RowRoom, OffsetRoom, Offsets, Row, SheetRoom, Input, OutOfOrder, Missing, ColumnRoom, KeyColumns, SheetRow, BrokenState}
use Rattle.format.specs.declared.Returned.{Returned}

-- what an entry answers: the second and third number of a success, or the refusal
abbrev pub Answer : Type 0
Answer = Result (ℕ × ℕ) Refusal

abbrev pub four : ℕ → ℕ → ℕ → ℕ → Returned
four a b c d = record { 0 = a; 1 = b; 2 = c; 3 = d }

-- the fourth number is a place in a row, and 0 where none is bad
abbrev pub three : ℕ → ℕ → ℕ → Returned
three a b c = four a b c 0

abbrev pub fault_number : RowFault → ℕ
fault_number Cut = 16
fault_number Lead = 17
fault_number NullRest = 18
fault_number BoolByte = 19
fault_number EndByte = 20
fault_number Padding = 21
fault_number Extra = 22
fault_number TooLong = 23
fault_number Unfolded = 28

-- the table of refusals
abbrev pub refusal_numbers : Refusal → Returned
refusal_numbers (ListCut place) = three 1 place 0
refusal_numbers (UnknownKind place) = three 2 place 0
refusal_numbers (OptionBits place) = three 3 place 0
refusal_numbers (Width place) = three 4 place 0
refusal_numbers (ManyColumns place) = three 5 place 0
refusal_numbers (ManyRows n) = three 6 n 0
refusal_numbers (ColumnCut c) = three 7 c 0
refusal_numbers (SpareBit c) = three 8 c 0
refusal_numbers (Ends c r) = three 9 c r
refusal_numbers (LongSlot c r) = three 10 c r
refusal_numbers (BytesAfter place) = three 11 place 0
refusal_numbers (ManyBytes total rows) = three 12 total rows
refusal_numbers (RowRoom total) = three 13 total 0
refusal_numbers (OffsetRoom count) = three 14 count 0
refusal_numbers (Offsets i) = three 15 i 0
refusal_numbers (Row f r c place) = four (fault_number f) r c place
refusal_numbers (SheetRoom bytes) = three 24 bytes 0
refusal_numbers Input = three 25 0 0
refusal_numbers (OutOfOrder p r) = three 26 p r
refusal_numbers (Missing c r) = three 27 c r
refusal_numbers (ColumnRoom count) = three 29 count 0
refusal_numbers (KeyColumns k) = three 31 k 0
refusal_numbers (SheetRow sheet r) = three 32 sheet r
refusal_numbers BrokenState = three 33 0 0

-- refusals by what a row holds: 16 to 23, and 28
abbrev pub by_content : Refusal → Bool
by_content r = (leb 16 (refusal_numbers r).0 && leb (refusal_numbers r).0 23) || eqb (refusal_numbers r).0 28

abbrev pub numbers_of : Answer → Returned
numbers_of (Ok (a, b)) = three 0 a b
numbers_of (Err r) = refusal_numbers r
