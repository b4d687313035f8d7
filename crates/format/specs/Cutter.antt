-- The row cutter: rows joined, with no offsets, in pieces cut anywhere. What one byte does to the state; a piece is its bytes, one by one.
use Rattle.std.specs.Prelude.{ℕ, zero, suc, ◌+◌, ◌-◌, ◌*◌, ◌/◌, ◌%◌, ◌^◌, cond, not, ◌||◌, List, [], ◌∷◌, ◌++◌, reverse, ltb, eqb, length, Ok, Err}
use Rattle.format.specs.declared.SortOptions.{SortOptions}
use Rattle.format.specs.declared.Column.{Column}
use Rattle.format.specs.declared.RowFault.{RowFault}
use Rattle.format.specs.declared.RowFault.TheVariants.{Cut, Lead, NullRest, BoolByte, EndByte, Padding, TooLong, Unfolded}
use Rattle.format.specs.declared.Refusal.{Refusal}
use Rattle.format.specs.declared.Refusal.TheVariants.{ManyBytes, OffsetRoom, Row, BrokenState}
use Rattle.format.specs.Check.{Check, both, fail_if}
use Rattle.format.specs.Numbers.{Answer}
use Rattle.format.specs.declared.Spot.{Spot}
use Rattle.format.specs.declared.Spot.TheVariants.{Start, Nulls, Value, Block}
use Rattle.format.specs.declared.Cutter.{Cutter}
use Rattle.format.specs.Limits.{max_slot, max_total}
use Rattle.format.specs.Lists.{low_bytes}
use Rattle.format.specs.Kinds.{Fixed, Shape, fixed, variable, width, column_shape}
use Rattle.format.specs.Described.{ColumnList, list_fault, columns}
use Rattle.format.specs.Schemas.{schema_of}
use Rattle.format.specs.Key.{invert, unkey, allowed}
use Rattle.format.specs.Field.{block_size}
use Rattle.format.specs.Fold.{folds, is_folded}
use Rattle.format.specs.Read.{null_lead}
use Rattle.format.specs.Entries.{answer, written}
use Rattle.format.specs.CutterRule.{keeps, before, column_in}

-- ---- what a byte does to its field; `at` is the byte's place in the row

-- the field goes on, it is whole, or a fault shows: which, and the place of the bad byte
pub data Move : Type 0 where
  on : Spot → Move
  whole : Move
  bad : RowFault → ℕ → Move

-- under descending a byte is read inverted back
abbrev pub turn : SortOptions → ℕ → ℕ
turn o b = cond o.descending (invert b) b

-- a fixed field of no value bytes is whole with its lead byte
abbrev pub led : ℕ → Spot → Move
led w spot = cond (eqb w 0) whole (on spot)

-- the lead byte: 17 shows at it
abbrev pub lead_move : Shape → SortOptions → ℕ → ℕ → Move
lead_move (fixed k) o at b =
    cond (null_lead o b) (led (width k) (Nulls 0 0))
    (cond (eqb b 1) (led (width k) (Value 0 0))
    (bad Lead at))
lead_move variable o at b =
    cond (null_lead o b) whole
    (cond (eqb (turn o b) 1) whole
    (cond (eqb (turn o b) 2) (on (Block 0 0 0))
    (bad Lead at)))

-- the place of the first byte that is not zero: the one known, or else this one; 0 for none, since a lead byte stands before them all
abbrev pub first_bad : ℕ → ℕ → ℕ → ℕ
first_bad known at b = cond (eqb known 0) (cond (eqb b 0) 0 at) known

-- a byte after a fixed null's lead, of w: 18 shows at the last of them
abbrev pub null_move : ℕ → ℕ → ℕ → ℕ → ℕ → Move
null_move w seen known at b =
    cond (ltb (suc seen) w) (on (Nulls (suc seen) (first_bad known at b)))
    (cond (eqb (first_bad known at b) 0) whole
    (bad NullRest (first_bad known at b)))

-- the number that the value bytes spell with this one, high byte first, where the column folds them
abbrev pub spelt_with : Fixed → SortOptions → ℕ → ℕ → ℕ
spelt_with k o spelt b = cond (folds k o.fold) (256 * spelt + turn o b) 0

-- the last value byte: 19, at a bool's only one; 28, at the first value byte, for a number that is not folded
abbrev pub last_move : Fixed → SortOptions → ℕ → ℕ → ℕ → ℕ → Move
last_move k o seen spelt at b =
    cond (allowed k (turn o b ∷ []))
    (cond (is_folded k o.fold (unkey k (reverse (low_bytes (width k) spelt)))) whole (bad Unfolded (at - seen)))
    (bad BoolByte at)

-- a value byte: 19 and 28 show at the last of them
abbrev pub value_move : Fixed → SortOptions → ℕ → ℕ → ℕ → ℕ → Move
value_move k o seen spelt at b =
    cond (ltb (suc seen) (width k)) (on (Value (suc seen) (spelt_with k o spelt b)))
    (last_move k o seen (spelt_with k o spelt b) at b)

-- the lowest of n bits that is set
abbrev pub lowest : ℕ → ℕ → ℕ
lowest zero m = 0
lowest (suc n) m = cond (eqb (m % 2) 1) 0 (suc (lowest n (m / 2)))

-- the end byte of block k, inverted back: 23 or more blocks; or 20, 21, 23. Bit i of marks is set if byte i of the block is not zero
abbrev pub end_move : ℕ → ℕ → ℕ → ℕ → Move
end_move k marks at e =
    cond (eqb e 255)
    (cond (ltb max_slot (before k + block_size k)) (bad TooLong at) (on (Block (suc k) 0 0)))
    (cond (ltb e 1 || ltb (block_size k) e) (bad EndByte at)
    (cond (eqb (marks / 2 ^ e) 0)
    (cond (ltb max_slot (before k + e)) (bad TooLong at) whole)
    (bad Padding (at - block_size k + e + lowest 32 (marks / 2 ^ e)))))

-- a byte of block k
abbrev pub block_move : ℕ → ℕ → ℕ → ℕ → ℕ → Move
block_move k seen marks at b =
    cond (ltb seen (block_size k)) (on (Block k (suc seen) (marks + cond (eqb b 0) 0 (2 ^ seen))))
    (end_move k marks at b)

-- a byte, by where in the field it stands; the last cases are no place in such a field
abbrev pub move : Shape → SortOptions → Spot → ℕ → ℕ → Move
move sh o Start at b = lead_move sh o at b
move (fixed k) o (Nulls seen known) at b = null_move (width k) seen known at b
move (fixed k) o (Value seen spelt) at b = value_move k o seen spelt at b
move variable o (Block k seen marks) at b = block_move k seen marks at (turn o b)
move variable o (Nulls seen known) at b = bad Lead at
move variable o (Value seen spelt) at b = bad Lead at
move (fixed k) o (Block i seen marks) at b = bad Lead at

-- ---- what it does to the state

-- a refused state holds its refusal and nothing else
abbrev pub refused : Refusal → Cutter
refused r = record { schema = schema_of []; refusal = Err r; rows = 0; bytes = 0; row = 0; column = 0; spot = Start }

-- n bytes more of the same row, which stands in column c
abbrev pub further : Cutter → ℕ → ℕ → Spot → Cutter
further s n c spot =
    record { schema = s.schema; refusal = s.refusal; rows = s.rows; bytes = s.bytes + n; row = s.row + n; column = c; spot = spot }

-- n bytes more, which end the row
abbrev pub row_ended : Cutter → ℕ → Cutter
row_ended s n =
    record { schema = s.schema; refusal = s.refusal; rows = suc s.rows; bytes = s.bytes + n; row = 0; column = 0; spot = Start }

-- n bytes more, which complete the field, and with the last column's the row
abbrev pub field_ended : Cutter → ℕ → Cutter
field_ended s n = cond (ltb (suc s.column) s.schema.count) (further s n (suc s.column) Start) (row_ended s n)

abbrev pub moved : Cutter → Move → Cutter
moved s (on spot) = further s 1 s.column spot
moved s whole = field_ended s 1
moved s (bad f place) = refused (Row f s.rows s.column place)

-- what this byte does to the field that is being read
abbrev pub move_in : Cutter → ℕ → Move
move_in s b = move (column_shape (column_in s)) (column_in s).options s.spot s.row b

-- the 16,777,217th byte is refused 12, before a row fault at that byte
abbrev pub taken : Cutter → ℕ → Cutter
taken s b = cond (ltb s.bytes max_total) (moved s (move_in s b)) (refused (ManyBytes (suc max_total) s.rows))

-- a refusal stands
abbrev pub unless : Check → Cutter → Cutter → Cutter
unless (Ok tt) s t = t
unless (Err r) s t = s

abbrev pub step : Cutter → ℕ → Cutter
step s b = unless s.refusal s (taken s b)

-- ---- a piece

-- the state after it
abbrev pub fed : Cutter → List ℕ → Cutter
fed s [] = s
fed s (b ∷ bs) = fed (step s b) bs

-- the end of a row, counted from the start of the stream, if it ended between two states
abbrev pub new_end : Cutter → Cutter → List ℕ
new_end s t = cond (ltb s.rows t.rows) (t.bytes ∷ []) []

-- the ends of the rows that it completes
abbrev pub ends_in : Cutter → List ℕ → List ℕ
ends_in s [] = []
ends_in s (b ∷ bs) = new_end s (step s b) ++ ends_in (step s b) bs

-- ---- start

-- before the first byte
abbrev pub begun : List Column → Cutter
begun cols = record { schema = schema_of cols; refusal = Ok tt; rows = 0; bytes = 0; row = 0; column = 0; spot = Start }

-- from what the list check says, and the columns
abbrev pub started_with : Check → List Column → Cutter
started_with (Ok tt) cols = begun cols
started_with (Err r) cols = refused r

-- answers as the list check
unfoldable pub start_answer : ColumnList → Answer
start_answer list = answer (list_fault list) (length (columns list)) 0

unfoldable pub start_state : ColumnList → Cutter
start_state list = started_with (list_fault list) (columns list)

-- ---- a call

-- before the piece is read: 33, the refusal that stands, 14
abbrev pub cut_fault : Cutter → ℕ → ℕ → Check
cut_fault s size room =
    fail_if (not (keeps s)) BrokenState
    (both s.refusal
    (fail_if (ltb room size) (OffsetRoom size)
    (Ok tt)))

-- then 12 and row faults; success: ends written, 0
unfoldable pub cut_answer : Cutter → List ℕ → ℕ → Answer
cut_answer s piece room = answer (both (cut_fault s (length piece) room) (fed s piece).refusal) (length (ends_in s piece)) 0

-- the state at exit: it stays on 33, 14 and a refusal that stands
unfoldable pub cut_state : Cutter → List ℕ → ℕ → Cutter
cut_state s piece room = unless (cut_fault s (length piece) room) s (fed s piece)

-- the lent list: the ends of the rows that the piece completes, also those before a fault that shows in it
unfoldable pub cut_ends : Cutter → List ℕ → List ℕ → List ℕ
cut_ends s piece ends = written (cut_fault s (length piece) (length ends)) (ends_in s piece) ends

-- ---- the finish

-- what stands, or 16 within a row, at the first byte missing
abbrev pub finish_fault : Cutter → Check
finish_fault s = both s.refusal (fail_if (ltb 0 s.row) (Row Cut s.rows s.column s.row) (Ok tt))

-- 33 before these; success: rows in all, 0
unfoldable pub finish_answer : Cutter → Answer
finish_answer s = answer (fail_if (not (keeps s)) BrokenState (finish_fault s)) s.rows 0
