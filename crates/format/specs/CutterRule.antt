-- The rule on a row cutter's state: what every state from a start or a call keeps. A state that keeps it is taken at its word.
use Rattle.std.specs.Prelude.{ℕ, suc, ◌+◌, ◌-◌, ◌*◌, ◌^◌, Bool, true, false, cond, not, ◌&&◌, ◌||◌, List, [], ◌∷◌, ltb, leb, eqb, get_or, take, Ok, Err}
use Rattle.format.specs.declared.Column.{Column}
use Rattle.format.specs.declared.Schema.{Schema}
use Rattle.format.specs.Check.{Check}
use Rattle.format.specs.declared.Returned.{Returned}
use Rattle.format.specs.declared.Spot.{Spot}
use Rattle.format.specs.declared.Spot.TheVariants.{Start, Nulls, Value, Block}
use Rattle.format.specs.declared.Cutter.{Cutter}
use Rattle.format.specs.Limits.{max_columns, max_width, max_slot, max_total}
use Rattle.format.specs.Kinds.{Fixed, Shape, fixed, variable, width, value_bytes, column_shape}
use Rattle.format.specs.Field.{block_size, max_field}
use Rattle.format.specs.Fold.{folds}
use Rattle.format.specs.Schemas.{no_column, cols_of}
use Rattle.format.specs.Numbers.{refusal_numbers}

abbrev pub within : ℕ → ℕ → ℕ → Bool
within low high n = leb low n && leb n high

-- ---- the columns: such as a list may have; those past the count mean nothing

-- only floats fold
abbrev pub may_fold : Shape → Bool
may_fold (fixed k) = folds k true
may_fold variable = false

abbrev pub column_kept : Column → Bool
column_kept col = leb (value_bytes col.kind) max_width && (not col.options.fold || may_fold (column_shape col))

abbrev pub columns_kept : List Column → Bool
columns_kept [] = true
columns_kept (col ∷ cols) = column_kept col && columns_kept cols

abbrev pub schema_kept : Schema → Bool
schema_kept schema = leb schema.count max_columns && columns_kept (cols_of schema)

-- ---- the field that is being read

-- how many bytes of a value come before block k
abbrev pub before : ℕ → ℕ
before k = cond (ltb k 4) (8 * k) (32 * (k - 3))

-- how many bytes of the field came before this spot: the lead byte, and for each whole block its data and its end byte
abbrev pub field_seen : Spot → ℕ
field_seen Start = 0
field_seen (Nulls seen known) = suc seen
field_seen (Value seen spelt) = suc seen
field_seen (Block k seen marks) = suc (before k + k + seen)

-- what the value bytes seen spell, where the column folds them, and else 0
abbrev pub spelt_kept : Fixed → Bool → ℕ → ℕ → Bool
spelt_kept k fold seen spelt = ltb spelt (cond (folds k fold) (256 ^ seen) 1)

-- the spot is one of such a field, `row` bytes into the row. A byte is missing still; a bad byte is one of those seen; a block has its
-- number, since the value is not over the limit before it, and marks for the bytes seen alone
abbrev pub spot_kept : Shape → Bool → ℕ → Spot → Bool
spot_kept sh fold row Start = true
spot_kept (fixed k) fold row (Nulls seen known) = ltb seen (width k) && (eqb known 0 || within (row - seen) (row - 1) known)
spot_kept (fixed k) fold row (Value seen spelt) = ltb seen (width k) && spelt_kept k fold seen spelt
spot_kept variable fold row (Block k seen marks) = leb (before k) max_slot && leb seen (block_size k) && ltb marks (2 ^ seen)
spot_kept variable fold row (Nulls seen known) = false
spot_kept variable fold row (Value seen spelt) = false
spot_kept (fixed k) fold row (Block i seen marks) = false

-- ---- the row and the stream

-- the fewest and the most bytes of a field
abbrev pub fewest : Shape → ℕ
fewest (fixed k) = suc (width k)
fewest variable = 1

abbrev pub most : Shape → ℕ
most (fixed k) = suc (width k)
most variable = max_field

-- over columns
abbrev pub over_all : (Shape → ℕ) → List Column → ℕ
over_all f [] = 0
over_all f (col ∷ cols) = f (column_shape col) + over_all f cols

-- before this spot of column c the row has the fields of the columns before it, and what was seen of this one
abbrev pub row_kept : List Column → ℕ → Spot → ℕ → Bool
row_kept cols c spot row = within (over_all fewest (take c cols) + field_seen spot) (over_all most (take c cols) + field_seen spot) row

-- before this row the stream has the rows that ended
abbrev pub stream_kept : List Column → ℕ → ℕ → ℕ → Bool
stream_kept cols rows row bytes =
    within row max_total bytes && within (rows * over_all fewest cols) (rows * over_all most cols) (bytes - row)

-- the column that is being read
abbrev pub column_in : Cutter → Column
column_in s = get_or s.schema.columns s.column no_column

-- no refusal stands
abbrev pub standing_kept : Cutter → Bool
standing_kept s =
    schema_kept s.schema
    && ltb s.column s.schema.count
    && spot_kept (column_shape (column_in s)) (column_in s).options.fold s.row s.spot
    && row_kept (cols_of s.schema) s.column s.spot s.row
    && stream_kept (cols_of s.schema) s.rows s.row s.bytes

-- ---- a refused state: nothing but a refusal that a start or a call can leave

-- faults that show at a byte: not 16, which a finish answers, and not 22
abbrev pub fault_kept : ℕ → Bool
fault_kept number = within 17 21 number || eqb number 23 || eqb number 28

-- by its numbers: 1 to 5, at the kind byte of a column or of one past the last; 12; row faults, whose bad byte has at least as many bytes
-- before it in the stream as rows ended and its place say
abbrev pub numbers_kept : Returned → Bool
numbers_kept a =
    (within 1 5 a.0 && leb a.1 (4 * max_columns))
    || (eqb a.0 12 && eqb a.1 (suc max_total) && leb a.2 max_total)
    || (fault_kept a.0 && ltb (a.1 + a.3) max_total && ltb a.2 max_columns)

abbrev pub at_start : Spot → Bool
at_start Start = true
at_start (Nulls seen known) = false
at_start (Value seen spelt) = false
at_start (Block k seen marks) = false

-- no columns, no counts
abbrev pub emptied : Cutter → Bool
emptied s = eqb (s.schema.count + s.rows + s.bytes + s.row + s.column) 0 && at_start s.spot

-- ---- the rule

abbrev pub keeps_with : Check → Cutter → Bool
keeps_with (Ok tt) s = standing_kept s
keeps_with (Err r) s = emptied s && numbers_kept (refusal_numbers r)

unfoldable pub keeps : Cutter → Bool
keeps s = keeps_with s.refusal s
