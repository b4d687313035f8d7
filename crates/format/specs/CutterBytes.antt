-- A row cutter's state as lent bytes: thirteen numbers of eight bytes, low byte first, and four bytes for each column that there may be.
-- Then the cutter's C entries.
use Rattle.std.specs.Prelude.{ℕ, ◌+◌, ◌-◌, ◌*◌, ◌/◌, Bool, true, false, cond, ◌&&◌, List, [], ◌∷◌, ◌++◌, ltb, leb, eqb, length, get_or, take, drop, replicate, Ok, Err}
use Rattle.format.specs.declared.Column.{Column}
use Rattle.format.specs.declared.RowFault.TheVariants.{Lead, NullRest, BoolByte, EndByte, Padding, TooLong, Unfolded}
use Rattle.format.specs.declared.Refusal.TheVariants.{ListCut, UnknownKind, OptionBits, Width, ManyColumns, ManyBytes, Row, BrokenState}
use Rattle.format.specs.Check.{Check}
use Rattle.format.specs.declared.Returned.{Returned}
use Rattle.format.specs.declared.Spot.{Spot}
use Rattle.format.specs.declared.Spot.TheVariants.{Start, Nulls, Value, Block}
use Rattle.format.specs.declared.Cutter.{Cutter}
use Rattle.format.specs.Limits.{max_columns}
use Rattle.format.specs.Lists.{each, over}
use Rattle.format.specs.Described.{ColumnList, codes, code_at, column_of}
use Rattle.format.specs.Schemas.{schema_of, cols_of}
use Rattle.format.specs.Numbers.{three, refusal_numbers}
use Rattle.format.specs.Lent.{eights, eight_bytes, answer_bytes, unless_short}
use Rattle.format.specs.CutterRule.{keeps}
use Rattle.format.specs.Cutter.{begun, start_answer, start_state, cut_answer, cut_state, cut_ends, finish_answer}

-- ---- written

-- numbers 0 to 3 are those of the refusal that stands, or 0
abbrev pub check_numbers : Check → Returned
check_numbers (Ok tt) = three 0 0 0
check_numbers (Err r) = refusal_numbers r

-- numbers 8 to 11: before a lead byte 0; after a fixed null's 1, seen, the bad place; after a fixed value's 2, seen, what they spell; in
-- a block 3, its number, seen, marks
abbrev pub spot_numbers : Spot → List ℕ
spot_numbers Start = 0 ∷ 0 ∷ 0 ∷ 0 ∷ []
spot_numbers (Nulls seen known) = 1 ∷ seen ∷ known ∷ 0 ∷ []
spot_numbers (Value seen spelt) = 2 ∷ seen ∷ spelt ∷ 0 ∷ []
spot_numbers (Block k seen marks) = 3 ∷ k ∷ seen ∷ marks ∷ []

-- numbers 4 to 7: rows ended, bytes of the stream, bytes of the row, column; number 12: the count of columns
abbrev pub state_numbers : Returned → Cutter → List ℕ
state_numbers a s =
    (a.0 ∷ a.1 ∷ a.2 ∷ a.3 ∷ s.rows ∷ s.bytes ∷ s.row ∷ s.column ∷ []) ++ spot_numbers s.spot ++ (s.schema.count ∷ [])

-- the bytes of the numbers
abbrev pub numbers_size : ℕ
numbers_size = 8 * 13

-- then the columns, four bytes each, and zeros for those that are not there
unfoldable pub state_bytes : Cutter → List ℕ
state_bytes s =
    eight_bytes (state_numbers (check_numbers s.refusal) s)
    ++ codes (cols_of s.schema)
    ++ replicate (4 * (max_columns - s.schema.count)) 0

abbrev pub state_size : ℕ
state_size = numbers_size + 4 * max_columns

-- ---- read back

-- the refusal of four numbers; any that a state cannot hold breaks the rule
abbrev pub check_of : ℕ → ℕ → ℕ → ℕ → Check
check_of a b c d =
    cond (eqb a 0) (Ok tt)
    (cond (eqb a 1) (Err (ListCut b))
    (cond (eqb a 2) (Err (UnknownKind b))
    (cond (eqb a 3) (Err (OptionBits b))
    (cond (eqb a 4) (Err (Width b))
    (cond (eqb a 5) (Err (ManyColumns b))
    (cond (eqb a 12) (Err (ManyBytes b c))
    (cond (eqb a 17) (Err (Row Lead b c d))
    (cond (eqb a 18) (Err (Row NullRest b c d))
    (cond (eqb a 19) (Err (Row BoolByte b c d))
    (cond (eqb a 20) (Err (Row EndByte b c d))
    (cond (eqb a 21) (Err (Row Padding b c d))
    (cond (eqb a 23) (Err (Row TooLong b c d))
    (cond (eqb a 28) (Err (Row Unfolded b c d))
    (Err BrokenState))))))))))))))

abbrev pub spot_of : ℕ → ℕ → ℕ → ℕ → Spot
spot_of p a b c =
    cond (eqb p 1) (Nulls a b)
    (cond (eqb p 2) (Value a b)
    (cond (eqb p 3) (Block a b c)
    Start))

-- the columns after the numbers; more than there may be are none
abbrev pub columns_of : List ℕ → ℕ → List Column
columns_of s count = each 0 (cond (leb count max_columns) count 0) (λ i. column_of (code_at (drop numbers_size s) i))

abbrev pub state_from : List ℕ → List ℕ → Cutter
state_from ns s = record {
  schema = schema_of (columns_of s (get_or ns 12 0));
  refusal = check_of (get_or ns 0 0) (get_or ns 1 0) (get_or ns 2 0) (get_or ns 3 0);
  rows = get_or ns 4 0;
  bytes = get_or ns 5 0;
  row = get_or ns 6 0;
  column = get_or ns 7 0;
  spot = spot_of (get_or ns 8 0) (get_or ns 9 0) (get_or ns 10 0) (get_or ns 11 0);
}

unfoldable pub state_of : List ℕ → Cutter
state_of s = state_from (eights (take numbers_size s)) s

-- ---- the rule on lent bytes: those of a state that keeps the rule, in front; bytes after them mean nothing

abbrev pub same : List ℕ → List ℕ → Bool
same [] [] = true
same [] (y ∷ ys) = false
same (x ∷ xs) [] = false
same (x ∷ xs) (y ∷ ys) = eqb x y && same xs ys

-- a lent state that is too short for any
abbrev pub no_room : List ℕ → Bool
no_room state = ltb (length state) state_size

-- they are written as they stand, and the state keeps the rule
unfoldable pub lent_keeps : List ℕ → Bool
lent_keeps s =
    leb state_size (length s)
    && same (state_bytes (state_of (take state_size s))) (take state_size s)
    && keeps (state_of (take state_size s))

-- the state of lent bytes; bytes that break the rule are read as one that breaks it, with no column
unfoldable pub lent_state : List ℕ → Cutter
lent_state s = cond (lent_keeps s) (state_of (take state_size s)) (begun [])

-- ---- the C entries

-- station_cutter_start: a lent state that is too short is 33, and stays
unfoldable pub lent_start : ColumnList → List ℕ → List ℕ → List ℕ
lent_start list state lent = answer_bytes (cond (no_room state) (Err BrokenState) (start_answer list)) lent

-- the state is written on a list fault too
unfoldable pub lent_start_state : ColumnList → List ℕ → List ℕ → List ℕ
lent_start_state list state lent = unless_short lent (cond (no_room state) state (over (state_bytes (start_state list)) state)) state

-- station_cut
unfoldable pub lent_cut : List ℕ → List ℕ → List ℕ → List ℕ → List ℕ
lent_cut state piece ends lent = answer_bytes (cut_answer (lent_state state) piece (length ends / 8)) lent

unfoldable pub lent_cut_state : List ℕ → List ℕ → List ℕ → List ℕ → List ℕ
lent_cut_state state piece ends lent =
    unless_short lent (cond (lent_keeps state) (over (state_bytes (cut_state (lent_state state) piece (length ends / 8))) state) state) state

unfoldable pub lent_cut_ends : List ℕ → List ℕ → List ℕ → List ℕ → List ℕ
lent_cut_ends state piece ends lent = unless_short lent (over (eight_bytes (cut_ends (lent_state state) piece (eights ends))) ends) ends

-- station_cutter_finish
unfoldable pub lent_finish : List ℕ → List ℕ → List ℕ
lent_finish state lent = answer_bytes (finish_answer (lent_state state)) lent
