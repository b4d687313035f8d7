-- The row cutter, computed on small cases. Assumes nothing.
use Prim.Native.Nat.{ℕ}
use mathlib.Core.Path.{◌≡◌, refl}
use mathlib.Core.Bool.{true, false}
use mathlib.Core.List.{List, [], ◌∷◌, ◌++◌}
use lib.ListN.{length, replicate}
use Rattle.std.specs.declared.result.Result.TheVariants.{Ok}
use Rattle.format.specs.declared.Spot.{Spot}
use Rattle.format.specs.declared.Spot.TheVariants.{Start, Nulls, Value, Block}
use Rattle.format.specs.declared.Cutter.{Cutter}
use Rattle.format.specs.Columns.{spelled_fault, spelled_columns}
use Rattle.format.specs.Described.{ColumnList, spelled}
use Rattle.format.specs.Schemas.{schema_of}
use Rattle.format.specs.Numbers.{three, four, numbers_of}
use Rattle.format.specs.CutterRule.{keeps}
use Rattle.format.specs.Cutter.{start_answer, start_state, cut_answer, cut_state, cut_ends, finish_answer}
use Rattle.format.specs.CutterBytes.{state_bytes, state_size, state_of, lent_keeps}

-- ---- an i8 and a name, nulls first
abbrev list : ColumnList
list = spelled (2 ∷ 2 ∷ 16 ∷ 2 ∷ [])

-- 5 and "a"; null and empty
abbrev stream : List ℕ
stream = 1 ∷ 133 ∷ 2 ∷ 97 ∷ replicate 7 0 ++ 1 ∷ 0 ∷ 0 ∷ 1 ∷ []

abbrev first : Cutter
first = cut_state (start_state list) (1 ∷ 133 ∷ 2 ∷ 97 ∷ 0 ∷ []) 5

-- in two pieces; a piece that completes no row writes nothing; within a row a finish is 16, at the first byte missing
pub cuts : (numbers_of (start_answer list) ≡ three 0 2 0)
    × (numbers_of (cut_answer (start_state list) (1 ∷ 133 ∷ 2 ∷ 97 ∷ 0 ∷ []) 5) ≡ three 0 0 0)
    × (numbers_of (finish_answer first) ≡ four 16 0 1 5)
    × (numbers_of (cut_answer first (replicate 6 0 ++ 1 ∷ 0 ∷ 0 ∷ 1 ∷ []) 10) ≡ three 0 2 0)
    × (cut_ends first (replicate 6 0 ++ 1 ∷ 0 ∷ 0 ∷ 1 ∷ []) (replicate 10 9) ≡ 12 ∷ 15 ∷ replicate 8 9)
    × (numbers_of (finish_answer (cut_state (start_state list) stream 15)) ≡ three 0 2 0)
    × (cut_ends (start_state list) stream (replicate 15 9) ≡ 12 ∷ 15 ∷ replicate 13 9)
unfolding start_answer start_state cut_answer cut_state cut_ends finish_answer keeps spelled_fault spelled_columns
cuts = (refl, refl, refl, refl, refl, refl, refl)

-- where it stands after five bytes: row byte 5, column 1, in block 0 with two bytes seen, of which the first is not zero
pub stands : (first.row ≡ 5) × (first.column ≡ 1) × (first.spot ≡ Block 0 2 1) × (keeps first ≡ true) × (lent_keeps (state_bytes first) ≡ true)
    × (length (state_bytes first) ≡ state_size)
unfolding start_state cut_state keeps state_bytes state_of lent_keeps spelled_fault spelled_columns
stands = (refl, refl, refl, refl, refl, refl)

-- 14; faults at the byte that completes a field or block, with the place of the bad byte; ends before them are kept; the refusal stands
pub cut_refuses : (numbers_of (cut_answer (start_state list) stream 14) ≡ three 14 15 0)
    × (numbers_of (cut_answer (start_state list) (0 ∷ 7 ∷ 9 ∷ []) 3) ≡ four 18 0 0 1)
    × (numbers_of (cut_answer (start_state list) (stream ++ 1 ∷ 133 ∷ 3 ∷ 0 ∷ []) 19) ≡ four 17 2 1 2)
    × (cut_ends (start_state list) (stream ++ 1 ∷ 133 ∷ 3 ∷ 0 ∷ []) (replicate 19 9) ≡ 12 ∷ 15 ∷ replicate 17 9)
    × (numbers_of (cut_answer (cut_state (start_state list) (0 ∷ 7 ∷ []) 2) (1 ∷ []) 0) ≡ four 18 0 0 1)
    × (numbers_of (finish_answer (start_state (spelled (2 ∷ 9 ∷ [])))) ≡ three 3 0 0)
    × (numbers_of (cut_answer first (0 ∷ 7 ∷ 0 ∷ 7 ∷ 0 ∷ 0 ∷ 1 ∷ []) 7) ≡ four 21 0 1 6)
unfolding start_answer start_state cut_answer cut_state cut_ends finish_answer keeps spelled_fault spelled_columns
cut_refuses = (refl, refl, refl, refl, refl, refl, refl)

-- 18 shows at the last byte of the rest, 19 at a bool's only byte, 28 at a float's last, each with the place of the bad byte; 20 at the end byte
pub late_faults : (numbers_of (cut_answer (start_state (spelled (3 ∷ 2 ∷ []))) (0 ∷ 7 ∷ []) 2) ≡ three 0 0 0)
    × (numbers_of (cut_answer (start_state (spelled (3 ∷ 2 ∷ []))) (0 ∷ 7 ∷ 0 ∷ []) 3) ≡ four 18 0 0 1)
    × (numbers_of (cut_answer (start_state (spelled (1 ∷ 2 ∷ []))) (1 ∷ 2 ∷ []) 2) ≡ four 19 0 0 1)
    × (numbers_of (cut_answer (start_state (spelled (10 ∷ 10 ∷ []))) (1 ∷ 254 ∷ []) 2) ≡ three 0 0 0)
    × (numbers_of (cut_answer (start_state (spelled (10 ∷ 10 ∷ []))) (1 ∷ 254 ∷ 1 ∷ []) 3) ≡ four 28 0 0 1)
    × (numbers_of (cut_answer first (replicate 6 0 ++ 9 ∷ []) 7) ≡ four 20 0 1 11)
unfolding start_state cut_answer cut_state keeps spelled_fault spelled_columns
late_faults = (refl, refl, refl, refl, refl, refl)

-- one call or two: the state of a refused stream is the same
pub refused_alike : cut_state (start_state list) (0 ∷ 7 ∷ 9 ∷ []) 3 ≡ cut_state (cut_state (start_state list) (0 ∷ 7 ∷ []) 2) (9 ∷ []) 1
unfolding start_state cut_state keeps spelled_fault spelled_columns
refused_alike = refl

-- ---- a state of one i8 column, after so many rows and bytes
abbrev after : ℕ → ℕ → ℕ → Spot → Cutter
after rows bytes row spot = record {
  schema = schema_of (spelled_columns (2 ∷ 2 ∷ []));
  refusal = Ok tt;
  rows = rows;
  bytes = bytes;
  row = row;
  column = 0;
  spot = spot;
}

-- 12 at the 16,777,217th byte, before a fault there, with the end found before it
pub twelve : (numbers_of (cut_answer (after 8388607 16777214 0 Start) (1 ∷ 5 ∷ 9 ∷ []) 3) ≡ three 12 16777217 8388608)
    × (cut_ends (after 8388607 16777214 0 Start) (1 ∷ 5 ∷ 9 ∷ []) (7 ∷ 7 ∷ 7 ∷ []) ≡ 16777216 ∷ 7 ∷ 7 ∷ [])
    × (numbers_of (cut_answer (after 8388608 16777216 0 Start) [] 0) ≡ three 0 0 0)
unfolding cut_answer cut_ends keeps spelled_columns
twelve = (refl, refl, refl)

-- 33, ahead of all else: more bytes than the rows that ended can have; a spot that no such field has; a value that is whole already
pub broken : (numbers_of (cut_answer (after 1 3 0 Start) [] 0) ≡ three 33 0 0)
    × (numbers_of (finish_answer (after 0 1 1 (Block 0 0 0))) ≡ three 33 0 0)
    × (keeps (after 0 2 2 (Value 1 0)) ≡ false)
    × (keeps (after 0 1 1 (Nulls 0 1)) ≡ false)
    × (keeps (after 1 3 1 (Value 0 0)) ≡ true)
unfolding cut_answer finish_answer keeps spelled_columns
broken = (refl, refl, refl, refl, refl)
