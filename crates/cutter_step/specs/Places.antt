-- A cutter's state as the walk over a piece holds it: the columns, which stay, and the numbers.
use Rattle.std.specs.Prelude.{ℕ, ◌+◌, ◌≤◌, ◌<◌, ◌≡◌, cond, List, [], ◌∷◌, ltb, length, take, drop, Ok}
use Rattle.format.specs.declared.Column.{Column}
use Rattle.format.specs.declared.Schema.{Schema}
use Rattle.format.specs.declared.Spot.{Spot}
use Rattle.format.specs.declared.Spot.TheVariants.{Start}
use Rattle.format.specs.declared.Cutter.{Cutter}
use Rattle.format.specs.Limits.{max_columns, max_total}
use Rattle.format.specs.CutterRule.{column_in}
use Rattle.format.specs.Cutter.{refused, taken, new_end, fed, ends_in}
use Rattle.cutter_moves.specs.Moves.{Stood}
use Rattle.cutter_step.specs.declared.Place.{Place}
use Rattle.cutter_step.specs.declared.Stepped.{Stepped}
use Rattle.cutter_step.specs.declared.Stepped.TheVariants.{Going, Ended, Stopped}

-- the state with these columns, which no refusal stands in
abbrev pub state_at : Schema → Place → Cutter
state_at schema p = record { schema = schema; refusal = Ok tt; rows = p.rows; bytes = p.bytes; row = p.row; column = p.column; spot = p.spot }

-- the numbers of a state
abbrev pub place_of : Cutter → Place
place_of s = record { rows = s.rows; bytes = s.bytes; row = s.row; column = s.column; spot = s.spot }

-- ---- a byte

-- what it may count on, of the column that is being read and the count of columns
pub record Standing (column : Column) (count : ℕ) (p : Place) : Type 0 where
  pub stood : Stood column p.row p.spot
  pub rows : p.rows ≤ p.bytes
  pub row : p.row ≤ p.bytes
  pub bytes : p.bytes ≤ max_total
  pub here : p.column < count
  pub few : count ≤ max_columns

-- so many bytes more are within the stream
pub record FieldFits (p : Place) (count n : ℕ) : Type 0 where
  pub bytes : p.bytes + n ≤ max_total
  pub rows : p.rows ≤ p.bytes
  pub row : p.row ≤ p.bytes
  pub here : p.column < count

-- the state after it, and the row end that it shows
abbrev pub after : Schema → Stepped → Cutter
after schema (Going p) = state_at schema p
after schema (Ended p) = state_at schema p
after schema (Stopped r) = refused r

abbrev pub shown : Stepped → List ℕ
shown (Going p) = []
shown (Ended p) = p.bytes ∷ []
shown (Stopped r) = []

-- a byte more of the same field
abbrev pub onward : Place → Spot → Place
onward p spot = record { rows = p.rows; bytes = p.bytes + 1; row = p.row + 1; column = p.column; spot = spot }

-- n bytes more, which complete the field, and with the last of the columns the row
abbrev pub ended : Place → ℕ → ℕ → Stepped
ended p count n =
    cond (ltb (p.column + 1) count)
    (Going (record { rows = p.rows; bytes = p.bytes + n; row = p.row + n; column = p.column + 1; spot = Start }))
    (Ended (record { rows = p.rows + 1; bytes = p.bytes + n; row = 0; column = 0; spot = Start }))

-- these are those of the definition, in every state with such columns
pub record Steps (column : Column) (count : ℕ) (p : Place) (b : ℕ) (r : Stepped) : Type 0 where
  pub state : (schema : Schema) → schema.count ≡ count → column_in (state_at schema p) ≡ column → taken (state_at schema p) b ≡ after schema r
  pub end : (schema : Schema) → new_end (state_at schema p) (after schema r) ≡ shown r

-- ---- some bytes of a piece, from byte i on: a byte, or a field

-- what they do, and how many they are
pub record Advance : Type 0 where
  pub turn : Stepped
  pub by : ℕ

pub record Advances (column : Column) (count : ℕ) (p : Place) (piece : List ℕ) (i : ℕ) (r : Advance) : Type 0 where
  pub state : (schema : Schema) → schema.count ≡ count → column_in (state_at schema p) ≡ column
      → fed (state_at schema p) (take r.by (drop i piece)) ≡ after schema r.turn
  pub ends : (schema : Schema) → schema.count ≡ count → column_in (state_at schema p) ≡ column
      → ends_in (state_at schema p) (take r.by (drop i piece)) ≡ shown r.turn
  pub some : 1 ≤ r.by
  pub inside : i + r.by ≤ length piece
