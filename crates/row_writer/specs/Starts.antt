-- Where rows begin, at their cursors.
use Rattle.std.specs.Prelude.{ℕ, ◌+◌, ◌<◌, ◌^◌, ◌≡◌, List, length, get_or}
use Rattle.format.specs.declared.Column.{Column}
use Rattle.format.specs.Kinds.{column_shape}
use Rattle.format.specs.Lists.{each, joined, sum}
use Rattle.format.specs.Field.{field_length}
use Rattle.format.specs.Sheet.{layout, slot_at}
use Rattle.sheet_lengths.specs.Measures.{variable_length}
use Rattle.chunk_writer.specs.Cursors.{cursor}

-- nothing but the cursors of n rows has changed
pub record Stays (n : ℕ) (entry exit : List ℕ) : Type 0 where
  pub same : length exit ≡ length entry
  pub first : get_or exit 0 0 ≡ get_or entry 0 0
  pub after : (i : ℕ) → n < i → get_or exit i 0 ≡ get_or entry i 0

-- and the cursor of row r is f r
pub record CursorsAt (f : ℕ → ℕ) (n : ℕ) (entry exit : List ℕ) : Type 0 where
  pub stays : Stays n entry exit
  pub says : (r : ℕ) → r < n → cursor exit r ≡ f r

-- where row r begins
abbrev pub row_start : (ℕ → List ℕ) → ℕ → ℕ
row_start row r = length (joined (each 0 r row))

-- every row's cursor is where it begins
abbrev pub AtStarts : (ℕ → List ℕ) → ℕ → List ℕ → Type 0
AtStarts row n offsets = (r : ℕ) → r < n → cursor offsets r ≡ row_start row r

-- the length of row r so far: what all rows have, and what is at its cursor
abbrev pub so_far : ℕ → List ℕ → ℕ → ℕ
so_far fixed offsets r = fixed + cursor offsets r

-- where rows of these lengths begin
abbrev pub start_of : ℕ → List ℕ → ℕ → ℕ
start_of fixed offsets r = sum (each 0 r (so_far fixed offsets))

-- the length of the field of row r in a column in front of s
abbrev pub slot_length : Column → ℕ → List ℕ → ℕ → ℕ
slot_length col n s r = field_length (column_shape col) (slot_at (layout col) n s r)

-- a cursor and the length of its row's field in a column of variable bytes
abbrev pub grown : ℕ → List ℕ → List ℕ → ℕ → ℕ
grown n s offsets r = cursor offsets r + variable_length n s r

-- which fits into 64 bits
abbrev pub GrownFits : ℕ → List ℕ → List ℕ → Type 0
GrownFits n s offsets = (r : ℕ) → r < n → grown n s offsets r < 2 ^ 64

-- rows are longer by the field of a column
pub record Longer (col : Column) (n : ℕ) (s : List ℕ) (fixed : ℕ) (entry : List ℕ) (fixed' : ℕ) (exit : List ℕ) : Type 0 where
  pub stays : Stays n entry exit
  pub says : (r : ℕ) → r < n → so_far fixed' exit r ≡ so_far fixed entry r + slot_length col n s r

-- their lengths fit into 64 bits
abbrev pub Fits : Column → ℕ → List ℕ → ℕ → List ℕ → Type 0
Fits col n s fixed offsets = (r : ℕ) → r < n → so_far fixed offsets r + slot_length col n s r < 2 ^ 64
