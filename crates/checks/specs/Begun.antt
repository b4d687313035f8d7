-- What the list and the row count say, with which measure, encode and decode begin; and what holds of list bytes that were read.
use Rattle.std.specs.Prelude.{ℕ, ◌≡◌, List}
use Rattle.format.specs.Check.{both, given}
use Rattle.format.specs.Columns.{spelled_columns}
use Rattle.format.specs.Described.{ColumnList, spelled, list_fault, columns}
use Rattle.format.specs.Entries.{read_list_check, row_count_fault}
use Rattle.format.specs.Schemas.{schema_of}
use Rattle.list_reader.specs.Listing.{Listed, ListedAs}

-- list, 6; and where neither refuses, the columns of the list
abbrev pub Begun : ColumnList → ℕ → Listed → Type 0
Begun list n r = r ≡ given (both (list_fault list) (row_count_fault n)) (schema_of (columns list))

-- list, 29; and where neither refuses, the columns of the list
abbrev pub ListedFor : List ℕ → ℕ → Listed → Type 0
ListedFor list room r = r ≡ given (read_list_check list room) (schema_of (spelled_columns list))

-- what holds of all list bytes that say so
abbrev pub OfSpelled : Listed → (List ℕ → Type 0) → Type 0
OfSpelled r P = (list : List ℕ) → ListedAs (spelled list) r → P list
