-- What reading a column list says.
use Rattle.std.specs.Prelude.{◌≤◌, ◌≡◌, length, Result}
use Rattle.format.specs.declared.Schema.{Schema}
use Rattle.format.specs.declared.Refusal.{Refusal}
use Rattle.format.specs.Check.{given}
use Rattle.format.specs.Schemas.{schema_of, cols_of, Limited}
use Rattle.format.specs.Described.{ColumnList, list_fault, columns}

abbrev pub Listed : Type 0
Listed = Result Schema Refusal

-- its first fault, and if it has none its columns
abbrev pub ListedAs : ColumnList → Listed → Type 0
ListedAs list r = r ≡ given (list_fault list) (schema_of (columns list))

-- some list says so
pub record OfList (r : Listed) : Type 0 where
  pub list : ColumnList
  pub says : ListedAs list r

-- what holds of every list that says so
abbrev pub OfEach : Listed → (ColumnList → Type 0) → Type 0
OfEach r P = (list : ColumnList) → ListedAs list r → P list

-- what a list that passes gives: its columns, 1 to 64 of them, within the ceilings
pub record Sound (list : ColumnList) (schema : Schema) : Type 0 where
  pub cols : cols_of schema ≡ columns list
  pub count : schema.count ≡ length (columns list)
  pub some : 1 ≤ schema.count
  pub limited : Limited schema
