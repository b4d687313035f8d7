-- What is known of a sheet that was checked.
use Rattle.std.specs.Prelude.{ℕ, ◌<◌, ◌≡◌, List, length, get_or, map, Result, Ok}
use Rattle.format.specs.declared.Column.{Column}
use Rattle.format.specs.declared.Refusal.{Refusal}
use Rattle.format.specs.Check.{verdict}
use Rattle.format.specs.Sheet.{sheet_fault, sheet_slots, nulls, place}
use Rattle.sheet_reader.specs.declared.sheet.Facts.{Facts}
use Rattle.sheet_reader.specs.declared.sheet.Sheeted.{Sheeted}
use Rattle.format.specs.Schemas.{no_column}
use Rattle.format.specs.Passed.{Stands}

-- what fills the array after the columns in use
abbrev pub no_facts : Facts
no_facts = record { column = no_column; base = 0 }

-- column c and its place, where it passes and ends within the sheet
pub record FactsOf (n : ℕ) (cols : List Column) (sheet : List ℕ) (c : ℕ) (f : Facts) : Type 0 where
  pub column : f.column ≡ get_or cols c no_column
  pub base : f.base ≡ place n cols sheet c
  pub stands : Stands f.column n c f.base sheet

-- the columns that facts are of
abbrev pub columns_of : List Facts → List Column
columns_of facts = map (λ (f : Facts). f.column) facts

-- the facts of every column
abbrev pub Known : ℕ → List Column → List ℕ → List Facts → Type 0
Known n cols sheet facts = (c : ℕ) → c < length cols → FactsOf n cols sheet c (get_or facts c no_facts)

-- what checking a sheet says: its first fault, and if it has none the facts of its columns and the null total
pub record SheetedAs (n : ℕ) (cols : List Column) (sheet : List ℕ) (r : Result Sheeted Refusal) : Type 0 where
  pub check : verdict r ≡ sheet_fault n cols sheet
  pub facts : (s : Sheeted) → r ≡ Ok s → Known n cols sheet s.facts
  pub nulls : (s : Sheeted) → r ≡ Ok s → s.nulls ≡ nulls (sheet_slots n cols sheet)
