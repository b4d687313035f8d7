-- What the row count and a sheet say.
use Rattle.std.specs.Prelude.{ℕ, ◌≤◌, ◌≡◌, List, Result, Ok}
use Rattle.format.specs.declared.Column.{Column}
use Rattle.format.specs.declared.Refusal.{Refusal}
use Rattle.format.specs.Check.{verdict}
use Rattle.format.specs.Limits.{max_rows}
use Rattle.format.specs.CompareSheets.{counted_fault}
use Rattle.sheet_reader.specs.declared.sheet.Sheeted.{Sheeted}
use Rattle.sheet_reader.specs.Sheets.{Known}

-- the first fault of 6 and the sheet, and where there is none few rows and the facts of the columns
pub record CountedAs (n : ℕ) (cols : List Column) (sheet : List ℕ) (r : Result Sheeted Refusal) : Type 0 where
  pub check : verdict r ≡ counted_fault n cols sheet
  pub few : (s : Sheeted) → r ≡ Ok s → n ≤ max_rows
  pub facts : (s : Sheeted) → r ≡ Ok s → Known n cols sheet s.facts
