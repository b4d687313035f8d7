-- What measuring says, of which measure answers and with which encode goes on.
use Rattle.std.specs.Prelude.{ℕ, ◌≤◌, ◌≡◌, List, Result, Ok}
use Rattle.format.specs.declared.Refusal.{Refusal}
use Rattle.format.specs.Check.{Check, both, verdict}
use Rattle.format.specs.Limits.{max_rows}
use Rattle.format.specs.Described.{ColumnList, list_fault, columns}
use Rattle.format.specs.Schemas.{cols_of}
use Rattle.format.specs.Sheet.{sheet_fault, sheet_slots, nulls}
use Rattle.format.specs.Entries.{sheet_total, row_count_fault}
use Rattle.sheet_reader.specs.Sheets.{Known}
use Rattle.measurer.specs.declared.Measuring.{Measuring}
use Rattle.list_reader.specs.Listing.{Sound}

-- list, 6, sheet
abbrev pub batch_check : ColumnList → ℕ → List ℕ → Check
batch_check list n sheet = both (list_fault list) (both (row_count_fault n) (sheet_fault n (columns list) sheet))

-- of a batch that is not refused: few rows, the columns and their facts, the total and the null total
pub record Found (list : ColumnList) (n : ℕ) (sheet : List ℕ) (m : Measuring) : Type 0 where
  pub few : n ≤ max_rows
  pub sound : Sound list m.schema
  pub known : Known n (cols_of m.schema) sheet m.sheeted.facts
  pub total : m.total ≡ sheet_total n (columns list) sheet
  pub nulls : m.sheeted.nulls ≡ nulls (sheet_slots n (columns list) sheet)

-- the first fault of list, 6 and sheet, and what is found where there is none
pub record Measures (list : ColumnList) (n : ℕ) (sheet : List ℕ) (r : Result Measuring Refusal) : Type 0 where
  pub check : verdict r ≡ batch_check list n sheet
  pub found : (m : Measuring) → r ≡ Ok m → Found list n sheet m
