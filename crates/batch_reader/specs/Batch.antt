-- What the check of a batch answers.
use Rattle.std.specs.Prelude.{ℕ, ◌+◌, ◌*◌, ◌≡◌, List, length, Result, Ok}
use Rattle.format.specs.declared.Column.{Column}
use Rattle.format.specs.Limits.{max_rows, max_width}
use Rattle.format.specs.declared.Refusal.{Refusal}
use Rattle.format.specs.Check.{both, verdict}
use Rattle.format.specs.Sheet.{packed}
use Rattle.format.specs.Read.{rows_fault}
use Rattle.format.specs.Entries.{cut_rows, decoded_sheet, offsets_fault}

-- the validity and the values of the widest column
abbrev pub widest_frame : ℕ
widest_frame = packed max_rows + max_rows * max_width

-- of a batch: the offsets, then the rows; and where nothing is refused the bytes of the decoded sheet
pub record Checks (n : ℕ) (cols : List Column) (bytes offsets : List ℕ) (r : Result ℕ Refusal) : Type 0 where
  pub check : verdict r ≡ both (offsets_fault n bytes offsets) (rows_fault 0 cols (cut_rows n bytes offsets))
  pub room : (room : ℕ) → r ≡ Ok room → room ≡ length (decoded_sheet n cols (cut_rows n bytes offsets))
