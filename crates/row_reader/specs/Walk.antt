-- What the walk over a batch of rows finds.
use Rattle.std.specs.Prelude.{ℕ, ◌≤◌, ◌≡◌, List, Result, Ok}
use Rattle.format.specs.declared.Column.{Column}
use Rattle.format.specs.declared.Refusal.{Refusal}
use Rattle.format.specs.Check.{verdict}
use Rattle.format.specs.Read.{rows_fault}
use Rattle.quick_rows.specs.Quick.{data_bytes, most_data}

-- of rows: the first fault, and where there is none the bytes of variable values
pub record Finds (cols : List Column) (rows : List (List ℕ)) (r : Result ℕ Refusal) : Type 0 where
  pub check : verdict r ≡ rows_fault 0 cols rows
  pub adds : (bytes : ℕ) → r ≡ Ok bytes → bytes ≡ data_bytes cols rows
  pub small : (bytes : ℕ) → r ≡ Ok bytes → bytes ≤ most_data
