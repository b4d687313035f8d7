-- Rows that pass.
use Rattle.std.specs.Prelude.{ℕ, ◌+◌, ◌*◌, ◌≤◌, ◌≡◌, List, map}
use Rattle.format.specs.declared.Column.{Column}
use Rattle.format.specs.Limits.{max_columns, max_rows, max_slot}
use Rattle.format.specs.Lists.{each, sum}
use Rattle.format.specs.Read.{row_slots, rows_fault}
use Rattle.format.specs.Cleared.{row_added}

-- the bytes of the values in variable columns, of a row and over all rows
abbrev pub row_data : List Column → List ℕ → ℕ
row_data cols row = row_added cols (row_slots cols row)

abbrev pub data_bytes : List Column → List (List ℕ) → ℕ
data_bytes cols rows = sum (map (row_added cols) (map (row_slots cols) rows))

-- no row and no batch has more of them
abbrev pub most_row : ℕ
most_row = max_columns * max_slot

abbrev pub most_data : ℕ
most_data = most_row * max_rows

-- of n rows, of which row r has the bytes f r: those from r on have the fault of all, and what is counted and what is left to count is
-- the count of all
pub record Rows (cols : List Column) (f : ℕ → List ℕ) (n bytes r : ℕ) : Type 0 where
  pub left : ℕ
  pub counts : r + left ≡ n
  pub says : rows_fault r cols (each r left f) ≡ rows_fault 0 cols (each 0 n f)
  pub adds : bytes + data_bytes cols (each r left f) ≡ data_bytes cols (each 0 n f)
  pub small : bytes ≤ most_row * r
