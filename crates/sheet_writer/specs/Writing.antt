-- The columns of a sheet, written from the fields at the cursors.
use Rattle.std.specs.Prelude.{ℕ, ◌<◌, ◌≤◌, ◌≡◌, List, [], ◌∷◌, map, length, get_or, drop, Ok}
use Rattle.format.specs.declared.Column.{Column}
use Rattle.format.specs.declared.Schema.{Schema}
use Rattle.format.specs.Limits.{max_rows}
use Rattle.format.specs.Kinds.{Slot, column_shape}
use Rattle.format.specs.Schemas.{Limited, cols_of}
use Rattle.format.specs.Sheet.{layout, nulls, turned}
use Rattle.format.specs.Cleared.{cleared_sheet, cleared_values}
use Rattle.format.specs.Read.{Good, left_after, read_field, row_slots, rows_fault}
use Rattle.format.specs.Entries.{cut_rows, decoded_sheet, offsets_fault}
use Rattle.basics.specs.Wrote.{Wrote}
use Rattle.cursors.specs.Cursors.{cursor_slots}
use Rattle.sheet_writer.specs.declared.Written.{Written}

-- what comes after a column's validity
abbrev pub values_at : Column → List ℕ → List ℕ → List ℕ
values_at col rows cursors = cleared_values (layout col) (length cursors) (cursor_slots col rows cursors)

-- ---- all columns to come

-- a field for each of them can be read, each from what the previous one left
abbrev pub Fields : List Column → List ℕ → Type 0
Fields [] s = Unit {0}
Fields (col ∷ cols) s =
    Good (read_field (column_shape col) col.options s) × Fields cols (left_after (read_field (column_shape col) col.options s))

abbrev pub AllFields : List Column → List ℕ → List ℕ → Type 0
AllFields cols rows cursors = (r : ℕ) → r < length cursors → Fields cols (drop (get_or cursors r 0) rows)

-- their slots, column by column
abbrev pub slots_to_come : List Column → List ℕ → List ℕ → List (List Slot)
slots_to_come cols rows cursors = turned (length cols) (map (λ p. row_slots cols (drop p rows)) cursors)

-- what is asked of cursors and a sheet: the fields can be read, and the sheet has room
pub record Writable (schema : Schema) (rows cursors sheet : List ℕ) : Type 0 where
  pub limited : Limited schema
  pub few : length cursors ≤ max_rows
  pub fields : AllFields (cols_of schema) rows cursors
  pub room : length (cleared_sheet (length cursors) (cols_of schema) (slots_to_come (cols_of schema) rows cursors)) ≤ length sheet

-- and of a batch and a sheet: the checks passed, and the sheet has room
pub record Decodable (schema : Schema) (n : ℕ) (rows offsets sheet : List ℕ) : Type 0 where
  pub few : n ≤ max_rows
  pub limited : Limited schema
  pub cuts : offsets_fault n rows offsets ≡ Ok tt
  pub passes : rows_fault 0 (cols_of schema) (cut_rows n rows offsets) ≡ Ok tt
  pub room : length (decoded_sheet n (cols_of schema) (cut_rows n rows offsets)) ≤ length sheet

-- the cleared sheet of n rows of slots is written in front; its bytes and its null slots are returned
pub record Clears (n : ℕ) (cols : List Column) (slots : List (List Slot)) (entry exit : List ℕ) (w : Written) : Type 0 where
  pub wrote : Wrote (cleared_sheet n cols slots) 0 entry exit w.bytes
  pub empty : w.nulls ≡ nulls slots
