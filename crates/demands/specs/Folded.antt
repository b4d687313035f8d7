-- Folding columns beside the same columns without bit 3.
use Rattle.std.specs.Prelude.{ℕ, ◌≡◌, false, List, length}
use Rattle.format.specs.declared.SortOptions.{SortOptions}
use Rattle.format.specs.declared.Column.{Column}
use Rattle.format.specs.Described.{ColumnList, columns}
use Rattle.format.specs.Sheet.{sheet_slots}
use Rattle.format.specs.Cleared.{cleared_sheet}
use Rattle.format.specs.Entries.{encode_answer, encode_rows, encode_offsets}

-- without bit 3
abbrev pub unfolded_options : SortOptions → SortOptions
unfolded_options o = record { descending = o.descending; nulls_first = o.nulls_first; required = o.required; fold = false }

abbrev pub unfolded : Column → Column
unfolded col = record { kind = col.kind; options = unfolded_options col.options }

-- a sheet with every float folded where its column folds, and its null slots cleared
abbrev pub folded_sheet : ℕ → List Column → List ℕ → List ℕ
folded_sheet n cols sheet = cleared_sheet n cols (sheet_slots n cols sheet)

-- encode answers and writes for a sheet under one list what it does for its folded sheet under the other
pub record EncodedFolded (list plain : ColumnList) (n : ℕ) (sheet rows offsets : List ℕ) : Type 0 where
  pub answers : encode_answer list n sheet (length rows) (length offsets)
      ≡ encode_answer plain n (folded_sheet n (columns list) sheet) (length rows) (length offsets)
  pub row_bytes : encode_rows list n sheet rows (length offsets) ≡ encode_rows plain n (folded_sheet n (columns list) sheet) rows (length offsets)
  pub row_ends : encode_offsets list n sheet (length rows) offsets ≡ encode_offsets plain n (folded_sheet n (columns list) sheet) (length rows) offsets
