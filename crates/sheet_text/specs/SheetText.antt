-- What is shown of a sheet.
use Rattle.std.specs.Prelude.{ℕ, List}
use Rattle.format.specs.Described.{ColumnList, columns}
use Rattle.format.specs.Entries.{encode_check, sheet_rows}
use Rattle.format.specs.Program.{row_room, offset_room, lines}

-- the hex digits of 32,768 row bytes, and 4,096 newlines
abbrev pub text_room : ℕ
text_room = 69632

-- the lines of a sheet: its rows, or the refusal
abbrev pub sheet_text : ColumnList → ℕ → List ℕ → List ℕ
sheet_text list n sheet = lines (encode_check list n sheet row_room offset_room) (sheet_rows n (columns list) sheet)
