-- The rows of a checked sheet, each field from the facts of its column.
use Rattle.std.specs.Prelude.{ℕ, ◌<◌, List, length, get_or, drop}
use Rattle.format.specs.Lists.{each, joined}
use Rattle.format.specs.Passed.{Stands}
use Rattle.sheet_reader.specs.declared.sheet.Facts.{Facts}
use Rattle.sheet_reader.specs.Sheets.{no_facts}
use Rattle.chunk_writer.specs.Cursors.{slot_field}

-- the field of row r and column c, and row r, by the facts of the columns in use
abbrev pub field_at : ℕ → List ℕ → List Facts → ℕ → ℕ → List ℕ
field_at n s facts r c = slot_field (get_or facts c no_facts).column n (drop (get_or facts c no_facts).base s) r

abbrev pub row_at : ℕ → List ℕ → List Facts → ℕ → List ℕ
row_at n s facts r = joined (each 0 (length facts) (field_at n s facts r))

-- the bytes of n rows together
abbrev pub rows_total : ℕ → List ℕ → List Facts → ℕ
rows_total n s facts = length (joined (each 0 n (row_at n s facts)))

-- each column stands where its facts say
abbrev pub AllStand : ℕ → List ℕ → List Facts → Type 0
AllStand n s facts = (c : ℕ) → c < length facts → Stands (get_or facts c no_facts).column n c (get_or facts c no_facts).base s
