-- Rows as the writing walk reads them: a cursor for each row stands where the row's field of the next column starts, and
-- what is read there is read from the cursor to the end of all row bytes.
use Rattle.std.specs.Prelude.{ℕ, ◌+◌, ◌-◌, ◌<◌, List, map, length, get_or, drop}
use Rattle.format.specs.declared.Column.{Column}
use Rattle.format.specs.Kinds.{Slot, column_shape, value_bytes}
use Rattle.format.specs.Lists.{joined}
use Rattle.format.specs.Cleared.{fixed_slot}
use Rattle.format.specs.Read.{Parsed, Good, slot_read, left_after, read_field}

-- ---- the field of a column at a cursor

abbrev pub cursor_field : Column → List ℕ → ℕ → Parsed Slot
cursor_field col rows p = read_field (column_shape col) col.options (drop p rows)

-- its slot, and the cursor past it
abbrev pub cursor_slot : Column → List ℕ → ℕ → Slot
cursor_slot col rows p = slot_read (cursor_field col rows p)

abbrev pub next_at : Column → List ℕ → ℕ → ℕ
next_at col rows p = p + (length (drop p rows) - length (left_after (cursor_field col rows p)))

-- ---- those of all rows

-- a field can be read at every cursor
abbrev pub Readable : Column → List ℕ → List ℕ → Type 0
Readable col rows cursors = (r : ℕ) → r < length cursors → Good (cursor_field col rows (get_or cursors r 0))

abbrev pub cursor_slots : Column → List ℕ → List ℕ → List Slot
cursor_slots col rows cursors = map (cursor_slot col rows) cursors

abbrev pub nexts_at : Column → List ℕ → List ℕ → List ℕ
nexts_at col rows cursors = map (next_at col rows) cursors

-- values of one width
abbrev pub wides_at : Column → List ℕ → List ℕ → List ℕ
wides_at col rows cursors = joined (map (fixed_slot (value_bytes col.kind)) (cursor_slots col rows cursors))
