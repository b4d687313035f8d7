-- What a field adds to its column.
use Rattle.std.specs.Prelude.{ℕ, ◌≡◌, List, Option, Some, None, Ok, Err}
use Rattle.format.specs.declared.Column.{Column}
use Rattle.format.specs.Kinds.{Slot, column_shape}
use Rattle.format.specs.Sheet.{layout}
use Rattle.format.specs.Read.{FieldAnswer, field_read, read_field}
use Rattle.format.specs.Cleared.{added, slot_length}

-- a value of so many bytes adds so many, and a null none
abbrev pub AddsOf : Column → ℕ → Option ℕ → Type 0
AddsOf col more None = more ≡ 0
AddsOf col more (Some n) = (x : Slot) → slot_length x ≡ n → more ≡ added (layout col) x

-- an answer that is no fault: the field has so many bytes, and its slot adds so many
abbrev pub Adds : Column → ℕ → ℕ → FieldAnswer → Type 0
Adds col len more (Ok read) = (len ≡ read.length) × AddsOf col more read.value
Adds col len more (Err found) = ⊥

-- so is what is read of the field in front of s
abbrev pub Counts : Column → List ℕ → ℕ → ℕ → Type 0
Counts col s len more = Adds col len more (field_read s (read_field (column_shape col) col.options s))
