-- The values of a column of variable bytes, from the fields at the cursors.
use Rattle.std.specs.Prelude.{ℕ, List, map}
use Rattle.format.specs.declared.Kind.TheVariants.{Variable}
use Rattle.format.specs.declared.SortOptions.{SortOptions}
use Rattle.format.specs.declared.Column.{Column}
use Rattle.format.specs.Lists.{ends_from, joined, low_bytes}
use Rattle.format.specs.Cleared.{variable_slot}
use Rattle.cursors.specs.Cursors.{cursor_slots}

-- the ends, and the bytes between them
abbrev pub variable_column : SortOptions → Column
variable_column o = record { kind = Variable; options = o }

abbrev pub ends_at : SortOptions → List ℕ → List ℕ → List ℕ
ends_at o rows cursors = joined (map (low_bytes 4) (ends_from 0 (map variable_slot (cursor_slots (variable_column o) rows cursors))))

abbrev pub data_at : SortOptions → List ℕ → List ℕ → List ℕ
data_at o rows cursors = joined (map variable_slot (cursor_slots (variable_column o) rows cursors))
