-- What encode and decode ask of their room.
use Rattle.std.specs.Prelude.{ℕ, ltb, Ok}
use Rattle.format.specs.Check.{Check, fail_if}
use Rattle.format.specs.declared.Refusal.TheVariants.{RowRoom, SheetRoom}
use Rattle.format.specs.Entries.{offset_room_fault}

-- 13, 14
abbrev pub room_fault : ℕ → ℕ → ℕ → ℕ → Check
room_fault total row_room n offset_room = fail_if (ltb row_room total) (RowRoom total) (offset_room_fault n offset_room)

-- 24
abbrev pub sheet_room_fault : ℕ → ℕ → Check
sheet_room_fault bytes room = fail_if (ltb room bytes) (SheetRoom bytes) (Ok tt)
