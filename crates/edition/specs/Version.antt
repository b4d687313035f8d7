-- The edition of the C entries: include/station.h and the bindings have the same numbers.
use Rattle.std.specs.Prelude.{ℕ, ◌+◌, ◌*◌}

-- the count before the first dot; it rises when a caller must be changed
abbrev pub major : ℕ
major = 0

-- the count between the dots; it rises when an entry, a kind or an option is added
abbrev pub minor : ℕ
minor = 2

-- the count after the last dot; it rises when nothing that a caller sees is changed
abbrev pub patch : ℕ
patch = 0

-- as one number
abbrev pub version : ℕ
version = 1000000 * major + 1000 * minor + patch
