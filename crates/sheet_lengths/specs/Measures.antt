-- What measuring adds up in a column of variable bytes.
use Rattle.std.specs.Prelude.{ℕ, List}
use Rattle.format.specs.Lists.{each, sum}
use Rattle.format.specs.Kinds.{variable}
use Rattle.format.specs.Field.{field_length}
use Rattle.format.specs.Sheet.{ended, slot_at}

-- the length of the field of a row in a column of variable bytes in front of s
abbrev pub variable_length : ℕ → List ℕ → ℕ → ℕ
variable_length n s row = field_length variable (slot_at ended n s row)

-- and those of n rows together
abbrev pub variable_total : ℕ → List ℕ → ℕ
variable_total n s = sum (each 0 n (variable_length n s))
