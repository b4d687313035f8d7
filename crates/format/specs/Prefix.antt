-- The first k fields of a row, as those that all rows of one plate share.
use Rattle.std.specs.Prelude.{ℕ, zero, suc, ◌+◌, ◌-◌, List, [], ◌∷◌, length, take}
use Rattle.format.specs.declared.Column.{Column}
use Rattle.format.specs.Kinds.{Slot, column_shape}
use Rattle.format.specs.Field.{field_length}
use Rattle.format.specs.Read.{read_field, left_after}

-- what is left of a row after its first k fields
abbrev pub after_fields : ℕ → List Column → List ℕ → List ℕ
after_fields zero cols s = s
after_fields (suc k) [] s = s
after_fields (suc k) (col ∷ cols) s = after_fields k cols (left_after (read_field (column_shape col) col.options s))

-- how many bytes the first k fields are
abbrev pub first_length : ℕ → List Column → List ℕ → ℕ
first_length k cols s = length s - length (after_fields k cols s)

-- those bytes
abbrev pub first_fields : ℕ → List Column → List ℕ → List ℕ
first_fields k cols s = take (first_length k cols s) s

-- how many bytes the fields of the first k values take
abbrev pub values_length : ℕ → List Column → List Slot → ℕ
values_length zero cols xs = 0
values_length (suc k) [] xs = 0
values_length (suc k) (col ∷ cols) [] = 0
values_length (suc k) (col ∷ cols) (x ∷ xs) = field_length (column_shape col) x + values_length k cols xs
