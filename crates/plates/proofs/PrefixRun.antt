-- The first fields of a row of plate (u16) and glyph (variable bytes, descending), computed, and the descriptions of its first column.
-- Assumes nothing.
use Prim.Native.Nat.{ℕ}
use mathlib.Core.Path.{◌≡◌, refl}
use mathlib.Core.Option.{some}
use mathlib.Core.List.{List, [], ◌∷◌, ◌++◌}
use lib.ListN.{replicate}
use Rattle.format.specs.Columns.{spelled_columns}
use Rattle.format.specs.Kinds.{Slot}
use Rattle.format.specs.Prefix.{first_fields, values_length}
use Rattle.format.specs.Row.{row}
use Rattle.plates.specs.Prefix.{first_list}

abbrev list : List ℕ
list = 7 ∷ 2 ∷ 16 ∷ 1 ∷ []

-- plate 258, glyph "a"
abbrev values : List Slot
values = some (2 ∷ 1 ∷ []) ∷ some (97 ∷ []) ∷ []

pub first_and_both : (first_fields 1 (spelled_columns list) (row (spelled_columns list) values) ≡ 1 ∷ 1 ∷ 2 ∷ [])
    × (first_fields 2 (spelled_columns list) (row (spelled_columns list) values) ≡ 1 ∷ 1 ∷ 2 ∷ 0xfd ∷ 0x9e ∷ replicate 7 0xff ++ 0xfe ∷ [])
    × (values_length 1 (spelled_columns list) values ≡ 3)
    × (values_length 2 (spelled_columns list) values ≡ 13)
unfolding spelled_columns
first_and_both = (refl, refl, refl, refl)

-- the width of kind 15 belongs to its description
pub lists : (first_list 1 list ≡ 7 ∷ 2 ∷ []) × (first_list 1 (15 ∷ 0 ∷ 3 ∷ 0 ∷ 7 ∷ 2 ∷ []) ≡ 15 ∷ 0 ∷ 3 ∷ 0 ∷ [])
lists = (refl, refl)
