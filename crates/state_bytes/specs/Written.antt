-- A state as it is written, part by part.
use Rattle.std.specs.Prelude.{ℕ, ◌-◌, ◌*◌, List, [], ◌∷◌, ◌++◌, replicate}
use Rattle.format.specs.declared.Schema.{Schema}
use Rattle.format.specs.Check.{Check}
use Rattle.format.specs.declared.Cutter.{Cutter}
use Rattle.format.specs.declared.Returned.{Returned}
use Rattle.format.specs.Limits.{max_columns}
use Rattle.format.specs.Described.{codes}
use Rattle.format.specs.Schemas.{cols_of}
use Rattle.format.specs.CutterBytes.{check_numbers, state_numbers}
use Rattle.cutter_step.specs.declared.Place.{Place}

-- four numbers, one after the other
abbrev pub four_numbers : Returned → List ℕ
four_numbers a = a.0 ∷ a.1 ∷ a.2 ∷ a.3 ∷ []

-- the state with these columns and numbers, in which a refusal stands or none
abbrev pub state_with : Check → Place → Schema → Cutter
state_with check p schema =
    record { schema = schema; refusal = check; rows = p.rows; bytes = p.bytes; row = p.row; column = p.column; spot = p.spot }

-- the thirteen numbers of a state with so many columns
abbrev pub place_numbers : Check → Place → ℕ → List ℕ
place_numbers check p count = state_numbers (check_numbers check) (state_with check p (record { columns = []; count = count }))

-- the bytes of its columns, and zeros for those that are not there
abbrev pub column_bytes : Schema → List ℕ
column_bytes schema = codes (cols_of schema) ++ replicate (4 * (max_columns - schema.count)) 0
