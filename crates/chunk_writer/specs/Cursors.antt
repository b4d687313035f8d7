-- Rows side by side: each row has a cursor, where its next field goes. The cursor of row r is offset r + 1, so that it is the end of the
-- row once every field is written.
use Rattle.std.specs.Prelude.{ℕ, zero, suc, ◌+◌, ◌-◌, ◌<◌, ◌≤◌, ◌≡◌, List, length, get_or}
use Rattle.std.proofs.lemmas.List.Edits.{sets}
use Rattle.format.specs.declared.Column.{Column}
use Rattle.format.specs.Kinds.{column_shape}
use Rattle.format.specs.Fold.{folded_slot}
use Rattle.format.specs.Field.{field, field_length}
use Rattle.format.specs.Sheet.{layout, slot_at}

-- the cursor of row r
abbrev pub cursor : List ℕ → ℕ → ℕ
cursor offsets r = get_or offsets (suc r) 0

-- piece i at place i, and so on, k of them
abbrev pub placed : (ℕ → ℕ) → (ℕ → List ℕ) → ℕ → ℕ → List ℕ → List ℕ
placed place piece i zero out = out
placed place piece i (suc k) out = placed place piece (suc i) k (sets out (place i) (piece i))

-- the cursors of the rows from `from` to before `to` have moved past a piece each; the other offsets stay
pub record Moved (piece : ℕ → List ℕ) (from to : ℕ) (entry exit : List ℕ) : Type 0 where
  pub same : length exit ≡ length entry
  pub past : (r : ℕ) → from ≤ r → r < to → cursor exit r ≡ cursor entry r + length (piece r)
  pub before : (i : ℕ) → i ≤ from → get_or exit i 0 ≡ get_or entry i 0
  pub after : (i : ℕ) → to < i → get_or exit i 0 ≡ get_or entry i 0

-- a piece is written at the cursor of each of these rows, which moves past it
pub record WroteEach (piece : ℕ → List ℕ) (from to : ℕ) (rows offsets rows' offsets' : List ℕ) : Type 0 where
  pub bytes : rows' ≡ placed (cursor offsets) piece from (to - from) rows
  pub moved : Moved piece from to offsets offsets'

-- the field of row r in a column in front of s, as encode writes it
abbrev pub slot_field : Column → ℕ → List ℕ → ℕ → List ℕ
slot_field col n s r = field (column_shape col) col.options (folded_slot (column_shape col) col.options (slot_at (layout col) n s r))

-- it ends within `room` from the cursor of each of these rows on
abbrev pub Roomy : Column → ℕ → List ℕ → ℕ → ℕ → ℕ → List ℕ → Type 0
Roomy col n s from to room offsets =
    (r : ℕ) → from ≤ r → r < to → cursor offsets r + field_length (column_shape col) (slot_at (layout col) n s r) ≤ room
