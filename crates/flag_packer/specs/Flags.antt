-- The flags of a column's slots: their validity, and the bools of a column of bools.
use Rattle.std.specs.Prelude.{ℕ, ◌<◌, ◌≡◌, Bool, List, map, length, get_or}
use Rattle.format.specs.declared.Column.{Column}
use Rattle.format.specs.Sheet.{packed}
use Rattle.format.specs.Cleared.{is_true, pack, valid}
use Rattle.cursors.specs.Cursors.{cursor_slot}

-- the validity of the slot at a cursor, and its bool
abbrev pub valid_at : Column → List ℕ → ℕ → Bool
valid_at col rows p = valid (cursor_slot col rows p)

abbrev pub true_at : Column → List ℕ → ℕ → Bool
true_at col rows p = is_true (cursor_slot col rows p)

abbrev pub flags_at : (ℕ → Bool) → List ℕ → List ℕ
flags_at flag cursors = pack (packed (length cursors)) (map flag cursors)

-- ---- a test of cursors

-- it may be asked of each
abbrev pub Asks : (ℕ → Type 0) → List ℕ → Type 0
Asks may cursors = (r : ℕ) → r < length cursors → may (get_or cursors r 0)

-- and whatever it answers is the flag
abbrev pub Tells : (ℕ → Bool → Type 0) → (ℕ → Bool) → List ℕ → Type 0
Tells gives flag cursors = (r : ℕ) → r < length cursors → (on : Bool) → gives (get_or cursors r 0) on → on ≡ flag (get_or cursors r 0)
