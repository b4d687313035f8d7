-- Values within the limits.
use Rattle.std.specs.Prelude.{ℕ, ◌≤◌, ◌≡◌, Bool, false, List, [], ◌∷◌, T, length}
use Rattle.std.proofs.Math.Option.{none, some}
use Rattle.format.specs.declared.SortOptions.{SortOptions}
use Rattle.format.specs.declared.Column.{Column}
use Rattle.format.specs.Limits.{max_slot}
use Rattle.format.specs.Lists.{Bytes}
use Rattle.format.specs.Kinds.{Shape, fixed, variable, Slot, width, column_shape}
use Rattle.format.specs.Key.{allowed}
use Rattle.format.specs.Row.{row}
use Rattle.format.specs.Fold.{is_folded}

-- bytes, as many as the shape asks, for a bool 00 or 01, where the column folds a folded float; variable bytes no more than the limit
abbrev pub Fits : ℕ → Shape → Bool → List ℕ → Type 0
Fits limit (fixed k) fold v = Bytes v × (length v ≡ width k) × T (allowed k v) × T (is_folded k fold v)
Fits limit variable fold v = Bytes v × (length v ≤ limit)

-- a required column has no null
abbrev pub SlotFits : ℕ → Shape → SortOptions → Slot → Type 0
SlotFits limit sh o none = o.required ≡ false
SlotFits limit sh o (some v) = Fits limit sh o.fold v

-- a row of values: a slot for each column
abbrev pub RowFits : List Column → List Slot → Type 0
RowFits [] [] = Unit {0}
RowFits [] (s ∷ ss) = ⊥
RowFits (col ∷ cols) [] = ⊥
RowFits (col ∷ cols) (s ∷ ss) = SlotFits max_slot (column_shape col) col.options s × RowFits cols ss

-- values within the limits have the bytes f
pub record HasValues (cols : List Column) (f : List ℕ) : Type 0 where
  pub values : List Slot
  pub fit : RowFits cols values
  pub spell : row cols values ≡ f

-- every slot of a column
abbrev pub AllSlots : Shape → SortOptions → List Slot → Type 0
AllSlots sh o [] = Unit {0}
AllSlots sh o (s ∷ ss) = SlotFits max_slot sh o s × AllSlots sh o ss

-- n slots to a column, each within the limits
abbrev pub SheetFits : ℕ → List Column → List (List Slot) → Type 0
SheetFits n [] [] = Unit {0}
SheetFits n [] (ss ∷ sss) = ⊥
SheetFits n (col ∷ cols) [] = ⊥
SheetFits n (col ∷ cols) (ss ∷ sss) = (length ss ≡ n) × AllSlots (column_shape col) col.options ss × SheetFits n cols sss
