-- Slots column by column and row by row: how many rows, and the first column. Assumes nothing.
use Prim.Native.Nat.{ℕ, zero, suc, ◌<◌}
use mathlib.Core.Path.{◌≡◌, refl, ap, ◌∙◌}
use mathlib.Core.Option.{none}
use mathlib.Core.List.{List, [], ◌∷◌, map, tail}
use native.Mathlib.Omega.{arith}
use lib.ListN.{length, get_or, length-map}
use Rattle.format.specs.declared.SortOptions.{SortOptions}
use Rattle.format.specs.declared.Column.{Column}
use Rattle.format.specs.Limits.{max_slot}
use Rattle.format.specs.Kinds.{Shape, Slot, column_shape}
use Rattle.format.specs.Fits.{SlotFits, RowFits, AllSlots}
use Rattle.format.specs.Row.{row}
use Rattle.format.specs.Sheet.{turned, slots_in}
use Rattle.basics.proofs.Lists.{Every, each_same, each_next, length_each}

-- ---- the rows of n slots to a column

pub rows_many : (n : ℕ) (cols : List Column) (sss : List (List Slot)) → length (map (row cols) (turned n sss)) ≡ n
rows_many n cols sss = length-map (turned n sss) (row cols) ∙ length_each 0 n (slots_in sss)

-- ---- rows of columns that fit

-- slot i of a column
pub slot_in : (sh : Shape) (o : SortOptions) (ss : List Slot) (i : ℕ) → i < length ss → AllSlots sh o ss → SlotFits max_slot sh o (get_or ss i none)
slot_in sh o [] i l h = absurd (omega arith)
slot_in sh o (s ∷ ss) zero l h = h.0
slot_in sh o (s ∷ ss) (suc i) l h = slot_in sh o ss i (omega arith) h.1

-- ---- columns of rows that fit

-- the first column of rows that fit, and the rows without it
pub first_fits : (col : Column) (cols : List Column) (yss : List (List Slot)) → Every (RowFits (col ∷ cols)) yss
    → AllSlots (column_shape col) col.options (slots_in yss 0)
first_fits col cols [] h = tt
first_fits col cols ([] ∷ yss) h = absurd h.0
first_fits col cols ((y ∷ ys) ∷ yss) h = (h.0.0, first_fits col cols yss h.1)

pub tails_fit : (col : Column) (cols : List Column) (yss : List (List Slot)) → Every (RowFits (col ∷ cols)) yss → Every (RowFits cols) (map tail yss)
tails_fit col cols [] h = tt
tails_fit col cols ([] ∷ yss) h = absurd h.0
tails_fit col cols ((y ∷ ys) ∷ yss) h = (h.0.1, tails_fit col cols yss h.1)

tails_at : (yss : List (List Slot)) (i : ℕ) → slots_in yss (suc i) ≡ slots_in (map tail yss) i
tails_at [] i = refl
tails_at ([] ∷ yss) i = ap (λ (l : List Slot). none ∷ l) (tails_at yss i)
tails_at ((y ∷ ys) ∷ yss) i = ap (λ (l : List Slot). get_or ys i none ∷ l) (tails_at yss i)

-- the first column, and then the others
pub turned_tails : (k : ℕ) (yss : List (List Slot)) → turned (suc k) yss ≡ slots_in yss 0 ∷ turned k (map tail yss)
turned_tails k yss =
    ap (λ l. slots_in yss 0 ∷ l) (each_next 0 k (slots_in yss) ∙ each_same 0 k (λ i. slots_in yss (suc i)) (slots_in (map tail yss)) (λ j a b. tails_at yss j))
