-- Slots column by column and row by row: turned twice they are the same, and they fit both ways. Assumes nothing.
use Prim.Native.Nat.{ℕ, suc, ◌<◌}
use mathlib.Core.Path.{◌≡◌, refl, ap, sym, subst, ◌∙◌}
use mathlib.Core.Option.{none}
use mathlib.Core.List.{List, [], ◌∷◌, map, tail}
use native.Mathlib.Omega.{arith}
use lib.ListN.{length, get_or, length-map, get_or-map}
use Rattle.format.specs.declared.Column.{Column}
use Rattle.format.specs.Kinds.{Slot, column_shape}
use Rattle.format.specs.Fits.{RowFits, SheetFits}
use Rattle.format.specs.Row.{row}
use Rattle.format.specs.Sheet.{slots_in, turned}
use Rattle.basics.proofs.Lists.{Every, every_at, every_each, each_at, each_is, map_each}
use Rattle.laws.proofs.Turned.{slot_in, first_fits, tails_fit, turned_tails}

-- ---- turned twice

pub turned_turned : (m n : ℕ) (sss : List (List Slot)) → length sss ≡ m → Every (λ ss. length ss ≡ n) sss → turned m (turned n sss) ≡ sss
turned_turned m n sss e h = each_is sss [] m (slots_in (turned n sss)) e list
  where
    list : (j : ℕ) → j < m → slots_in (turned n sss) j ≡ get_or sss j []
    list j l =
        map_each (λ (ss : List Slot). get_or ss j none) 0 n (slots_in sss)
        ∙ each_is (get_or sss j []) none n _ (every_at (λ ss. length ss ≡ n) sss [] j h (omega arith))
        (λ i k. get_or-map (λ (ss : List Slot). get_or ss i none) sss j [])

-- ---- row r of n slots to a column
pub row_at : (n : ℕ) (cols : List Column) (sss : List (List Slot)) (r : ℕ) → r < n → get_or (map (row cols) (turned n sss)) r [] ≡ row cols (slots_in sss r)
row_at n cols sss r l = ap (λ (z : List (List ℕ)). get_or z r []) (map_each (row cols) 0 n (slots_in sss)) ∙ each_at n (λ i. row cols (slots_in sss i)) [] r l

-- ---- rows of columns that fit
pub row_fits : (n : ℕ) (cols : List Column) (sss : List (List Slot)) (i : ℕ) → i < n → SheetFits n cols sss → RowFits cols (slots_in sss i)
row_fits n [] [] i l h = tt
row_fits n [] (ss ∷ sss) i l h = absurd h
row_fits n (col ∷ cols) [] i l h = absurd h
row_fits n (col ∷ cols) (ss ∷ sss) i l h =
    (slot_in (column_shape col) col.options ss i (omega (arith, h.0)) h.1, row_fits n cols sss i l h.2)

pub rows_fit : (n : ℕ) (cols : List Column) (sss : List (List Slot)) → SheetFits n cols sss → Every (RowFits cols) (turned n sss)
rows_fit n cols sss h = every_each (RowFits cols) 0 n (slots_in sss) (λ i a b. row_fits n cols sss i (omega arith) h)

-- a list to a column, n slots to a list
pub sheet_count : (n : ℕ) (cols : List Column) (sss : List (List Slot)) → SheetFits n cols sss → (length sss ≡ length cols) × Every (λ ss. length ss ≡ n) sss
sheet_count n [] [] h = (refl, tt)
sheet_count n [] (ss ∷ sss) h = absurd h
sheet_count n (col ∷ cols) [] h = absurd h
sheet_count n (col ∷ cols) (ss ∷ sss) h = let t = sheet_count n cols sss h.2 in (ap suc t.0, (h.0, t.1))

-- ---- columns of rows that fit
row_count : (cols : List Column) (ys : List Slot) → RowFits cols ys → length ys ≡ length cols
row_count [] [] h = refl
row_count [] (y ∷ ys) h = absurd h
row_count (col ∷ cols) [] h = absurd h
row_count (col ∷ cols) (y ∷ ys) h = ap suc (row_count cols ys h.1)

pub rows_count : (cols : List Column) (yss : List (List Slot)) → Every (RowFits cols) yss → Every (λ ys. length ys ≡ length cols) yss
rows_count cols [] h = tt
rows_count cols (ys ∷ yss) h = (row_count cols ys h.0, rows_count cols yss h.1)

pub columns_fit : (n : ℕ) (cols : List Column) (yss : List (List Slot)) → length yss ≡ n → Every (RowFits cols) yss
    → SheetFits n cols (turned (length cols) yss)
columns_fit n [] yss e h = tt
columns_fit n (col ∷ cols) yss e h = subst (SheetFits n (col ∷ cols)) (sym (turned_tails (length cols) yss)) (
  length-map yss (λ ys. get_or ys 0 none) ∙ e,
  first_fits col cols yss h,
  columns_fit n cols (map tail yss) (length-map yss tail ∙ e) (tails_fit col cols yss h),
)
