-- The total row bytes, added up column by column: what a measuring walk over columns and rows finds. Assumes nothing.
use Prim.Native.Nat.{ℕ, zero, suc, ◌+◌, ◌*◌, ◌/◌, ◌≤◌}
use mathlib.Core.Path.{◌≡◌, refl, ap, ap₂, sym, subst, ◌∙◌}
use mathlib.Core.Bool.{Bool, true, false, cond}
use mathlib.Core.Option.{none, some}
use mathlib.Core.List.{List, [], ◌∷◌, ◌++◌, map}
use native.Mathlib.Nat.{zero-add}
use native.Mathlib.Omega.{arith}
use lib.Dec.{leb}
use borrow.Author.Tests.{leb-true}
use lib.ListN.{length, get_or, drop, length-append, get_or-map}
use Rattle.std.specs.declared.result.Result.TheVariants.{Ok}
use Rattle.format.specs.declared.SortOptions.{SortOptions}
use Rattle.format.specs.declared.Column.{Column}
use Rattle.format.specs.Limits.{max_width, max_slot}
use Rattle.format.specs.Lists.{Bytes, each, joined, sum}
use Rattle.format.specs.Kinds.{Shape, fixed, variable, Slot, shape_bytes, value_bytes, column_shape}
use Rattle.format.specs.Field.{field, padded_length, field_length, max_field}
use Rattle.format.specs.Fold.{folded_slot}
use Rattle.format.specs.Fits.{SlotFits, AllSlots, SheetFits}
use Rattle.format.specs.Row.{row}
use Rattle.format.specs.Schemas.{no_column}
use Rattle.format.specs.Sheet.{layout, column_fault, column_bytes, slot_at, column_slots, sheet_fault, sheet_slots, place_from, place, slots_in}
use Rattle.format.specs.Entries.{sheet_total, column_total}
use Rattle.laws.proofs.Fields.{length_field}
use Rattle.laws.proofs.Folding.{fold_length}
use Rattle.laws.proofs.Places.{past_column}
use Rattle.laws.proofs.Sheets.{slot_fits, sheet_fits}
use Rattle.laws.proofs.Turned.{slot_in}
use Rattle.basics.proofs.Sorts.{foldable}
use Rattle.basics.proofs.Lists.{each_at, each_next, each_same, sum_most}

-- k rows from row i on: the fields of the first column, and the rows of the others
module _ (col : Column) (cols : List Column) (ss : List Slot) (sss : List (List Slot)) (h : AllSlots (column_shape col) col.options ss) where
  one_more : (i k : ℕ) → i + k ≡ length ss
      → length (joined (map (row (col ∷ cols)) (each i k (slots_in (ss ∷ sss)))))
      ≡ sum (each i k (λ r. field_length (column_shape col) (get_or ss r none))) + length (joined (map (row cols) (each i k (slots_in sss))))
  one_more i zero e = refl
  one_more i (suc k) e =
      let f : List ℕ = field (column_shape col) col.options (get_or ss i none) in
      let r : List ℕ = row cols (slots_in sss i) in
      omega (
        arith,
        length-append (f ++ r) (joined (map (row (col ∷ cols)) (each (suc i) k (slots_in (ss ∷ sss))))),
        length-append f r,
        length-append r (joined (map (row cols) (each (suc i) k (slots_in sss)))),
        length_field (column_shape col) col.options (get_or ss i none) (slot_in (column_shape col) col.options ss i (omega arith) h),
        one_more (suc i) k (omega arith),
      )

no_columns : (i k : ℕ) (f : ℕ → List Slot) → length (joined (map (row []) (each i k f))) ≡ 0
no_columns i zero f = refl
no_columns i (suc k) f = no_columns (suc i) k f

total_from : (n at : ℕ) (cols : List Column) (s : List ℕ) (d : Column) → SheetFits n cols (sheet_slots n cols (drop at s))
    → sheet_total n cols (drop at s) ≡ sum (each 0 (length cols) (λ c. column_total (get_or cols c d) n (drop (place_from n at cols s c) s)))
total_from n at [] s d h = no_columns 0 n (slots_in [])
total_from n at (col ∷ cols) s d h =
    one_more col cols taken (sheet_slots n cols (drop (column_bytes (layout col) n (drop at s)) (drop at s))) h.1 0 n
    (zero-add n ∙ sym h.0)
    ∙ ap₂ ◌+◌ first
    (ap (sheet_total n cols) (past_column (layout col) n at s)
    ∙ total_from n (at + column_bytes (layout col) n (drop at s)) cols s d
    (subst (λ (z : List ℕ). SheetFits n cols (sheet_slots n cols z)) (past_column (layout col) n at s) h.2)
    ∙ ap sum (sym (each_next 0 (length cols) (λ c. column_total (get_or (col ∷ cols) c d) n (drop (place_from n at (col ∷ cols) s c) s)))))
  where
    taken : List Slot
    taken = map (folded_slot (column_shape col) col.options) (column_slots (layout col) n (drop at s))

    first : sum (each 0 n (λ r. field_length (column_shape col) (get_or taken r none))) ≡ column_total col n (drop at s)
    first = ap sum (each_same 0 n _ _ (λ r a b.
        ap (field_length (column_shape col)) (get_or-map (folded_slot (column_shape col) col.options) (column_slots (layout col) n (drop at s)) r none)
        ∙ fold_length (column_shape col) col.options (get_or (column_slots (layout col) n (drop at s)) r none)
        ∙ ap (field_length (column_shape col)) (each_at n (slot_at (layout col) n (drop at s)) none r (omega arith))))

-- the total of a sheet that passes
pub total_is : (n : ℕ) (cols : List Column) (s : List ℕ) (d : Column) → Bytes s → sheet_fault n cols s ≡ Ok tt
    → sheet_total n cols s ≡ sum (each 0 (length cols) (λ c. column_total (get_or cols c d) n (drop (place n cols s c) s)))
total_is n cols s d b e = total_from n 0 cols s d (sheet_fits n cols s b e)

-- ---- no field is longer than that of the longest value, so a column's total is small
padded_most : (n : ℕ) → n ≤ max_slot → padded_length n ≤ max_field
padded_most n l = go (leb n 32) refl
  where
    go : (b : Bool) → leb n 32 ≡ b → cond b (1 + 9 * ((n + 7) / 8)) (4 + 33 * ((n + 31) / 32)) ≤ max_field
    go true e = omega (arith, leb-true n 32 e)
    go false e = omega arith

field_most : (sh : Shape) (o : SortOptions) (s : Slot) → shape_bytes sh ≤ max_width → SlotFits max_slot sh o (folded_slot sh o s) → field_length sh s ≤ max_field
field_most (fixed k) o s w h = omega arith
field_most variable o none w h = omega arith
field_most variable o (some v) w h = padded_most (length v) h.1

pub total_most : (col : Column) (n c : ℕ) (s : List ℕ) → Bytes s → column_fault false (layout col) n c s ≡ Ok tt → value_bytes col.kind ≤ max_width
    → column_total col n s ≤ n * max_field
total_most col n c s b e w = sum_most (λ r. field_length (column_shape col) (slot_at (layout col) n s r)) max_field 0 n (λ r x y.
    field_most (column_shape col) no_column.options (slot_at (layout col) n s r) w
    (slot_fits (column_shape col) no_column.options n c s (foldable col.kind) b e r (omega arith)))
