-- The rows of a sheet under folding columns are those of its folded sheet under the same columns without bit 3, the rows that were always
-- written; and so encode answers and writes for both. Assumes nothing.
use Prim.Native.Nat.{ℕ, ◌≤◌}
use mathlib.Core.Path.{◌≡◌, refl, ap, ap₂, sym, subst, ◌∙◌}
use mathlib.Core.Option.{none as null, some}
use mathlib.Core.List.{List, [], ◌∷◌, ◌++◌, map}
use lib.Dec.{ltb}
use lib.ListN.{length}
use Rattle.std.specs.declared.result.Result.TheVariants.{Ok}
use Rattle.format.specs.declared.SortOptions.{SortOptions}
use Rattle.format.specs.declared.Column.{Column}
use Rattle.format.specs.declared.Refusal.TheVariants.{RowRoom}
use Rattle.format.specs.Limits.{max_rows, max_slot, max_total}
use Rattle.format.specs.Check.{fail_if}
use Rattle.format.specs.Lists.{Bytes, joined, ends_from, over}
use Rattle.format.specs.Kinds.{Shape, fixed, variable, Slot, column_shape}
use Rattle.format.specs.Described.{ColumnList, list_fault, columns}
use Rattle.format.specs.Field.{field}
use Rattle.format.specs.Row.{row}
use Rattle.format.specs.Fits.{SlotFits, AllSlots, SheetFits}
use Rattle.format.specs.Sheet.{layout, sheet_fault, sheet_slots, nulls, turned}
use Rattle.format.specs.Cleared.{cleared_column, cleared_sheet}
use Rattle.format.specs.Entries.{sheet_rows, sheet_total, offset_room_fault, encode_check, encode_answer}
use Rattle.laws.proofs.Sheets.{sheet_fits}
use Rattle.laws.proofs.Accept.{Accepted, encoded, encode_rows_lem, encode_offsets_lem}
use Rattle.demands.specs.Folded.{unfolded_options, unfolded, folded_sheet, EncodedFolded}
use Rattle.demands.proofs.Accept.{encode_room}
use Rattle.demands.proofs.Cleared.{fits_free, cleared_passes, cleared_slots_lem}

field_same : (sh : Shape) (o : SortOptions) (s : Slot) → field sh (unfolded_options o) s ≡ field sh o s
field_same (fixed k) o null = refl
field_same (fixed k) o (some v) = refl
field_same variable o null = refl
field_same variable o (some v) = refl

-- a row does not look at bit 3
pub row_same : (cols : List Column) (xs : List Slot) → row (map unfolded cols) xs ≡ row cols xs
row_same [] xs = refl
row_same (col ∷ cols) [] = refl
row_same (col ∷ cols) (x ∷ xs) = ap₂ (λ (f g : List ℕ). f ++ g) (field_same (column_shape col) col.options x) (row_same cols xs)

rows_same : (cols : List Column) (xss : List (List Slot)) → map (row (map unfolded cols)) xss ≡ map (row cols) xss
rows_same cols [] = refl
rows_same cols (xs ∷ xss) = ap₂ {C = List (List ℕ)} (λ f g. f ∷ g) (row_same cols xs) (rows_same cols xss)

-- nor does the cleared sheet
sheet_same : (n : ℕ) (cols : List Column) (sss : List (List Slot)) → cleared_sheet n (map unfolded cols) sss ≡ cleared_sheet n cols sss
sheet_same n [] sss = refl
sheet_same n (col ∷ cols) [] = refl
sheet_same n (col ∷ cols) (ss ∷ sss) = ap (λ (f : List ℕ). cleared_column (layout col) n ss ++ f) (sheet_same n cols sss)

-- what fits folding columns fits them without it
slot_fits_still : (sh : Shape) (o : SortOptions) (s : Slot) → SlotFits max_slot sh o s → SlotFits max_slot sh (unfolded_options o) s
slot_fits_still sh o null h = h
slot_fits_still sh o (some v) h = fits_free sh o.fold v h

all_fit_still : (sh : Shape) (o : SortOptions) (ss : List Slot) → AllSlots sh o ss → AllSlots sh (unfolded_options o) ss
all_fit_still sh o [] h = tt
all_fit_still sh o (s ∷ ss) h = (slot_fits_still sh o s h.0, all_fit_still sh o ss h.1)

fits_still : (n : ℕ) (cols : List Column) (sss : List (List Slot)) → SheetFits n cols sss → SheetFits n (map unfolded cols) sss
fits_still n [] [] h = tt
fits_still n [] (ss ∷ sss) h = absurd h
fits_still n (col ∷ cols) [] h = absurd h
fits_still n (col ∷ cols) (ss ∷ sss) h = (h.0, all_fit_still (column_shape col) col.options ss h.1, fits_still n cols sss h.2)

-- ---- the rows under folding columns

-- are those of any sheet that has the folded values, under the same columns without bit 3
pub rows_folded : (n : ℕ) (cols : List Column) (sheet other : List ℕ) → sheet_slots n (map unfolded cols) other ≡ sheet_slots n cols sheet
    → sheet_rows n cols sheet ≡ sheet_rows n (map unfolded cols) other
rows_folded n cols sheet other e =
    sym (ap (λ (z : List (List Slot)). map (row (map unfolded cols)) (turned n z)) e ∙ rows_same cols (turned n (sheet_slots n cols sheet)))

module _ (n : ℕ) (cols : List Column) (sheet : List ℕ) (few : n ≤ max_rows) (b : Bytes sheet) (e : sheet_fault n cols sheet ≡ Ok tt) where
  fits : SheetFits n (map unfolded cols) (sheet_slots n cols sheet)
  fits = fits_still n cols (sheet_slots n cols sheet) (sheet_fits n cols sheet b e)

  -- the folded sheet is accepted there
  pub folded_passes : sheet_fault n (map unfolded cols) (folded_sheet n cols sheet) ≡ Ok tt
  folded_passes =
      ap (sheet_fault n (map unfolded cols)) (sym (sheet_same n cols (sheet_slots n cols sheet)))
      ∙ cleared_passes n (map unfolded cols) (sheet_slots n cols sheet) few fits

  -- and has the folded values
  pub folded_slots : sheet_slots n (map unfolded cols) (folded_sheet n cols sheet) ≡ sheet_slots n cols sheet
  folded_slots =
      ap (sheet_slots n (map unfolded cols)) (sym (sheet_same n cols (sheet_slots n cols sheet)))
      ∙ cleared_slots_lem n (map unfolded cols) (sheet_slots n cols sheet) few fits

  -- so that the rows are those of the folded sheet
  pub folded_rows : sheet_rows n cols sheet ≡ sheet_rows n (map unfolded cols) (folded_sheet n cols sheet)
  folded_rows = rows_folded n cols sheet (folded_sheet n cols sheet) folded_slots

-- ---- the same of encode, where another list has the same columns without bit 3
module _ (list plain : ColumnList) (n : ℕ) (sheet rows offsets : List ℕ) (l : list_fault plain ≡ Ok tt) (same : columns plain ≡ map unfolded (columns list))
    (b : Bytes sheet) (e : encode_check list n sheet (length rows) (length offsets) ≡ Ok tt) where
  a : Accepted (columns list) n sheet
  a = (encoded list n sheet (length rows) (length offsets) e).1

  abbrev folded : List ℕ
  folded = folded_sheet n (columns list) sheet

  alike : sheet_rows n (columns list) sheet ≡ sheet_rows n (columns plain) folded
  alike = folded_rows n (columns list) sheet a.few b a.passes ∙ ap (λ (cols : List Column). sheet_rows n cols folded) (sym same)

  total : sheet_total n (columns list) sheet ≡ sheet_total n (columns plain) folded
  total = ap (λ (fs : List (List ℕ)). length (joined fs)) alike

  none : nulls (sheet_slots n (columns list) sheet) ≡ nulls (sheet_slots n (columns plain) folded)
  none =
      ap nulls (sym (folded_slots n (columns list) sheet a.few b a.passes) ∙ ap (λ (cols : List Column). sheet_slots n cols folded) (sym same))

  accepted : Accepted (columns plain) n folded
  accepted = record {
    few = a.few;
    passes = ap (λ (cols : List Column). sheet_fault n cols folded) same ∙ folded_passes n (columns list) sheet a.few b a.passes;
    small = subst (λ (k : ℕ). k ≤ max_total) total a.small;
  }

  passes : encode_check plain n folded (length rows) (length offsets) ≡ Ok tt
  passes =
      encode_room plain n folded (length rows) (length offsets) l accepted
      ∙ ap (λ (k : ℕ). fail_if (ltb (length rows) k) (RowRoom k) (offset_room_fault n (length offsets))) (sym total)
      ∙ sym (encode_room list n sheet (length rows) (length offsets) (encoded list n sheet (length rows) (length offsets) e).0 a) ∙ e

  answers_alike : encode_answer list n sheet (length rows) (length offsets) ≡ encode_answer plain n folded (length rows) (length offsets)
  unfolding encode_answer
  answers_alike = rw (e, passes) (ap₂ (λ (a b : ℕ). Ok (a, b)) total none)

  pub encode_folded : EncodedFolded list plain n sheet rows offsets
  encode_folded = record {
    answers = answers_alike;
    row_bytes =
        encode_rows_lem list n sheet rows offsets e ∙ ap (λ (fs : List (List ℕ)). over (joined fs) rows) alike
        ∙ sym (encode_rows_lem plain n folded rows offsets passes);
    row_ends =
        encode_offsets_lem list n sheet rows offsets e ∙ ap (λ (fs : List (List ℕ)). over (ends_from 0 fs) offsets) alike
        ∙ sym (encode_offsets_lem plain n folded rows offsets passes);
  }
