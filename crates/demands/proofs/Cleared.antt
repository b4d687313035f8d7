-- The cleared sheet of slots that fit is a sheet of raw columns: it passes, and it has these slots. Assumes nothing.
use Prim.Native.Nat.{ℕ, ◌≤◌}
use mathlib.Core.Path.{◌≡◌, refl, ap, ap₂, sym, subst, ◌∙◌}
use mathlib.Core.Bool.{Bool, true, false}
use mathlib.Core.Option.{none, some}
use mathlib.Core.List.{List, [], ◌∷◌, ◌++◌, map, append-nil, map-map}
use native.Mathlib.Omega.{arith}
use lib.Dec.{eqb}
use lib.ListN.{length, get_or, replicate, length-replicate, length-map}
use Rattle.std.specs.declared.result.Result.TheVariants.{Ok}
use Rattle.format.specs.declared.SortOptions.{SortOptions}
use Rattle.format.specs.declared.Column.{Column}
use Rattle.format.specs.Limits.{max_rows, max_slot}
use Rattle.format.specs.Lists.{Bytes, ends_from, joined, low_bytes}
use Rattle.format.specs.Kinds.{Fixed, bool, plain, number, integer, float, parts, Shape, fixed, variable, Slot, width, column_shape}
use Rattle.format.specs.Fold.{folds, folded_slot}
use Rattle.format.specs.Fits.{Fits, AllSlots, SheetFits}
use Rattle.format.specs.Sheet.{Layout, bits, ended, wide, layout_for, layout, packed, sheet_fault, sheet_slots}
use Rattle.format.specs.Cleared.{pack, valid, is_true, fixed_slot, variable_slot, cleared_values, cleared_column, cleared_sheet}
use Rattle.basics.proofs.Bytes.{bytes_zeros}
use Rattle.laws.proofs.Folding.{free_folded, fold_stays}
use Rattle.demands.specs.Raw.{Raw, RawColumn, slot_of, taken_of, taken_from, standing, raw_column, raw_sheet, cleared, AllRaw, EndFits, RawFits}
use Rattle.demands.proofs.Raw.{raw_fits, data_short, raw_passes, raw_slots}

-- a slot as it stands in the cleared sheet
abbrev pub cleared_raw : Layout → Slot → Raw
cleared_raw ly none = record { valid = false; bytes = cleared ly }
cleared_raw ly (some v) = record { valid = true; bytes = v }

-- its columns, which start at 0
abbrev cleared_slots : Layout → List Slot → RawColumn
cleared_slots ly ss = record { before = []; slots = map (cleared_raw ly) ss }

abbrev pub cleared_raws : List Column → List (List Slot) → List RawColumn
cleared_raws [] sss = []
cleared_raws (col ∷ cols) [] = []
cleared_raws (col ∷ cols) (ss ∷ sss) = cleared_slots (layout col) ss ∷ cleared_raws cols sss

-- ---- the cleared sheet is theirs

-- what is made of a slot is made of its raw slot
raws_map : {B : Type 0} (f : Slot → B) (g : Raw → B) (ly : Layout) → ((s : Slot) → f s ≡ g (cleared_raw ly s)) → (ss : List Slot)
    → map f ss ≡ map g (map (cleared_raw ly) ss)
raws_map f g ly h [] = refl
raws_map f g ly h (s ∷ ss) = ap₂ (λ x y. x ∷ y) (h s) (raws_map f g ly h ss)

valids : (ly : Layout) (s : Slot) → valid s ≡ (cleared_raw ly s).valid
valids ly none = refl
valids ly (some v) = refl

bools : (s : Slot) → is_true s ≡ eqb (get_or (cleared_raw bits s).bytes 0 0) 1
bools none = refl
bools (some v) = refl

wides : (w : ℕ) (s : Slot) → fixed_slot w s ≡ (cleared_raw (wide w) s).bytes
wides w none = refl
wides w (some v) = refl

variables : (s : Slot) → variable_slot s ≡ (cleared_raw ended s).bytes
variables none = refl
variables (some v) = refl

values_raw : (ly : Layout) (n : ℕ) (ss : List Slot) → cleared_values ly n ss ≡ standing ly n [] (map (λ r. r.bytes) (map (cleared_raw ly) ss))
values_raw bits n ss =
    ap (pack (packed n))
    (raws_map is_true (λ r. eqb (get_or r.bytes 0 0) 1) bits bools ss
    ∙ sym (map-map (λ (x : List ℕ). eqb (get_or x 0 0) 1) (λ (r : Raw). r.bytes) (map (cleared_raw bits) ss)))
values_raw (wide w) n ss = ap joined (raws_map (fixed_slot w) (λ r. r.bytes) (wide w) (wides w) ss)
values_raw ended n ss =
    ap (λ (xs : List (List ℕ)). joined (map (low_bytes 4) (ends_from 0 xs)) ++ joined xs)
    (raws_map variable_slot (λ r. r.bytes) ended variables ss)

column_raw : (ly : Layout) (n : ℕ) (ss : List Slot) → cleared_column ly n ss ≡ raw_column ly n (cleared_slots ly ss)
column_raw ly n ss = ap₂ (λ (x y : List ℕ). x ++ y) (ap (pack (packed n)) (raws_map valid (λ r. r.valid) ly (valids ly) ss)) (values_raw ly n ss)

pub cleared_raw_lem : (n : ℕ) (cols : List Column) (sss : List (List Slot)) → cleared_sheet n cols sss ≡ raw_sheet n cols (cleared_raws cols sss)
cleared_raw_lem n [] sss = refl
cleared_raw_lem n (col ∷ cols) [] = refl
cleared_raw_lem n (col ∷ cols) (ss ∷ sss) = ap₂ (λ (x y : List ℕ). x ++ y) (column_raw (layout col) n ss) (cleared_raw_lem n cols sss)

-- ---- they are the slots
slots_back : (ly : Layout) (ss : List Slot) → map slot_of (map (cleared_raw ly) ss) ≡ ss
slots_back ly [] = refl
slots_back ly (none ∷ ss) = ap (λ (l : List Slot). none ∷ l) (slots_back ly ss)
slots_back ly (some v ∷ ss) = ap (λ (l : List Slot). some v ∷ l) (slots_back ly ss)

-- which encode takes as they are
taken_back : (sh : Shape) (o : SortOptions) (ss : List Slot) → AllSlots sh o ss → map (folded_slot sh o) ss ≡ ss
taken_back sh o [] h = refl
taken_back sh o (s ∷ ss) h = ap₂ {C = List Slot} (λ x y. x ∷ y) (fold_stays sh o s h.0) (taken_back sh o ss h.1)

cleared_taken : (col : Column) (ss : List Slot) → AllSlots (column_shape col) col.options ss → taken_of col (cleared_slots (layout col) ss) ≡ ss
cleared_taken col ss h =
    ap (map (folded_slot (column_shape col) col.options)) (slots_back (layout col) ss) ∙ taken_back (column_shape col) col.options ss h

-- ---- and they fit

zeros_fit : (w : ℕ) → Bytes (replicate w 0)
zeros_fit w = subst Bytes (append-nil (replicate w 0)) (bytes_zeros w [] tt)

cleared_fits : (sh : Shape) → Fits max_slot sh false (cleared (layout_for sh))
cleared_fits (fixed bool) = ((omega arith, tt), refl, tt, tt)
cleared_fits (fixed (plain w)) = (zeros_fit w, length-replicate w 0, tt, tt)
cleared_fits (fixed (number w)) = (zeros_fit w, length-replicate w 0, tt, tt)
cleared_fits (fixed (integer w)) = (zeros_fit w, length-replicate w 0, tt, tt)
cleared_fits (fixed (float w)) = (zeros_fit w, length-replicate w 0, tt, tt)
cleared_fits (fixed (parts ws)) = (zeros_fit (width (parts ws)), length-replicate (width (parts ws)) 0, tt, tt)
cleared_fits variable = (tt, omega arith)

-- what fits a column that folds fits one that does not
never_folds : (k : Fixed) → folds k false ≡ false
never_folds bool = refl
never_folds (plain n) = refl
never_folds (number n) = refl
never_folds (integer n) = refl
never_folds (float n) = refl
never_folds (parts ns) = refl

pub fits_free : (sh : Shape) (b : Bool) (v : List ℕ) → Fits max_slot sh b v → Fits max_slot sh false v
fits_free (fixed k) b v h = (h.0, h.1, h.2, free_folded k false v (never_folds k))
fits_free variable b v h = h

all_fit : (sh : Shape) (o : SortOptions) (ss : List Slot) → AllSlots sh o ss → AllRaw sh (map (cleared_raw (layout_for sh)) ss)
all_fit sh o [] h = tt
all_fit sh o (none ∷ ss) h = (cleared_fits sh, all_fit sh o ss h.1)
all_fit sh o (some v ∷ ss) h = (fits_free sh o.fold v h.0, all_fit sh o ss h.1)

-- and so does the last end
end_fits : (sh : Shape) (n : ℕ) (rs : List Raw) → n ≤ max_rows → length rs ≡ n → AllRaw sh rs → EndFits (layout_for sh) [] (map (λ r. r.bytes) rs)
end_fits (fixed bool) n rs few e h = tt
end_fits (fixed (plain w)) n rs few e h = tt
end_fits (fixed (number w)) n rs few e h = tt
end_fits (fixed (integer w)) n rs few e h = tt
end_fits (fixed (float w)) n rs few e h = tt
end_fits (fixed (parts ws)) n rs few e h = tt
end_fits variable n rs few e h =
    let xs : List (List ℕ) = map (λ r. r.bytes) rs in
    omega (arith, data_short xs (raw_fits variable rs h), length-map rs (λ (r : Raw). r.bytes), e, few)

pub raws_fit : (n : ℕ) (cols : List Column) (sss : List (List Slot)) → n ≤ max_rows → SheetFits n cols sss → RawFits n cols (cleared_raws cols sss)
raws_fit n [] [] few h = tt
raws_fit n [] (ss ∷ sss) few h = absurd h
raws_fit n (col ∷ cols) [] few h = absurd h
raws_fit n (col ∷ cols) (ss ∷ sss) few h =
    let many = length-map ss (cleared_raw (layout col)) ∙ h.0 in
    let all = all_fit (column_shape col) col.options ss h.1 in (
      record {
        many = many;
        all = all;
        fit = subst (AllSlots (column_shape col) col.options) (sym (cleared_taken col ss h.1)) h.1;
        below = tt;
        end_fits = end_fits (column_shape col) n (map (cleared_raw (layout col)) ss) few many all;
      },
      raws_fit n cols sss few h.2,
    )

raws_back : (n : ℕ) (cols : List Column) (sss : List (List Slot)) → SheetFits n cols sss → taken_from cols (cleared_raws cols sss) ≡ sss
raws_back n [] [] h = refl
raws_back n [] (ss ∷ sss) h = absurd h
raws_back n (col ∷ cols) [] h = absurd h
raws_back n (col ∷ cols) (ss ∷ sss) h = ap₂ {C = List (List Slot)} (λ x y. x ∷ y) (cleared_taken col ss h.1) (raws_back n cols sss h.2)

-- ---- so the cleared sheet passes, and has the slots
pub cleared_passes : (n : ℕ) (cols : List Column) (sss : List (List Slot)) → n ≤ max_rows → SheetFits n cols sss
    → sheet_fault n cols (cleared_sheet n cols sss) ≡ Ok tt
cleared_passes n cols sss few h = ap (sheet_fault n cols) (cleared_raw_lem n cols sss) ∙ raw_passes n cols (cleared_raws cols sss) (raws_fit n cols sss few h)

pub cleared_slots_lem : (n : ℕ) (cols : List Column) (sss : List (List Slot)) → n ≤ max_rows → SheetFits n cols sss
    → sheet_slots n cols (cleared_sheet n cols sss) ≡ sss
cleared_slots_lem n cols sss few h =
    ap (sheet_slots n cols) (cleared_raw_lem n cols sss) ∙ raw_slots n cols (cleared_raws cols sss) (raws_fit n cols sss few h) ∙ raws_back n cols sss h
