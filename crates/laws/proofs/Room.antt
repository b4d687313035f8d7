-- The cleared sheet of some rows, by what each row adds: how long it is. Decode adds these up row by row. Assumes nothing.
use Prim.Native.Nat.{ℕ, suc, ◌+◌, ◌*◌}
use mathlib.Core.Path.{◌≡◌, refl, ap, ap₂, ◌∙◌}
use mathlib.Core.Option.{none, some}
use mathlib.Core.List.{List, [], ◌∷◌, map, tail}
use native.Mathlib.Omega.{arith}
use lib.ListN.{length, length-append, length-map, length-replicate}
use Rattle.format.specs.declared.SortOptions.{SortOptions}
use Rattle.format.specs.declared.Column.{Column}
use Rattle.format.specs.Lists.{ends_from, joined, low_bytes, sum}
use Rattle.format.specs.Kinds.{Fixed, bool, plain, number, integer, float, parts, Shape, fixed, variable, Slot, width, column_shape}
use Rattle.format.specs.Fits.{AllSlots, RowFits}
use Rattle.format.specs.Sheet.{Layout, bits, ended, wide, layout_for, layout, packed, slots_in, turned}
use Rattle.format.specs.Cleared.{pack, valid, is_true, fixed_slot, variable_slot, cleared_values, cleared_column, cleared_sheet, frame, slot_length, added, row_added}
use Rattle.bits.proofs.Bits.{length_pack}
use Rattle.basics.proofs.Lists.{Every, length_joined, length_ends}
use Rattle.laws.proofs.Turned.{first_fits, tails_fit, turned_tails}

none_added : {A : Type 0} (xs : List A) → sum (map (λ x. 0) xs) ≡ 0
none_added [] = refl
none_added (x ∷ xs) = omega (arith, none_added xs)

-- ---- the values of a column

-- of w bytes each
all_wide : (k : Fixed) (o : SortOptions) (ss : List Slot) → AllSlots (fixed k) o ss → Every (λ x. length x ≡ width k) (map (fixed_slot (width k)) ss)
all_wide k o [] h = tt
all_wide k o (none ∷ ss) h = (length-replicate (width k) 0, all_wide k o ss h.1)
all_wide k o (some v ∷ ss) h = (h.0.1, all_wide k o ss h.1)

wide_length : (k : Fixed) (o : SortOptions) (n : ℕ) (ss : List Slot) → length ss ≡ n → AllSlots (fixed k) o ss
    → length (cleared_values (wide (width k)) n ss) ≡ n * width k
wide_length k o n ss e h =
    length_joined (width k) (map (fixed_slot (width k)) ss) (all_wide k o ss h)
    ∙ ap (λ (m : ℕ). m * width k) (length-map ss (fixed_slot (width k)) ∙ e)

-- variable bytes: the ends, and the bytes between them
pub all_four : (es : List ℕ) → Every (λ x. length x ≡ 4) (map (low_bytes 4) es)
all_four [] = tt
all_four (e ∷ es) = (refl, all_four es)

slot_length_lem : (s : Slot) → length (variable_slot s) ≡ slot_length s
slot_length_lem none = refl
slot_length_lem (some v) = refl

data_length : (ss : List Slot) → length (joined (map variable_slot ss)) ≡ sum (map slot_length ss)
data_length [] = refl
data_length (s ∷ ss) = length-append (variable_slot s) (joined (map variable_slot ss)) ∙ ap₂ ◌+◌ (slot_length_lem s) (data_length ss)

ended_length : (n : ℕ) (ss : List Slot) → length ss ≡ n → length (cleared_values ended n ss) ≡ 4 * suc n + sum (map slot_length ss)
ended_length n ss e =
    let xs : List (List ℕ) = map variable_slot ss in
    let ends : List (List ℕ) = map (low_bytes 4) (ends_from 0 xs) in
    omega (
      arith,
      length-append (joined ends) (joined xs),
      length_joined 4 ends (all_four (ends_from 0 xs)),
      length-map (ends_from 0 xs) (low_bytes 4),
      length_ends 0 xs,
      length-map ss variable_slot,
      data_length ss,
    )

-- ---- a column: its frame, and what each slot adds
module _ (o : SortOptions) (n : ℕ) (ss : List Slot) (e : length ss ≡ n) where
  long : (ly : Layout) (m : ℕ) → length (cleared_values ly n ss) ≡ m → length (cleared_column ly n ss) ≡ packed n + m
  long ly m h = omega (arith, length-append (pack (packed n) (map valid ss)) (cleared_values ly n ss), length_pack (packed n) (map valid ss), h)

  wide_long : (k : Fixed) → AllSlots (fixed k) o ss
      → length (cleared_column (wide (width k)) n ss) ≡ frame (wide (width k)) n + sum (map (added (wide (width k))) ss)
  wide_long k h = long (wide (width k)) (n * width k) (wide_length k o n ss e h) ∙ omega (arith, none_added ss)

  column_length : (sh : Shape) → AllSlots sh o ss → length (cleared_column (layout_for sh) n ss) ≡ frame (layout_for sh) n + sum (map (added (layout_for sh)) ss)
  column_length (fixed bool) h = long bits (packed n) (length_pack (packed n) (map is_true ss)) ∙ omega (arith, none_added ss)
  column_length (fixed (plain w)) h = wide_long (plain w) h
  column_length (fixed (number w)) h = wide_long (number w) h
  column_length (fixed (integer w)) h = wide_long (integer w) h
  column_length (fixed (float w)) h = wide_long (float w) h
  column_length (fixed (parts ws)) h = wide_long (parts ws) h
  column_length variable h = long ended _ (ended_length n ss e) ∙ omega arith

-- ---- the sheet

-- the first column and the others add what the rows do
rows_added : (col : Column) (cols : List Column) (yss : List (List Slot)) → Every (RowFits (col ∷ cols)) yss
    → sum (map (added (layout col)) (slots_in yss 0)) + sum (map (row_added cols) (map tail yss)) ≡ sum (map (row_added (col ∷ cols)) yss)
rows_added col cols [] h = refl
rows_added col cols ([] ∷ yss) h = absurd h.0
rows_added col cols ((y ∷ ys) ∷ yss) h = omega (arith, rows_added col cols yss h.1)

-- each column its frame, and what each row adds
pub cleared_length : (n : ℕ) (cols : List Column) (yss : List (List Slot)) → length yss ≡ n → Every (RowFits cols) yss
    → length (cleared_sheet n cols (turned (length cols) yss)) ≡ sum (map (λ col. frame (layout col) n) cols) + sum (map (row_added cols) yss)
cleared_length n [] yss e h = omega (arith, none_added yss)
cleared_length n (col ∷ cols) yss e h =
    let ss : List Slot = slots_in yss 0 in
    let t : List ℕ = cleared_sheet n cols (turned (length cols) (map tail yss)) in
    ap (λ (sss : List (List Slot)). length (cleared_sheet n (col ∷ cols) sss)) (turned_tails (length cols) yss)
    ∙ omega (
      arith,
      length-append (cleared_column (layout col) n ss) t,
      column_length col.options n ss (length-map yss _ ∙ e) (column_shape col) (first_fits col cols yss h),
      cleared_length n cols (map tail yss) (length-map yss tail ∙ e) (tails_fit col cols yss h),
      rows_added col cols yss h,
    )
