-- A sheet that passes: its columns have their bytes, and its slots fit. Assumes nothing.
use Prim.Native.Nat.{ℕ, zero, suc, ◌+◌, ◌-◌, ◌*◌, ◌<◌, ◌≤◌}
use mathlib.Core.Path.{◌≡◌, refl, ap, sym, subst, ◌∙◌}
use mathlib.Core.Bool.{Bool, true, false, true≢false}
use mathlib.Core.List.{List, [], ◌∷◌, map}
use mathlib.Core.Logic.{◌⊎◌, inl, inr}
use native.Mathlib.Omega.{arith}
use lib.Dec.{T, ltb}
use lib.ListN.{length, take, drop, length-take, length-drop, length-map}
use lib.Seq.{length-take-le}
use borrow.Author.Tests.{ltb-false}
use Rattle.std.specs.declared.result.Result.TheVariants.{Ok}
use Rattle.format.specs.declared.SortOptions.{SortOptions}
use Rattle.format.specs.declared.Column.{Column}
use Rattle.format.specs.Limits.{max_slot}
use Rattle.format.specs.Lists.{Bytes, each}
use Rattle.format.specs.Kinds.{Fixed, bool, plain, number, integer, float, parts, Shape, fixed, variable, Slot, width, column_shape}
use Rattle.format.specs.Key.{allowed}
use Rattle.format.specs.Fold.{is_folded, folded_slot}
use Rattle.format.specs.Fits.{Fits, SlotFits, AllSlots, SheetFits}
use Rattle.format.specs.Sheet.{Layout, bits, ended, wide, layout_for, layout, packed, bit, bits_fault, first_clear, required_fault, end, ends_fault, variable_fault, values_fault, values_bytes, bool_byte, value_at, slot_if, column_fault, column_bytes, slot_at, column_slots, sheet_fault_from, sheet_fault, sheet_slots}
use Rattle.format.specs.Passed.{Passes, Step, Ended}
use Rattle.bits.proofs.Clear.{all_set}
use Rattle.bits.proofs.Nulls.{bits_passed}
use Rattle.basics.proofs.Sorts.{ShapeFolding, foldable}
use Rattle.basics.proofs.Compare.{choose}
use Rattle.basics.proofs.Bytes.{bytes_take, bytes_drop}
use Rattle.basics.proofs.Lists.{length_each}
use Rattle.basics.proofs.Checks.{fail_if_pass, enough, both_pass, pass_both}
use Rattle.laws.proofs.Folding.{fold_fits}

-- ---- the ends of a column of variable bytes

steps_from : (c : ℕ) (s : List ℕ) (i k : ℕ) → ends_fault c s i k ≡ Ok tt → (j : ℕ) → i ≤ j → j < i + k → Step s j
steps_from c s i zero e j a b = absurd (omega arith)
steps_from c s i (suc k) e j a b =
    let rises = enough (end s (suc i)) (end s i) _ _ e in
    let short = enough max_slot (end s (suc i) - end s i) _ _ rises.1 in
    go (record { rises = rises.0; short = short.0 }) (steps_from c s (suc i) k short.1 j) (choose i j)
  where
    go : Step s i → (suc i ≤ j → j < suc i + k → Step s j) → (i < j) ⊎ (j ≤ i) → Step s j
    go now later (inl l) = later l (omega arith)
    go now later (inr l) = subst (Step s) (let same : i ≡ j = omega arith in same) now

-- no end is past the last
pub last_end : (n : ℕ) (s : List ℕ) → Ended n s → (k j : ℕ) → j + k ≡ n → end s j ≤ end s n
last_end n s g zero j e = omega (arith, ap (end s) (let z : j ≡ n = omega arith in z))
last_end n s g (suc k) j e = omega (arith, (g.step j (omega arith)).rises, last_end n s g k (suc j) (omega arith))

-- what a column of variable bytes that passes says of its ends
pub variable_passed : (n c : ℕ) (s : List ℕ) → variable_fault n c s ≡ Ok tt → Ended n s
variable_passed n c s e =
    let cut = enough (length s) (4 * suc n) _ _ e in
    let steps = both_pass (ends_fault c s 0 n) _ cut.1 in
    let all = enough (length s) (4 * suc n + end s n) _ _ steps.1 in
    record {
      step = λ j l. steps_from c s 0 n steps.0 j (omega arith) (omega arith);
      room = all.0;
    }

-- ---- the values of a column have their bytes
values_room : (ly : Layout) (n c : ℕ) (s : List ℕ) → values_fault ly n c s ≡ Ok tt → values_bytes ly n s ≤ length s
values_room bits n c s e = (bits_passed n c s e).0
values_room (wide w) n c s e = (enough (length s) (n * w) _ _ e).0
values_room ended n c s e = (variable_passed n c s e).room

-- a column that passes: its validity, its values, and that it has no null where it is required
pub column_passed : (q : Bool) (ly : Layout) (n c : ℕ) (s : List ℕ) → column_fault q ly n c s ≡ Ok tt
    → (bits_fault n c s ≡ Ok tt) × (values_fault ly n c (drop (packed n) s) ≡ Ok tt) × (required_fault q n c s ≡ Ok tt)
column_passed q ly n c s e =
    let p = both_pass (bits_fault n c s) _ e in
    let r = both_pass (required_fault q n c s) _ p.1 in
    (p.0, r.1, r.0)

-- and it passes as one that is not required
pub not_asked : (q : Bool) (ly : Layout) (n c : ℕ) (s : List ℕ) → column_fault q ly n c s ≡ Ok tt → column_fault false ly n c s ≡ Ok tt
not_asked q ly n c s e = let p = column_passed q ly n c s e in pass_both (bits_fault n c s) _ p.0 p.1

-- every row of a required column that passes is valid
no_null : (q : Bool) (n c : ℕ) (s : List ℕ) → required_fault q n c s ≡ Ok tt → (r : ℕ) → r < n → bit s r ≡ false → q ≡ false
no_null false n c s e r l z = refl
no_null true n c s e r l z =
    let none = ltb-false (first_clear s 0 n) n (fail_if_pass (ltb (first_clear s 0 n) n) _ _ e).0 in
    absurd (true≢false (sym (all_set s 0 n (omega arith) r (omega arith) (omega arith)) ∙ z))

-- its validity bytes are there
pub valid_bytes : (q : Bool) (ly : Layout) (n : ℕ) (s : List ℕ) → Passes (λ c. column_fault q ly n c s) → packed n ≤ length s
valid_bytes q ly n s h = (bits_passed n h.c s (column_passed q ly n h.c s h.pass).0).0

pub column_room : (q : Bool) (ly : Layout) (n c : ℕ) (s : List ℕ) → column_fault q ly n c s ≡ Ok tt → column_bytes ly n s ≤ length s
column_room q ly n c s e =
    let p = column_passed q ly n c s e in
    omega (arith, (bits_passed n c s p.0).0, values_room ly n c (drop (packed n) s) p.1, length-drop (packed n) s)

-- ---- the slots of a column fit

-- value j of n values of w bytes each ends within them
pub within : (j n w : ℕ) → j < n → j * w + w ≤ n * w
within j zero w h = absurd (omega arith)
within zero (suc n) w h = omega arith
within (suc j) (suc n) w h = omega (arith, within j n w (omega arith))

wide_fits : (k : Fixed) (n c : ℕ) (s : List ℕ) → ((x : List ℕ) → T (allowed k x) × T (is_folded k false x)) → Bytes s
    → values_fault (wide (width k)) n c s ≡ Ok tt → (i : ℕ) → i < n → Fits max_slot (fixed k) false (take (width k) (drop (i * width k) s))
wide_fits k n c s any b e i l = (
  bytes_take (width k) (drop (i * width k) s) (bytes_drop (i * width k) s b),
  length-take-le (width k) (drop (i * width k) s)
      (omega (arith, length-drop (i * width k) s, within i n (width k) l, (enough (length s) (n * width k) _ _ e).0)),
  (any (take (width k) (drop (i * width k) s))).0,
  (any (take (width k) (drop (i * width k) s))).1,
)

bool_fits : (b : Bool) → Fits max_slot (fixed bool) false (bool_byte b)
bool_fits true = ((omega arith, tt), refl, tt, tt)
bool_fits false = ((omega arith, tt), refl, tt, tt)

-- a value as it stands in the sheet
pub value_fits : (sh : Shape) (n c : ℕ) (s : List ℕ) → Bytes s → values_fault (layout_for sh) n c s ≡ Ok tt → (i : ℕ) → i < n
    → Fits max_slot sh false (value_at (layout_for sh) n s i)
value_fits (fixed bool) n c s b e i l = bool_fits (bit s i)
value_fits (fixed (plain w)) n c s b e i l = wide_fits (plain w) n c s (λ x. (tt, tt)) b e i l
value_fits (fixed (number w)) n c s b e i l = wide_fits (number w) n c s (λ x. (tt, tt)) b e i l
value_fits (fixed (integer w)) n c s b e i l = wide_fits (integer w) n c s (λ x. (tt, tt)) b e i l
value_fits (fixed (float w)) n c s b e i l = wide_fits (float w) n c s (λ x. (tt, tt)) b e i l
value_fits (fixed (parts ws)) n c s b e i l = wide_fits (parts ws) n c s (λ x. (tt, tt)) b e i l
value_fits variable n c s b e i l =
    let t : List ℕ = drop (end s i) (drop (4 * suc n) s) in (
      bytes_take (end s (suc i) - end s i) t (bytes_drop (end s i) (drop (4 * suc n) s) (bytes_drop (4 * suc n) s b)),
      omega (arith, length-take (end s (suc i) - end s i) t, ((variable_passed n c s e).step i l).short),
    )

if_fits : (sh : Shape) (o : SortOptions) (b : Bool) (v : List ℕ) → ShapeFolding sh → Fits max_slot sh false v → (b ≡ false → o.required ≡ false)
    → SlotFits max_slot sh o (folded_slot sh o (slot_if b v))
if_fits sh o true v f h free = fold_fits sh o v f h
if_fits sh o false v f h free = free refl

-- slot r of a column that passes, as encode takes it
pub slot_fits : (sh : Shape) (o : SortOptions) (n c : ℕ) (s : List ℕ) → ShapeFolding sh → Bytes s → column_fault o.required (layout_for sh) n c s ≡ Ok tt
    → (r : ℕ) → r < n → SlotFits max_slot sh o (folded_slot sh o (slot_at (layout_for sh) n s r))
slot_fits sh o n c s f b e r l =
    let p = column_passed o.required (layout_for sh) n c s e in
    if_fits sh o (bit s r) _ f (value_fits sh n c (drop (packed n) s) (bytes_drop (packed n) s b) p.1 r l) (no_null o.required n c s p.2 r l)

slots_fit : (sh : Shape) (o : SortOptions) (i k : ℕ) (f : ℕ → Slot) → ((j : ℕ) → i ≤ j → j < i + k → SlotFits max_slot sh o (folded_slot sh o (f j)))
    → AllSlots sh o (map (folded_slot sh o) (each i k f))
slots_fit sh o i zero f h = tt
slots_fit sh o i (suc k) f h = (h i (omega arith) (omega arith), slots_fit sh o (suc i) k f (λ j a b. h j (omega arith) (omega arith)))

pub column_fits : (sh : Shape) (o : SortOptions) (n c : ℕ) (s : List ℕ) → ShapeFolding sh → Bytes s → column_fault o.required (layout_for sh) n c s ≡ Ok tt
    → AllSlots sh o (map (folded_slot sh o) (column_slots (layout_for sh) n s))
column_fits sh o n c s f b e = slots_fit sh o 0 n (slot_at (layout_for sh) n s) (λ j l m. slot_fits sh o n c s f b e j (omega arith))

-- ---- and those of a sheet
columns_fit : (n c at : ℕ) (cols : List Column) (s : List ℕ) → Bytes s → sheet_fault_from n c at cols s ≡ Ok tt → SheetFits n cols (sheet_slots n cols s)
columns_fit n c at [] s b e = tt
columns_fit n c at (col ∷ cols) s b e =
    let k : ℕ = column_bytes (layout col) n s in
    let p = both_pass (column_fault col.options.required (layout col) n c s) _ e in (
      length-map (column_slots (layout col) n s) (folded_slot (column_shape col) col.options) ∙ length_each 0 n (slot_at (layout col) n s),
      column_fits (column_shape col) col.options n c s (foldable col.kind) b p.0,
      columns_fit n (suc c) (at + k) cols (drop k s) (bytes_drop k s b) p.1,
    )

pub sheet_fits : (n : ℕ) (cols : List Column) (s : List ℕ) → Bytes s → sheet_fault n cols s ≡ Ok tt → SheetFits n cols (sheet_slots n cols s)
unfolding sheet_fault
sheet_fits n cols s b e = columns_fit n 0 0 cols s b e
