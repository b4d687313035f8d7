-- A null slot may hold anything within the limits, and so may what is before a first end: whatever they hold, a sheet of the same values is
-- accepted and encoded alike; and a cleared sheet of folded floats is its own cleared sheet, so that it comes back byte for byte. Assumes nothing.
use Prim.Native.Nat.{ℕ, ◌≤◌}
use mathlib.Core.Path.{◌≡◌, refl, ap, ap₂, sym, subst, ◌∙◌}
use mathlib.Core.Bool.{Bool, true, false}
use mathlib.Core.List.{List, [], ◌∷◌, map}
use native.Mathlib.Omega.{arith}
use lib.ListN.{length, drop}
use borrow.Author.Tests.{le-ltb}
use Rattle.format.specs.Numbers.{Answer, three, numbers_of}
use Rattle.std.specs.declared.result.Result.TheVariants.{Ok}
use Rattle.format.specs.declared.Column.{Column}
use Rattle.format.specs.Limits.{max_total}
use Rattle.format.specs.Lists.{Bytes, joined, over}
use Rattle.format.specs.Kinds.{Slot, column_shape}
use Rattle.format.specs.Fold.{folded_slot}
use Rattle.format.specs.Fits.{AllSlots}
use Rattle.format.specs.Described.{ColumnList, columns}
use Rattle.format.specs.Row.{row}
use Rattle.format.specs.Sheet.{Layout, bits, ended, wide, layout, packed, bit, value_at, slot_if, column_bytes, slot_at, sheet_fault, sheet_slots, nulls, turned}
use Rattle.format.specs.Cleared.{cleared_sheet}
use Rattle.format.specs.Entries.{measure_check, encode_check}
use Rattle.basics.proofs.Lists.{each_same, map_each}
use Rattle.laws.proofs.Accept.{measured, encoded}
use Rattle.demands.specs.Raw.{Raw, RawColumn, slot_of, taken_from, raw_sheet, AllRaw, EndFits, ColumnFits, RawFits, raw_at, raw_columns, Resliced, DiffersBefore, cleared, IsCleared, IsFolded}
use Rattle.demands.specs.RoundTrip.{cleared_of, CameBack, Alike}
use Rattle.demands.proofs.Raw.{raw_passes, raw_slots}
use Rattle.demands.proofs.RawBack.{sheet_raw}
use Rattle.demands.proofs.Cleared.{cleared_raw, cleared_raws, cleared_raw_lem}
use Rattle.demands.proofs.Accept.{measure_pass}
use Rattle.demands.proofs.Demand2.{same_slots_alike}

-- ---- whatever null slots hold, and whatever is before a first end

-- the slots of a sheet are those that encode takes of its raw columns
raws_slots : (n : ℕ) (cols : List Column) (s : List ℕ) → taken_from cols (raw_columns n cols s) ≡ sheet_slots n cols s
raws_slots n [] s = refl
raws_slots n (col ∷ cols) s =
    ap₂ {C = List (List Slot)} (λ x y. x ∷ y) (ap (map (folded_slot (column_shape col) col.options)) (map_each slot_of 0 n (raw_at (layout col) n s)))
    (raws_slots n cols (drop (column_bytes (layout col) n s) s))

-- raw columns within the limits of which encode takes the slots of an accepted sheet make an accepted sheet, which is encoded alike. Those of the
-- sheet itself make the sheet (`sheet-raw`), so that its null slots, and what is before its first ends, may be changed at will,
-- and a float for one that is folded to the same
pub null_slots_free : (list : ColumnList) (n : ℕ) (s rows offsets : List ℕ) (cs : List RawColumn) → measure_check list n s ≡ Ok tt → RawFits n (columns list) cs
    → taken_from (columns list) cs ≡ sheet_slots n (columns list) s
    → (measure_check list n (raw_sheet n (columns list) cs) ≡ Ok tt) × Alike list n s (raw_sheet n (columns list) cs) rows offsets
null_slots_free list n s rows offsets cs e fits same =
    let cols : List Column = columns list in
    let t : List ℕ = raw_sheet n cols cs in
    let m = measured list n s e in
    let slots : sheet_slots n cols t ≡ sheet_slots n cols s = raw_slots n cols cs fits ∙ same in
    let accepted : measure_check list n t ≡ Ok tt
    = measure_pass list n t m.0 (record {
      few = m.1.few;
      passes = raw_passes n cols cs fits;
      small = subst (λ (sss : List (List Slot)). length (joined (map (row cols) (turned n sss))) ≤ max_total) (sym slots) m.1.small;
    }) in
    (accepted, same_slots_alike list n s t rows offsets e accepted (sym slots))

-- what stands before a first end may be anything of that length
end_kept : (ly : Layout) (a b : List ℕ) (xs : List (List ℕ)) → length b ≡ length a → EndFits ly a xs → EndFits ly b xs
end_kept bits a b xs e h = tt
end_kept (wide w) a b xs e h = tt
end_kept ended a b xs e h = omega (arith, e, h)

resliced_fits : (n : ℕ) (cols : List Column) (cs ds : List RawColumn) → Resliced cs ds → RawFits n cols cs → RawFits n cols ds
resliced_fits n [] [] [] r h = tt
resliced_fits n [] (c ∷ cs) ds r h = absurd h
resliced_fits n [] [] (d ∷ ds) r h = absurd r
resliced_fits n (col ∷ cols) [] ds r h = absurd h
resliced_fits n (col ∷ cols) (c ∷ cs) [] r h = absurd r
resliced_fits n (col ∷ cols) (c ∷ cs) (d ∷ ds) r h = (column_kept_lem r.0 r.1 r.2 h.0, resliced_fits n cols cs ds r.3 h.1)
  where
    column_kept_lem : d.slots ≡ c.slots → length d.before ≡ length c.before → Bytes d.before → ColumnFits n col c → ColumnFits n col d
    column_kept_lem same long b f = record {
      many = ap length same ∙ f.many;
      all = subst (AllRaw (column_shape col)) (sym same) f.all;
      fit = subst (λ (rs : List Raw). AllSlots (column_shape col) col.options (map (folded_slot (column_shape col) col.options) (map slot_of rs)))
          (sym same) f.fit;
      below = b;
      end_fits = subst (λ (rs : List Raw). EndFits (layout col) d.before (map (λ r. r.bytes) rs)) (sym same)
          (end_kept (layout col) c.before d.before (map (λ r. r.bytes) c.slots) long f.end_fits);
    }

resliced_slots : (cols : List Column) (cs ds : List RawColumn) → Resliced cs ds → taken_from cols ds ≡ taken_from cols cs
resliced_slots [] cs ds r = refl
resliced_slots (col ∷ cols) [] [] r = refl
resliced_slots (col ∷ cols) [] (d ∷ ds) r = absurd r
resliced_slots (col ∷ cols) (c ∷ cs) [] r = absurd r
resliced_slots (col ∷ cols) (c ∷ cs) (d ∷ ds) r =
    ap₂ {C = List (List Slot)} (λ x y. x ∷ y) (ap (λ (rs : List Raw). map (folded_slot (column_shape col) col.options) (map slot_of rs)) r.0)
    (resliced_slots cols cs ds r.3)

-- so a sheet that differs from an accepted one only in bytes before a first end is accepted, and encoded alike
pub sliced_alike : (list : ColumnList) (n : ℕ) (s t rows offsets : List ℕ) → Bytes s → measure_check list n s ≡ Ok tt → DiffersBefore n (columns list) s t
    → (measure_check list n t ≡ Ok tt) × Alike list n s t rows offsets
sliced_alike list n s t rows offsets b e d =
    let cols : List Column = columns list in
    let m = measured list n s e in
    let fits = resliced_fits n cols (raw_columns n cols s) d.others d.resliced (sheet_raw n cols s b m.1.passes).1 in
    let same = resliced_slots cols (raw_columns n cols s) d.others d.resliced ∙ raws_slots n cols s in
    subst (λ (z : List ℕ). (measure_check list n z ≡ Ok tt) × Alike list n s z rows offsets) (sym d.is)
    (null_slots_free list n s rows offsets d.others e fits same)

-- ---- a cleared sheet, whose floats are folded where their column folds

-- a raw slot that is clear is that of its slot in the cleared sheet
clear_raw : (ly : Layout) (b : Bool) (v : List ℕ) → (b ≡ false → v ≡ cleared ly) → cleared_raw ly (slot_if b v) ≡ record { valid = b; bytes = v }
clear_raw ly true v h = refl
clear_raw ly false v h = ap (λ (x : List ℕ). record { valid = false; bytes = x }) (sym (h refl))

clear_raws : (n : ℕ) (cols : List Column) (s : List ℕ) → IsCleared n cols s → IsFolded n cols s
    → cleared_raws cols (sheet_slots n cols s) ≡ raw_columns n cols s
clear_raws n [] s h f = refl
clear_raws n (col ∷ cols) s h f =
    let ly : Layout = layout col in
    ap₂ {C = List RawColumn} (λ x y. x ∷ y)
    (ap₂ {C = RawColumn} (λ (a : List ℕ) (rs : List Raw). record { before = a; slots = rs }) (sym h.0.starts)
    (ap (map (cleared_raw ly))
    (map_each (folded_slot (column_shape col) col.options) 0 n (slot_at ly n s) ∙ each_same 0 n _ _ (λ i x y. f.0 i (omega arith)))
    ∙ map_each (cleared_raw ly) 0 n (slot_at ly n s)
    ∙ each_same 0 n _ _ (λ i x y. clear_raw ly (bit s i) (value_at ly n (drop (packed n) s) i) (h.0.slots_clear i (omega arith)))))
    (clear_raws n cols (drop (column_bytes ly n s) s) h.1 f.1)

-- a cleared sheet that passes is the cleared sheet of its slots
pub cleared_kept : (n : ℕ) (cols : List Column) (s : List ℕ) → Bytes s → sheet_fault n cols s ≡ Ok tt → IsCleared n cols s → IsFolded n cols s
    → cleared_sheet n cols (sheet_slots n cols s) ≡ s
cleared_kept n cols s b e h f = cleared_raw_lem n cols (sheet_slots n cols s) ∙ ap (raw_sheet n cols) (clear_raws n cols s h f) ∙ (sheet_raw n cols s b e).0

-- so, encoded and decoded, it comes back byte for byte
pub byte_for_byte : (list : ColumnList) (n : ℕ) (sheet rows offsets back : List ℕ) (r : Answer) (back' : List ℕ)
    → CameBack list n sheet rows offsets back r back' → Bytes sheet → encode_check list n sheet (length rows) (length offsets) ≡ Ok tt → IsCleared n (columns list) sheet
    → IsFolded n (columns list) sheet → length sheet ≤ length back
    → (numbers_of r ≡ three 0 (length sheet) (nulls (sheet_slots n (columns list) sheet))) × (back' ≡ over sheet back)
byte_for_byte list n sheet rows offsets back r back' h b e clear folded room =
    let same : cleared_of list n sheet ≡ sheet
    = cleared_kept n (columns list) sheet b (encoded list n sheet (length rows) (length offsets) e).1.passes clear folded in
    let fits = le-ltb (length back) (length sheet) room in
    (h.answers ∙ rw (e, same, fits), h.writes ∙ rw (e, same, fits))
