-- Cursors that stand where the fields of the columns to come start: where they start, and how a column moves them on and
-- takes its bytes off the sheet to come. Assumes nothing.
use Prim.Native.Nat.{ℕ, zero, suc, ◌+◌, ◌-◌, ◌*◌, ◌<◌, ◌≤◌}
use mathlib.Core.Path.{◌≡◌, refl, sym, ap, ap₂, ◌∙◌, subst}
use mathlib.Core.Option.{none}
use mathlib.Core.List.{List, [], ◌∷◌, ◌++◌, map, map-map, tail, append_assoc}
use native.Mathlib.Numerals.{add-one}
use native.Mathlib.Omega.{arith}
use lib.ListN.{length, get_or, take, drop, take-append-drop, drop_of_length-le, length-drop, length-map}
use lib.Seq.{drop-drop, length-take-le, get_or-take}
use Rattle.std.specs.declared.result.Result.TheVariants.{Ok}
use Rattle.format.specs.declared.Column.{Column}
use Rattle.format.specs.Lists.{Bytes, each}
use Rattle.format.specs.Kinds.{Slot, column_shape}
use Rattle.format.specs.Field.{field}
use Rattle.format.specs.Fits.{RowFits}
use Rattle.format.specs.Row.{row}
use Rattle.format.specs.Limits.{max_rows}
use Rattle.format.specs.Sheet.{nulls, nulls_in, slots_in, turned}
use Rattle.format.specs.Cleared.{cleared_sheet}
use Rattle.format.specs.Read.{Parsed, got, Good, slot_read, left_after, read_field, row_fault, row_slots, rows_fault}
use Rattle.format.specs.Entries.{row_bytes, cut_rows, rows_slots}
use Rattle.bits.specs.Ones.{ones_in}
use Rattle.basics.specs.Wrote.{Wrote}
use Rattle.basics.proofs.Append.{Walk, walk_start, walk_more, walk_room}
use Rattle.basics.proofs.Bytes.{bytes_append, bytes_drop, bytes_take}
use Rattle.laws.proofs.Fields.{bytes_row}
use Rattle.laws.proofs.ReadField.{field_read, left_end}
use Rattle.laws.proofs.ReadRow.{passed_row}
use Rattle.basics.proofs.Checks.{both_pass}
use Rattle.basics.proofs.Lists.{Every, every_at, each_is}
use Rattle.laws.proofs.Turned.{turned_tails}
use Rattle.cursors.specs.Cursors.{Readable, cursor_field, cursor_slots, next_at, nexts_at}
use Rattle.flag_packer.specs.Flags.{valid_at, flags_at}
use Rattle.sheet_writer.specs.Writing.{AllFields, Clears, Fields, slots_to_come, values_at}
use Rattle.cursors.proofs.Maps.{at_map, map_same}
use Rattle.sheet_writer.proofs.Parts.{column_is, validity_nulls}
use Rattle.cursors.proofs.Wrotes.{wrote_whole}

-- the slots of the columns to come, from a cursor on
abbrev slots_from : List Column → List ℕ → ℕ → List Slot
slots_from cols rows p = row_slots cols (drop p rows)

-- the sheet of all rows from their cursors on
abbrev sheet_to_come : List Column → List ℕ → List ℕ → List ℕ
sheet_to_come cols rows cursors = cleared_sheet (length cursors) cols (slots_to_come cols rows cursors)

-- a column, validity and values
abbrev pub column_to_come : Column → List ℕ → List ℕ → List ℕ
column_to_come col rows cursors = flags_at (valid_at col rows) cursors ++ values_at col rows cursors

-- ---- a column more

module _ (col : Column) (rows : List ℕ) (b : Bytes rows) where
  -- a cursor moves to what its field leaves
  next_left : (p : ℕ) → Good (cursor_field col rows p) → drop (next_at col rows p) rows ≡ left_after (cursor_field col rows p)
  next_left p g =
      sym (drop-drop (length (drop p rows) - length (left_after (cursor_field col rows p))) p rows)
      ∙ sym (left_end (column_shape col) col.options (drop p rows) (bytes_drop p rows b) g)

  module _ (cols : List Column) (cursors : List ℕ) (h : AllFields (col ∷ cols) rows cursors) where
    columns_next : AllFields cols rows (nexts_at col rows cursors)
    columns_next r l =
        let k : r < length cursors = omega (arith, length-map cursors (next_at col rows)) in
        subst (Fields cols)
        (sym (ap (λ (p : ℕ). drop p rows) (at_map (next_at col rows) cursors r 0 0 k) ∙ next_left (get_or cursors r 0) (h r k).0))
        (h r k).1

    firsts : slots_in (map (slots_from (col ∷ cols) rows) cursors) 0 ≡ cursor_slots col rows cursors
    firsts = map-map (λ (ss : List Slot). get_or ss 0 none) (slots_from (col ∷ cols) rows) cursors

    others : map tail (map (slots_from (col ∷ cols) rows) cursors) ≡ map (slots_from cols rows) (nexts_at col rows cursors)
    others =
        map-map tail (slots_from (col ∷ cols) rows) cursors
        ∙ map_same (λ p. row_slots cols (left_after (cursor_field col rows p))) (λ p. slots_from cols rows (next_at col rows p)) 0 cursors
        (λ i l. ap (row_slots cols) (sym (next_left (get_or cursors i 0) (h i l).0)))
        ∙ sym (map-map (slots_from cols rows) (next_at col rows) cursors)

    -- the column's slots, and those of the others
    slots_next : slots_to_come (col ∷ cols) rows cursors ≡ cursor_slots col rows cursors ∷ slots_to_come cols rows (nexts_at col rows cursors)
    slots_next =
        turned_tails (length cols) (map (slots_from (col ∷ cols) rows) cursors)
        ∙ ap₂ {C = List (List Slot)} (λ (ss : List Slot) (yss : List (List Slot)). ss ∷ turned (length cols) yss) firsts others

    -- the column, and the sheet of the others
    sheet_next : sheet_to_come (col ∷ cols) rows cursors ≡ column_to_come col rows cursors ++ sheet_to_come cols rows (nexts_at col rows cursors)
    sheet_next =
        ap (cleared_sheet (length cursors) (col ∷ cols)) slots_next
        ∙ ap₂ {C = List ℕ} (λ (column : List ℕ) (n : ℕ). column ++ cleared_sheet n cols (slots_to_come cols rows (nexts_at col rows cursors)))
        (sym (column_is col rows cursors)) (sym (length-map cursors (next_at col rows)))

    -- the ones of its validity leave its nulls
    nulls_next : nulls (slots_to_come (col ∷ cols) rows cursors)
        ≡ (length cursors - ones_in (flags_at (valid_at col rows) cursors)) + nulls (slots_to_come cols rows (nexts_at col rows cursors))
    nulls_next =
        let own : nulls_in (cursor_slots col rows cursors) ≡ length cursors - ones_in (flags_at (valid_at col rows) cursors)
        = omega (arith, validity_nulls col rows cursors) in
        ap nulls slots_next ∙ ap (λ (k : ℕ). k + nulls (slots_to_come cols rows (nexts_at col rows cursors))) own

-- ---- the start

-- the fields of a row, with anything after it
row_before : (cols : List Column) (ys : List Slot) (t : List ℕ) → RowFits cols ys → Bytes t
    → Fields cols (row cols ys ++ t) × (row_slots cols (row cols ys ++ t) ≡ ys)
row_before [] [] t h b = (tt, refl)
row_before [] (y ∷ ys) t h b = absurd h
row_before (col ∷ cols) [] t h b = absurd h
row_before (col ∷ cols) (y ∷ ys) t h b =
    let f : List ℕ = field (column_shape col) col.options y in
    let e : read_field (column_shape col) col.options ((f ++ row cols ys) ++ t) ≡ got y (row cols ys ++ t)
    = ap (read_field (column_shape col) col.options) (append_assoc f (row cols ys) t)
    ∙ field_read (column_shape col) col.options y (row cols ys ++ t) h.0 (bytes_append (row cols ys) t (bytes_row cols ys h.1) b) in
    let i = row_before cols ys t h.1 b in (
      subst (λ (p : Parsed Slot). Good p × Fields cols (left_after p)) (sym e) (tt, i.0),
      ap (λ (p : Parsed Slot). slot_read p ∷ row_slots cols (left_after p)) e ∙ ap (λ (l : List Slot). y ∷ l) i.1,
    )

module _ (cols : List Column) (rows offsets : List ℕ) (b : Bytes rows) where
  -- a row that passes, from its offset on
  row_stands : (r : ℕ) → row_fault r (length (row_bytes rows offsets r)) 0 cols (row_bytes rows offsets r) ≡ Ok tt
      → Fields cols (drop (get_or offsets r 0) rows) × (slots_from cols rows (get_or offsets r 0) ≡ row_slots cols (row_bytes rows offsets r))
  row_stands r e =
      let s : List ℕ = drop (get_or offsets r 0) rows in
      let m : ℕ = get_or offsets (suc r) 0 - get_or offsets r 0 in
      let bs : Bytes s = bytes_drop (get_or offsets r 0) rows b in
      let p = passed_row r (length (take m s)) 0 cols (take m s) (bytes_take m s bs) e in
      let q : row cols (row_slots cols (take m s)) ++ drop m s ≡ s = ap (λ (l : List ℕ). l ++ drop m s) p.0 ∙ take-append-drop m s in
      let t = row_before cols (row_slots cols (take m s)) (drop m s) p.1 (bytes_drop m s bs) in
      (subst (Fields cols) q t.0, ap (row_slots cols) (sym q) ∙ t.1)

  rows_stand : (i k : ℕ) → rows_fault i cols (each i k (row_bytes rows offsets)) ≡ Ok tt
      → Every (λ p. Fields cols (drop p rows)) (each i k (λ r. get_or offsets r 0))
      × (map (slots_from cols rows) (each i k (λ r. get_or offsets r 0)) ≡ map (row_slots cols) (each i k (row_bytes rows offsets)))
  rows_stand i zero e = (tt, refl)
  rows_stand i (suc k) e =
      let p = both_pass (row_fault i (length (row_bytes rows offsets i)) 0 cols (row_bytes rows offsets i)) _ e in
      let now = row_stands i p.0 in
      let later = rows_stand (suc i) k p.1 in
      ((now.0, later.0), ap₂ {C = List (List Slot)} (λ x y. x ∷ y) now.1 later.1)

  module _ (n : ℕ) (there : n ≤ length offsets) (passes : rows_fault 0 cols (cut_rows n rows offsets) ≡ Ok tt) where
    firsts_are : each 0 n (λ r. get_or offsets r 0) ≡ take n offsets
    firsts_are = each_is (take n offsets) 0 n (λ r. get_or offsets r 0) (length-take-le n offsets there) (λ i l. sym (get_or-take n offsets i 0 l))

    -- at the offsets the rows' fields start
    pub start_fields : AllFields cols rows (take n offsets)
    start_fields r l =
        every_at (λ p. Fields cols (drop p rows)) (take n offsets) 0 r
        (subst (Every (λ p. Fields cols (drop p rows))) firsts_are (rows_stand 0 n passes).0) l

    -- and the slots to come are all
    pub start_slots : slots_to_come cols rows (take n offsets) ≡ rows_slots cols (cut_rows n rows offsets)
    start_slots = ap (turned (length cols)) (ap (map (slots_from cols rows)) (sym firsts_are) ∙ (rows_stand 0 n passes).1)

-- ---- the walk over the columns

-- before column c: the columns before it are written and their null slots counted, and the cursors stand at its fields
pub record Standing (cols : List Column) (rows cursors₀ out₀ cursors out : List ℕ) (empty at c : ℕ) : Type 0 where
  pub within : c ≤ length cols
  pub many : length cursors ≡ length cursors₀
  pub fields : AllFields (drop c cols) rows cursors
  pub wrote : Walk (sheet_to_come cols rows cursors₀) (sheet_to_come (drop c cols) rows cursors) out₀ 0 out at
  pub counted : empty + nulls (slots_to_come (drop c cols) rows cursors) ≡ nulls (slots_to_come cols rows cursors₀)
  pub few : empty ≤ max_rows * c

pub stand_first : (cols : List Column) (rows cursors out : List ℕ) → AllFields cols rows cursors → Standing cols rows cursors out cursors out 0 0 0
stand_first cols rows cursors out h = record {
  within = omega arith;
  many = refl;
  fields = h;
  wrote = walk_start (sheet_to_come cols rows cursors) out 0;
  counted = omega arith;
  few = omega arith;
}

module _ {cols : List Column} {rows cursors₀ out₀ cursors out : List ℕ} {empty at c : ℕ}
    (t : Standing cols rows cursors₀ out₀ cursors out empty at c) where
  -- no column is left
  pub stand_end : length cols ≤ c
      → Clears (length cursors₀) cols (slots_to_come cols rows cursors₀) out₀ out (record { bytes = at; nulls = empty })
  stand_end h =
      let none : drop c cols ≡ [] = drop_of_length-le cols {i = c} h in
      record {
        wrote = wrote_whole t.wrote (ap (λ (cs : List Column). sheet_to_come cs rows cursors) none);
        empty = omega (arith, t.counted, ap (λ (cs : List Column). nulls (slots_to_come cs rows cursors)) none);
      }

  module _ (b : Bytes rows) (col : Column) (next : drop c cols ≡ col ∷ drop (suc c) cols) where
    abbrev rest : List Column
    rest = drop (suc c) cols

    here : AllFields (col ∷ rest) rows cursors
    here = subst (λ (cs : List Column). AllFields cs rows cursors) next t.fields

    left : sheet_to_come (drop c cols) rows cursors ≡ column_to_come col rows cursors ++ sheet_to_come rest rows (nexts_at col rows cursors)
    left = ap (λ (cs : List Column). sheet_to_come cs rows cursors) next ∙ sheet_next col rows b rest cursors here

    -- a field of column c can be read at each cursor, and there is room for the column
    pub stand_here : Readable col rows cursors
    stand_here r l = (here r l).0

    pub stand_room : length (sheet_to_come cols rows cursors₀) ≤ length out₀ → at + length (column_to_come col rows cursors) ≤ length out
    stand_room fits = walk_room t.wrote (column_to_come col rows cursors) (sheet_to_come rest rows (nexts_at col rows cursors)) left (omega arith)

    -- which is written, its nulls counted, and the cursors moved
    pub stand_more : length cursors₀ ≤ max_rows → {out' cursors' : List ℕ} {at' : ℕ} → Wrote (column_to_come col rows cursors) at out out' at'
        → cursors' ≡ nexts_at col rows cursors → (ones : ℕ) → ones ≡ ones_in (flags_at (valid_at col rows) cursors)
        → Standing cols rows cursors₀ out₀ cursors' out' (empty + (length cursors₀ - ones)) at' (c + 1)
    stand_more most w e ones k = rw (add-one, w.place, w.bytes, e, k) (record {
      within = omega (arith, ap length next, length-drop c cols);
      many = length-map cursors (next_at col rows) ∙ t.many;
      fields = columns_next col rows b rest cursors here;
      wrote = walk_more t.wrote (column_to_come col rows cursors) (sheet_to_come rest rows (nexts_at col rows cursors)) left;
      counted =
          omega (arith, t.counted, t.many, ap (λ (cs : List Column). nulls (slots_to_come cs rows cursors)) next, nulls_next col rows b rest cursors here);
      few = omega (arith, t.few, t.many);
    })
