-- Demand 2, on the definitions that the entries promise: what encode wrote is decoded to the cleared sheet; what decode wrote is
-- encoded to the same rows and offsets; sheets that differ only in null slots are encoded alike; a row is refused by its content
-- exactly when no values within the limits have its bytes. Assumes nothing.
use Prim.Native.Nat.{ℕ, ◌+◌, ◌<◌}
use mathlib.Core.Path.{◌≡◌, refl, ap, sym, subst, ◌∙◌}
use mathlib.Core.Bool.{true}
use mathlib.Core.List.{List, []}
use native.Mathlib.Omega.{arith}
use lib.Dec.{ltb}
use lib.ListN.{length, get_or, drop}
use Rattle.std.specs.declared.result.Result.TheVariants.{Err, Ok}
use Rattle.format.specs.Check.{Check, both, fail_if}
use Rattle.format.specs.declared.Refusal.{Refusal}
use Rattle.format.specs.declared.Refusal.TheVariants.{Row, RowRoom, SheetRoom}
use Rattle.format.specs.declared.RowFault.{RowFault}
use Rattle.format.specs.declared.Column.{Column}
use Rattle.format.specs.Lists.{Bytes, ends_from, joined}
use Rattle.format.specs.Described.{ColumnList, list_fault, columns}
use Rattle.format.specs.Sheet.{sheet_slots, nulls}
use Rattle.format.specs.Cleared.{cleared_sheet}
use Rattle.format.specs.Read.{row_slots, rows_fault}
use Rattle.format.specs.Entries.{row_count_fault, offset_room_fault, offsets_fault, row_bytes, rows_slots, decode_check, sheet_rows, sheet_total, measure_check, encode_check, encode_answer, encode_rows, encode_offsets, cut_rows, decoded_sheet, decode_answer, decode_sheet}
use Rattle.format.specs.Fits.{HasValues}
use Rattle.format.specs.Numbers.{by_content}
use Rattle.basics.proofs.Checks.{refuse_pass}
use Rattle.basics.proofs.Lists.{each_at, every_at, length_each}
use Rattle.laws.proofs.Cuts.{cut_bytes}
use Rattle.laws.proofs.ReadRow.{rows_passed}
use Rattle.laws.proofs.Accept.{Accepted, measured, encoded, encode_rows_lem, encode_offsets_lem}
use Rattle.demands.proofs.Exact.{row_content, Outer, outer_if, outer_no, outer_list, outer_count, outer_offsets, past_outer, rows_refused, rows_valued, row_valued}
use Rattle.demands.proofs.RowsBack.{written_accepted, slots_back, cleared_same, cleared_accepted, out_slots, out_joined, out_total, out_ends, out_accepted}
use Rattle.demands.specs.RoundTrip.{cleared_of, CameBack, CameAgain, Alike}
use Rattle.demands.proofs.Accept.{AcceptedRows, measure_pass, encode_room, decoded, decode_room, answer_refused}

-- ---- what encode wrote, decoded: the cleared sheet of the same slots, and the same null total
module _ (list : ColumnList) (n : ℕ) (sheet rows offsets back : List ℕ) where
  abbrev cols : List Column
  cols = columns list

  abbrev rows' : List ℕ
  rows' = encode_rows list n sheet rows (length offsets)

  abbrev offsets' : List ℕ
  offsets' = encode_offsets list n sheet (length rows) offsets

  -- what encode refuses is not decoded
  pub refused_back : (x : Refusal) → encode_check list n sheet (length rows) (length offsets) ≡ Err x
      → CameBack list n sheet rows offsets back (Err x) back
  refused_back x e = record { answers = rw e; writes = rw e; same_slots = λ p. absurd (refuse_pass (sym e ∙ p)) }

  module _ (b : Bytes sheet) (e : encode_check list n sheet (length rows) (length offsets) ≡ Ok tt) where
    abbrev rs : List (List ℕ)
    rs = sheet_rows n cols sheet

    abbrev rowsLeft : List ℕ
    rowsLeft = drop (length (joined rs)) rows

    abbrev offsetsLeft : List ℕ
    offsetsLeft = drop (length (ends_from 0 rs)) offsets

    accepted : (list_fault list ≡ Ok tt) × Accepted cols n sheet
    accepted = encoded list n sheet (length rows) (length offsets) e

    accepted_rows : AcceptedRows cols n rows' offsets'
    accepted_rows = rw (encode_rows_lem list n sheet rows offsets e, encode_offsets_lem list n sheet rows offsets e)
        (written_accepted cols n sheet rowsLeft offsetsLeft b accepted.1)

    slots_are : rows_slots cols (cut_rows n rows' offsets') ≡ sheet_slots n cols sheet
    slots_are = rw (encode_rows_lem list n sheet rows offsets e, encode_offsets_lem list n sheet rows offsets e)
        (slots_back cols n sheet rowsLeft offsetsLeft b accepted.1)

    room : decode_check list n rows' offsets' (length back)
        ≡ fail_if (ltb (length back) (length (cleared_of list n sheet))) (SheetRoom (length (cleared_of list n sheet))) (Ok tt)
    room =
        decode_room list n rows' offsets' (length back) accepted.0 accepted_rows
        ∙ ap (λ (z : List ℕ). fail_if (ltb (length back) (length z)) (SheetRoom (length z)) (Ok tt)) (ap (cleared_sheet n cols) slots_are)

    pub encoded_back : CameBack list n sheet rows offsets back (decode_answer list n rows' offsets' (length back)) (decode_sheet list n rows' offsets' back)
    unfolding decode_answer decode_sheet
    encoded_back = record {
      answers = rw (room, slots_are, e);
      writes = rw (room, slots_are, e);
      same_slots = λ p. cleared_same cols n sheet b accepted.1;
    }

-- ---- what decode wrote, encoded: the same rows and offsets, and the same null total
module _ (list : ColumnList) (n : ℕ) (rows offsets sheet rows₂ offsets₂ : List ℕ) where
  -- what decode refuses is not encoded
  pub refused_again : (x : Refusal) → decode_check list n rows offsets (length sheet) ≡ Err x
      → CameAgain list n rows offsets sheet rows₂ offsets₂ (Err x) rows₂ offsets₂
  refused_again x e = record { answers = rw e; row_bytes = rw e; row_ends = rw e }

  module _ (b : Bytes rows) (e : decode_check list n rows offsets (length sheet) ≡ Ok tt) where
    abbrev out : List ℕ
    out = decoded_sheet n (columns list) (cut_rows n rows offsets)

    passed : (list_fault list ≡ Ok tt) × AcceptedRows (columns list) n rows offsets
    passed = decoded list n rows offsets (length sheet) e

    total : sheet_total n (columns list) out ≡ get_or offsets n 0
    total = out_total (columns list) n rows offsets b passed.1

    again : encode_check list n out (length rows₂) (length offsets₂)
        ≡ fail_if (ltb (length rows₂) (get_or offsets n 0)) (RowRoom (get_or offsets n 0)) (offset_room_fault n (length offsets₂))
    again =
        encode_room list n out (length rows₂) (length offsets₂) passed.0 (out_accepted (columns list) n rows offsets b passed.1)
        ∙ ap (λ (k : ℕ). fail_if (ltb (length rows₂) k) (RowRoom k) (offset_room_fault n (length offsets₂))) total

    pub decoded_again : CameAgain list n rows offsets sheet rows₂ offsets₂ (encode_answer list n out (length rows₂) (length offsets₂))
        (encode_rows list n out rows₂ (length offsets₂)) (encode_offsets list n out (length rows₂) offsets₂)
    unfolding encode_answer encode_rows encode_offsets
    decoded_again = record {
      answers = rw (again, total, out_slots (columns list) n rows offsets b passed.1, e);
      row_bytes = rw (again, out_joined (columns list) n rows offsets b passed.1, e);
      row_ends = rw (again, out_ends (columns list) n rows offsets b passed.1, e);
    }

-- ---- accepted sheets that differ only in null slots, and so have equal slots, are encoded alike
pub same_slots_alike : (list : ColumnList) (n : ℕ) (s t rows offsets : List ℕ) → measure_check list n s ≡ Ok tt → measure_check list n t ≡ Ok tt
    → sheet_slots n (columns list) s ≡ sheet_slots n (columns list) t → Alike list n s t rows offsets
unfolding encode_check encode_answer encode_rows encode_offsets
same_slots_alike list n s t rows offsets p q e = record {
  answers = rw (p, q, e);
  row_bytes = rw (p, q, e);
  row_ends = rw (p, q, e);
}

-- so are an accepted sheet and its cleared sheet
pub cleared_alike : (list : ColumnList) (n : ℕ) (sheet rows offsets : List ℕ) → Bytes sheet → measure_check list n sheet ≡ Ok tt
    → Alike list n sheet (cleared_of list n sheet) rows offsets
cleared_alike list n sheet rows offsets b e =
    let l = measured list n sheet e in
    let cols : List Column = columns list in
    let z : List ℕ = cleared_of list n sheet in
    same_slots_alike list n sheet z rows offsets e (measure_pass list n z l.0 (cleared_accepted cols n sheet b l.1))
    (sym (cleared_same cols n sheet b l.1))

-- ---- a row is refused by its content exactly when no values within the limits have its bytes
module _ (list : ColumnList) (n : ℕ) (bytes offsets : List ℕ) (room : ℕ) where
  pub cut : (r : ℕ) → r < n → get_or (cut_rows n bytes offsets) r [] ≡ row_bytes bytes offsets r
  cut r l = each_at n (row_bytes bytes offsets) [] r l

  -- what decode refuses by content was refused by its rows: nothing before them refuses so, nor does 24
  pub by_rows : {x : Refusal} → by_content x ≡ true → decode_answer list n bytes offsets room ≡ Err x
      → rows_fault 0 (columns list) (cut_rows n bytes offsets) ≡ Err x
  unfolding decode_answer decode_check
  by_rows {x} t e =
      let cols : List Column = columns list in
      let rows : List (List ℕ) = cut_rows n bytes offsets in
      let k = answer_refused (decode_check list n bytes offsets room) (length (decoded_sheet n cols rows)) (nulls (rows_slots cols rows)) e in
      first (rows_fault 0 cols rows) _ (outer_room (decoded_sheet n cols rows))
      (past_outer (offsets_fault n bytes offsets) _ (outer_offsets n bytes offsets) t
      (past_outer (row_count_fault n) _ (outer_count n) t (past_outer (list_fault list) _ (outer_list list) t k)))
    where
      outer_room : (sheet : List ℕ) → Outer (fail_if (ltb room (length sheet)) (SheetRoom (length sheet)) (Ok tt))
      outer_room sheet = outer_if (ltb room (length sheet)) _ _ refl tt

      first : (c d : Check) → Outer d → both c d ≡ Err x → c ≡ Err x
      first (Ok tt) d h e = absurd (outer_no d h t e)
      first (Err y) d h e = e

  -- a refusal by content names the first row that no values have
  pub content_refused : (f : RowFault) (r c place : ℕ) → Bytes bytes → decode_answer list n bytes offsets room ≡ Err (Row f r c place)
      → (r < n) × (HasValues (columns list) (row_bytes bytes offsets r) → ⊥) × ((i : ℕ) → i < r → HasValues (columns list) (row_bytes bytes offsets i))
  content_refused f r c place b e =
      let t = rows_refused (columns list) (cut_rows n bytes offsets) 0 (Row f r c place) (by_rows (row_content f r c place) e) in
      let is : t.j ≡ r = same t.names in
      let l : r < n = omega (arith, t.here, length_each 0 n (row_bytes bytes offsets)) in (
        l,
        λ v. t.none (subst (HasValues (columns list)) (sym (cut r l) ∙ ap (λ (i : ℕ). get_or (cut_rows n bytes offsets) i []) (sym is)) v),
        λ i m.
            let k : i < n = omega arith in
            subst (HasValues (columns list)) (cut i k)
            (t.before i (omega arith) (every_at Bytes (cut_rows n bytes offsets) [] i (cut_bytes n bytes offsets b)
            (omega (arith, length_each 0 n (row_bytes bytes offsets))))),
      )
    where
      same : {g : RowFault} {j d p : ℕ} → Row f r c place ≡ Row g (0 + j) d p → j ≡ r
      same {g} {j} {d} {p} h = let z : r ≡ 0 + j = cc in omega arith

  -- where every row has values, nothing is refused by content
  pub content_accepted : ((r : ℕ) → r < n → HasValues (columns list) (row_bytes bytes offsets r)) → {x : Refusal} → by_content x ≡ true
      → decode_answer list n bytes offsets room ≡ Err x → ⊥
  content_accepted h t e =
      refuse_pass (sym (by_rows t e)
      ∙ rows_valued (columns list) (cut_rows n bytes offsets) 0
      (λ i l.
      let k : i < n = omega (arith, length_each 0 n (row_bytes bytes offsets)) in
      subst (HasValues (columns list)) (sym (cut i k)) (h i k)))

  -- and where some row has none, and nothing before the rows is refused, decode refuses by content
  pub content_needed : Bytes bytes → list_fault list ≡ Ok tt → row_count_fault n ≡ Ok tt → offsets_fault n bytes offsets ≡ Ok tt
      → (r : ℕ) → r < n → (HasValues (columns list) (row_bytes bytes offsets r) → ⊥)
      → (x : Refusal) × (by_content x ≡ true) × (decode_answer list n bytes offsets room ≡ Err x)
  unfolding decode_answer decode_check
  content_needed b p q o r l never = go (rows_fault 0 (columns list) (cut_rows n bytes offsets)) refl
    where
      go : (k : Check) → rows_fault 0 (columns list) (cut_rows n bytes offsets) ≡ k
          → (x : Refusal) × (by_content x ≡ true) × (decode_answer list n bytes offsets room ≡ Err x)
      go (Ok tt) e =
          let t = rows_passed 0 (columns list) (cut_rows n bytes offsets) (cut_bytes n bytes offsets b) e in
          let cols : List Column = columns list in
          let rs : List (List ℕ) = cut_rows n bytes offsets in
          let long : length rs ≡ n = length_each 0 n (row_bytes bytes offsets) in
          let v = row_valued cols rs t.0 t.1 r (omega arith) in
          absurd (never (subst (HasValues cols) (cut r l) (record { values = row_slots cols (get_or rs r []); fit = v.0; spell = v.1 })))
      go (Err x) e =
          let t = rows_refused (columns list) (cut_rows n bytes offsets) 0 x e in
          (x, ap by_content t.names ∙ row_content t.fault (0 + t.j) t.column t.place, rw (p, q, o, e))
