-- What encode and decode accept: the checks of the entries, put together and taken apart. Assumes nothing.
use Prim.Native.Nat.{ℕ, ◌≤◌}
use mathlib.Core.Path.{◌≡◌, refl, ◌∙◌}
use mathlib.Core.List.{List}
use lib.Dec.{ltb}
use lib.ListN.{length}
use Rattle.format.specs.Check.{Check, both, fail_if}
use Rattle.std.specs.declared.result.Result.TheVariants.{Err, Ok}
use Rattle.format.specs.declared.Refusal.{Refusal}
use Rattle.format.specs.declared.Refusal.TheVariants.{RowRoom, SheetRoom}
use Rattle.format.specs.declared.Column.{Column}
use Rattle.format.specs.Limits.{max_rows, max_total}
use Rattle.format.specs.Described.{ColumnList, list_fault, columns}
use Rattle.format.specs.Sheet.{sheet_fault}
use Rattle.format.specs.Read.{rows_fault}
use Rattle.format.specs.Entries.{answer, row_count_fault, sheet_total, measure_check, encode_check, offset_room_fault, offsets_fault, cut_rows, decoded_sheet, decode_check}
use Rattle.format.specs.Passed.{Cuts}
use Rattle.basics.proofs.Checks.{enough, pass_enough, both_pass, pass_both}
use Rattle.laws.proofs.Cuts.{offsets_passed}
use Rattle.demands.proofs.CutRows.{cuts_pass}
use Rattle.laws.proofs.Accept.{Accepted}

-- accepted rows: decode, with room enough, does not refuse them
pub record AcceptedRows (cols : List Column) (n : ℕ) (bytes offsets : List ℕ) : Type 0 where
  pub few : n ≤ max_rows
  pub cuts : Cuts n bytes offsets
  pub passes : rows_fault 0 cols (cut_rows n bytes offsets) ≡ Ok tt

-- an answer that refuses is that of a check that does
pub answer_refused : (k : Check) (a b : ℕ) {x : Refusal} → answer k a b ≡ Err x → k ≡ Err x
answer_refused (Ok tt) a b e = cc
answer_refused (Err y) a b e = cc

-- after a check that passes comes the next
next : (x y : Check) → x ≡ Ok tt → both x y ≡ y
next x y e = rw e

-- ---- measure and encode
pub measure_pass : (list : ColumnList) (n : ℕ) (sheet : List ℕ) → list_fault list ≡ Ok tt → Accepted (columns list) n sheet → measure_check list n sheet ≡ Ok tt
unfolding measure_check
measure_pass list n sheet l a =
    pass_both (list_fault list) _ l
    (pass_both (row_count_fault n) _ (pass_enough max_rows n _ _ a.few refl)
    (pass_both (sheet_fault n (columns list) sheet) _ a.passes
    (pass_enough max_total (sheet_total n (columns list) sheet) _ _ a.small refl)))

-- of an accepted sheet, encode refuses nothing but 13 and 14
pub encode_room : (list : ColumnList) (n : ℕ) (sheet : List ℕ) (row_room offset_room : ℕ) → list_fault list ≡ Ok tt → Accepted (columns list) n sheet
    → encode_check list n sheet row_room offset_room
    ≡ fail_if (ltb row_room (sheet_total n (columns list) sheet)) (RowRoom (sheet_total n (columns list) sheet)) (offset_room_fault n offset_room)
unfolding encode_check
encode_room list n sheet row_room offset_room l a = next (measure_check list n sheet) _ (measure_pass list n sheet l a)

-- ---- decode
pub decoded : (list : ColumnList) (n : ℕ) (bytes offsets : List ℕ) (room : ℕ) → decode_check list n bytes offsets room ≡ Ok tt
    → (list_fault list ≡ Ok tt) × AcceptedRows (columns list) n bytes offsets
unfolding decode_check
decoded list n bytes offsets room e =
    let p = both_pass (list_fault list) _ e in
    let q = both_pass (row_count_fault n) _ p.1 in
    let r = both_pass (offsets_fault n bytes offsets) _ q.1 in
    let s = both_pass (rows_fault 0 (columns list) (cut_rows n bytes offsets)) _ r.1 in
    (p.0, record { few = (enough max_rows n _ _ q.0).0; cuts = offsets_passed n bytes offsets r.0; passes = s.0 })

-- of accepted rows, decode refuses nothing but 24
pub decode_room : (list : ColumnList) (n : ℕ) (bytes offsets : List ℕ) (room : ℕ) → list_fault list ≡ Ok tt → AcceptedRows (columns list) n bytes offsets
    → decode_check list n bytes offsets room
    ≡ fail_if (ltb room (length (decoded_sheet n (columns list) (cut_rows n bytes offsets))))
    (SheetRoom (length (decoded_sheet n (columns list) (cut_rows n bytes offsets))))
    (Ok tt)
unfolding decode_check
decode_room list n bytes offsets room l r =
    next (list_fault list) _ l
    ∙ next (row_count_fault n) _ (pass_enough max_rows n _ _ r.few refl)
    ∙ next (offsets_fault n bytes offsets) _ (cuts_pass n bytes offsets r.cuts)
    ∙ next (rows_fault 0 (columns list) (cut_rows n bytes offsets)) _ r.passes
