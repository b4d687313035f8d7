-- What encode accepts, and what encode and decode answer and write where they refuse nothing. Assumes nothing.
use Prim.Native.Nat.{ℕ, ◌≤◌}
use mathlib.Core.Path.{◌≡◌}
use mathlib.Core.List.{List}
use lib.ListN.{length}
use Rattle.std.specs.declared.result.Result.TheVariants.{Ok}
use Rattle.format.specs.declared.Column.{Column}
use Rattle.format.specs.Limits.{max_rows, max_total}
use Rattle.format.specs.Lists.{ends_from, joined, over}
use Rattle.format.specs.Described.{ColumnList, list_fault, columns}
use Rattle.format.specs.Sheet.{sheet_fault, sheet_slots, nulls}
use Rattle.format.specs.Entries.{row_count_fault, sheet_rows, sheet_total, measure_check, encode_check, encode_answer, encode_rows, encode_offsets, cut_rows, rows_slots, decoded_sheet, decode_check, decode_answer, decode_sheet}
use Rattle.basics.proofs.Checks.{enough, both_pass, answer_done}

-- an accepted sheet: encode, with room enough, does not refuse it
pub record Accepted (cols : List Column) (n : ℕ) (sheet : List ℕ) : Type 0 where
  pub few : n ≤ max_rows
  pub passes : sheet_fault n cols sheet ≡ Ok tt
  pub small : sheet_total n cols sheet ≤ max_total

pub measured : (list : ColumnList) (n : ℕ) (sheet : List ℕ) → measure_check list n sheet ≡ Ok tt → (list_fault list ≡ Ok tt) × Accepted (columns list) n sheet
unfolding measure_check
measured list n sheet e =
    let p = both_pass (list_fault list) _ e in
    let q = both_pass (row_count_fault n) _ p.1 in
    let r = both_pass (sheet_fault n (columns list) sheet) _ q.1 in
    (p.0, record { few = (enough max_rows n _ _ q.0).0; passes = r.0; small = (enough max_total (sheet_total n (columns list) sheet) _ _ r.1).0 })

pub encoded : (list : ColumnList) (n : ℕ) (sheet : List ℕ) (row_room offset_room : ℕ) → encode_check list n sheet row_room offset_room ≡ Ok tt
    → (list_fault list ≡ Ok tt) × Accepted (columns list) n sheet
unfolding encode_check
encoded list n sheet row_room offset_room e = measured list n sheet (both_pass (measure_check list n sheet) _ e).0

-- ---- what the entries answer and write where they refuse nothing
module _ (list : ColumnList) (n : ℕ) (sheet rows offsets : List ℕ) (e : encode_check list n sheet (length rows) (length offsets) ≡ Ok tt) where
  pub encode_rows_lem : encode_rows list n sheet rows (length offsets) ≡ over (joined (sheet_rows n (columns list) sheet)) rows
  unfolding encode_rows
  encode_rows_lem = rw e

  pub encode_offsets_lem : encode_offsets list n sheet (length rows) offsets ≡ over (ends_from 0 (sheet_rows n (columns list) sheet)) offsets
  unfolding encode_offsets
  encode_offsets_lem = rw e

module _ (list : ColumnList) (n : ℕ) (bytes offsets sheet : List ℕ) (e : decode_check list n bytes offsets (length sheet) ≡ Ok tt) where
  pub decode_answers : decode_answer list n bytes offsets (length sheet)
      ≡ Ok (length (decoded_sheet n (columns list) (cut_rows n bytes offsets)), nulls (rows_slots (columns list) (cut_rows n bytes offsets)))
  unfolding decode_answer
  decode_answers = rw e

  pub decode_writes : decode_sheet list n bytes offsets sheet ≡ over (decoded_sheet n (columns list) (cut_rows n bytes offsets)) sheet
  unfolding decode_sheet
  decode_writes = rw e

-- ---- an answer that is no refusal
pub encode_done : (list : ColumnList) (n : ℕ) (sheet : List ℕ) (row_room offset_room a b : ℕ) → encode_answer list n sheet row_room offset_room ≡ Ok (a, b)
    → (encode_check list n sheet row_room offset_room ≡ Ok tt) × (sheet_total n (columns list) sheet ≡ a) × (nulls (sheet_slots n (columns list) sheet) ≡ b)
unfolding encode_answer
encode_done list n sheet row_room offset_room a b e = answer_done (encode_check list n sheet row_room offset_room) _ _ a b e
