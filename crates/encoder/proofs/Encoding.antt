-- What `encode` answers and leaves in the buffers: where list, 6 or sheet refuses, and where 12, 13 and 14 are asked. Assumes nothing.
use Prim.Native.Nat.{ℕ, suc, ◌<◌, ◌≤◌}
use mathlib.Core.Path.{◌≡◌, refl, sym, ap, ◌∙◌}
use mathlib.Core.List.{List}
use native.Mathlib.Omega.{arith}
use lib.ListN.{length, length-map}
use lib.Seq.{sets}
use Rattle.format.specs.declared.Refusal.{Refusal}
use Rattle.format.specs.declared.Refusal.TheVariants.{RowRoom, OffsetRoom}
use Rattle.format.specs.Check.{both, verdict}
use Rattle.std.specs.declared.result.Result.{Result}
use Rattle.std.specs.declared.result.Result.TheVariants.{Ok, Err}
use Rattle.format.specs.declared.Column.{Column}
use Rattle.format.specs.Lists.{joined, ends_from}
use Rattle.format.specs.Described.{ColumnList, columns}
use Rattle.format.specs.Schemas.{cols_of}
use Rattle.format.specs.Row.{row}
use Rattle.format.specs.Sheet.{sheet_slots, turned}
use Rattle.format.specs.Entries.{sheet_rows, sheet_total, total_fault, offset_room_fault, encode_check, encode_answer, encode_rows, encode_offsets}
use Rattle.format.specs.Promises.{Encoded}
use Rattle.basics.proofs.Append.{over_sets}
use Rattle.basics.proofs.Checks.{enough}
use Rattle.basics.proofs.Lists.{length_each, length_ends}
use Rattle.measurer.specs.declared.Measuring.{Measuring}
use Rattle.measurer.specs.Measuring.{batch_check, Measures}
use Rattle.measurer.proofs.Batches.{batch_first}
use Rattle.room_checks.specs.Room.{room_fault}
use Rattle.checks.proofs.Begun.{both_grouped}

-- a sheet of n rows gives n of them
rows_many : (n : ℕ) (cols : List Column) (sheet : List ℕ) → length (sheet_rows n cols sheet) ≡ n
rows_many n cols sheet = length-map (turned n (sheet_slots n cols sheet)) (row cols) ∙ length_each 0 n _

-- what 13 and 14 leave
pub room_passed : (total row_room n offset_room : ℕ) → room_fault total row_room n offset_room ≡ Ok tt → (total ≤ row_room) × (n < offset_room)
room_passed total row_room n offset_room e =
    let p = enough row_room total (RowRoom total) (offset_room_fault n offset_room) e in
    let q = enough offset_room (suc n) (OffsetRoom (suc n)) (Ok tt) p.1 in
    (p.0, omega (arith, q.0))

-- ---- what is answered and left in the buffers
module _ (list : ColumnList) (n : ℕ) (sheet rows offsets : List ℕ) (r : Result Measuring Refusal) (h : Measures list n sheet r) where
  -- a refusal writes nothing
  refused : (x : Refusal) → encode_check list n sheet (length rows) (length offsets) ≡ Err x → Encoded list n sheet rows offsets (Err x) rows offsets
  unfolding encode_answer encode_rows encode_offsets
  refused x e = record { answers = rw e; row_bytes = rw e; row_ends = rw e }

  -- list, 6 and sheet, then 12, 13 and 14
  checks : encode_check list n sheet (length rows) (length offsets)
      ≡ both (verdict r) (both (total_fault (sheet_total n (columns list) sheet)) (room_fault (sheet_total n (columns list) sheet) (length rows) n (length offsets)))
  unfolding encode_check
  checks = rw (h.check, batch_first list n sheet) (sym (both_grouped (batch_check list n sheet) _ _))

  pub bad_batch : (x : Refusal) → r ≡ Err x → Encoded list n sheet rows offsets (Err x) rows offsets
  bad_batch x e = refused x (checks ∙ rw e)

  module _ (m : Measuring) (e : r ≡ Ok m) where
    asked : encode_check list n sheet (length rows) (length offsets) ≡ both (total_fault m.total) (room_fault m.total (length rows) n (length offsets))
    asked = checks ∙ rw (e, (h.found m e).total) refl

    -- 12
    pub heavy : (x : Refusal) → total_fault m.total ≡ Err x → Encoded list n sheet rows offsets (Err x) rows offsets
    heavy x t = refused x (asked ∙ rw t)

    module _ (t : total_fault m.total ≡ Ok tt) where
      -- 13, 14
      pub short : (x : Refusal) → room_fault m.total (length rows) n (length offsets) ≡ Err x → Encoded list n sheet rows offsets (Err x) rows offsets
      short x p = refused x (asked ∙ rw (t, p))

      module _ (p : room_fault m.total (length rows) n (length offsets) ≡ Ok tt) where
        -- the rows have room
        pub fits : sheet_total n (cols_of m.schema) sheet ≤ length rows
        fits = rw ((h.found m e).sound.cols, ← (h.found m e).total) (room_passed m.total (length rows) n (length offsets) p).0

        -- and so do the offsets
        pub ends_fit : n < length offsets
        ends_fit = (room_passed m.total (length rows) n (length offsets) p).1

        -- none of them: what is written goes in front
        pub written : (rows' offsets' : List ℕ) → rows' ≡ sets rows 0 (joined (sheet_rows n (cols_of m.schema) sheet))
            → offsets' ≡ sets offsets 0 (ends_from 0 (sheet_rows n (cols_of m.schema) sheet))
            → Encoded list n sheet rows offsets (Ok (m.total, m.sheeted.nulls)) rows' offsets'
        unfolding encode_answer encode_rows encode_offsets
        written rows' offsets' v w =
            let cols = cols_of m.schema in
            let ends = ends_from 0 (sheet_rows n cols sheet) in
            let passes : encode_check list n sheet (length rows) (length offsets) ≡ Ok tt = asked ∙ rw (t, p) in
            let long : length ends ≤ length offsets = omega (arith, ends_fit, length_ends 0 (sheet_rows n cols sheet), rows_many n cols sheet) in
            record {
              answers = rw (passes, (h.found m e).total, (h.found m e).nulls) refl;
              row_bytes = v ∙ sym (over_sets (joined (sheet_rows n cols sheet)) rows fits) ∙ rw (passes, (h.found m e).sound.cols) refl;
              row_ends = w ∙ sym (over_sets ends offsets long) ∙ rw (passes, (h.found m e).sound.cols) refl;
            }
