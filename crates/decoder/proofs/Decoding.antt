-- The ways out of `decode_listed`: what each answers and leaves in the buffer. Assumes nothing.
use Prim.Native.Nat.{ℕ}
use mathlib.Core.Path.{◌≡◌, refl, sym, ap, ◌∙◌}
use mathlib.Core.List.{List}
use lib.ListN.{length}
use native.Mathlib.Omega.{arith}
use Rattle.format.specs.declared.Refusal.{Refusal}
use Rattle.format.specs.declared.Refusal.TheVariants.{SheetRoom}
use Rattle.format.specs.Check.{both, verdict}
use Rattle.std.specs.declared.result.Result.TheVariants.{Ok, Err}
use Rattle.std.specs.declared.result.Result.{Result}
use Rattle.format.specs.declared.Column.{Column}
use Rattle.format.specs.declared.Schema.{Schema}
use Rattle.format.specs.Described.{ColumnList, list_fault, columns}
use Rattle.format.specs.Schemas.{cols_of}
use Rattle.format.specs.Read.{rows_fault}
use Rattle.format.specs.Entries.{row_count_fault, offsets_fault, cut_rows, rows_slots, decoded_sheet, decode_check, decode_answer, decode_sheet}
use Rattle.format.specs.Numbers.{numbers_of}
use Rattle.format.specs.Promises.{Decoded}
use Rattle.basics.proofs.Append.{over_sets}
use Rattle.basics.proofs.Checks.{enough, both_pass}
use Rattle.list_reader.specs.Listing.{Listed}
use Rattle.batch_reader.specs.Batch.{Checks}
use Rattle.sheet_writer.specs.declared.Written.{Written}
use Rattle.sheet_writer.specs.Writing.{Clears, Decodable}
use Rattle.room_checks.specs.Room.{sheet_room_fault}
use Rattle.checks.specs.Begun.{Begun}
use Rattle.checks.proofs.Begun.{both_grouped, begun_refused, begun_passed, begun_sound}

-- ---- the entry
module _ (list : ColumnList) (n : ℕ) (rows offsets sheet : List ℕ) where
  -- a refusal writes nothing
  refused : (x : Refusal) → decode_check list n rows offsets (length sheet) ≡ Err x → Decoded list n rows offsets sheet (Err x) sheet
  unfolding decode_answer decode_sheet
  refused x e = record { answers = rw e; bytes = rw e }

  -- the bytes that the sheet of so many columns takes
  abbrev needed : List Column → ℕ
  needed cols = length (decoded_sheet n cols (cut_rows n rows offsets))

  module _ (b : Listed) (begun : Begun list n b) where
    grouped : decode_check list n rows offsets (length sheet)
        ≡ both (both (list_fault list) (row_count_fault n))
        (both (both (offsets_fault n rows offsets) (rows_fault 0 (columns list) (cut_rows n rows offsets)))
        (sheet_room_fault (needed (columns list)) (length sheet)))
    unfolding decode_check
    grouped =
        both_grouped (list_fault list) (row_count_fault n) _
        ∙ ap (both (both (list_fault list) (row_count_fault n)))
        (both_grouped (offsets_fault n rows offsets) (rows_fault 0 (columns list) (cut_rows n rows offsets)) _)

    pub bad_begin : (x : Refusal) → b ≡ Err x → Decoded list n rows offsets sheet (Err x) sheet
    bad_begin x e = refused x (grouped ∙ rw (begun_refused list n b begun x e))

    module _ (schema : Schema) (e : b ≡ Ok schema) (r : Result ℕ Refusal) (k : Checks n (cols_of schema) rows offsets r) where
      cols : cols_of schema ≡ columns list
      cols = (begun_sound list n b begun schema e).0.cols

      fault : decode_check list n rows offsets (length sheet) ≡ both (verdict r) (sheet_room_fault (needed (columns list)) (length sheet))
      fault = grouped ∙ rw (begun_passed list n b begun schema e, ← cols, k.check) refl

      pub bad_rows : (x : Refusal) → r ≡ Err x → Decoded list n rows offsets sheet (Err x) sheet
      bad_rows x f = refused x (fault ∙ rw f)

      module _ (bytes : ℕ) (f : r ≡ Ok bytes) where
        room : needed (columns list) ≡ bytes
        room = rw (← cols) (sym (k.room bytes f))

        asked : decode_check list n rows offsets (length sheet) ≡ sheet_room_fault bytes (length sheet)
        asked = fault ∙ rw (f, room) refl

        -- 24
        pub short : (x : Refusal) → sheet_room_fault bytes (length sheet) ≡ Err x → Decoded list n rows offsets sheet (Err x) sheet
        short x p = refused x (asked ∙ p)

        module _ (p : sheet_room_fault bytes (length sheet) ≡ Ok tt) where
          -- what the writing walk asks
          pub ready : Decodable schema n rows offsets sheet
          ready =
              let passed = both_pass (offsets_fault n rows offsets) _ (sym k.check ∙ ap verdict f) in
              record {
                few = (begun_sound list n b begun schema e).1;
                limited = (begun_sound list n b begun schema e).0.limited;
                cuts = passed.0;
                passes = passed.1;
                room = omega (arith, k.room bytes f, (enough (length sheet) bytes (SheetRoom bytes) (Ok tt) p).0);
              }

          -- none of them: the sheet goes in front
          pub decoded : (sheet' : List ℕ) (w : Written) → Clears n (cols_of schema) (rows_slots (cols_of schema) (cut_rows n rows offsets)) sheet sheet' w
              → Decoded list n rows offsets sheet (Ok (bytes, w.nulls)) sheet'
          unfolding decode_answer decode_sheet
          decoded sheet' w clears =
              let c : decode_check list n rows offsets (length sheet) ≡ Ok tt = asked ∙ p in
              let new = decoded_sheet n (cols_of schema) (cut_rows n rows offsets) in
              record {
                answers = rw (c, room, clears.empty, cols) refl;
                bytes = clears.wrote.bytes ∙ sym (over_sets new sheet ready.room) ∙ rw (c, cols) refl;
              }
