-- `encoder::encode_listed` meets its contract: the batch is refused, or 12, 13 and 14 decide what is answered and written.
-- Assumes nothing.
use Prim.Native.Nat.{ℕ}
use mathlib.Core.Path.{◌≡◌, sym, ap, ◌∙◌}
use mathlib.Core.List.{List}
use native.Mathlib.Omega.{arith}
use lib.ListN.{length, take}
use Rattle.format.specs.Described.{ColumnList}
use Rattle.format.specs.Schemas.{cols_of}
use Rattle.sheet_reader.specs.Sheets.{columns_of, Known}
use Rattle.sheet_reader.proofs.Values.{columns_cut, known_cut}
use Rattle.measurer.specs.declared.Measuring.{Measuring}
use Rattle.measurer.specs.Measuring.{Found}
use Rattle.std.proofs.lemmas.Result.{err_from_is_err_and}
use Rattle.encoder.proofs.Encoding.{bad_batch, heavy, short, fits, ends_fit, written}
use Rattle.encoder.proofs.encode_listed.Goals as goal

pub returns-in_err-m : goal.returns-in_err-m
returns-in_err-m c =
    let p = err_from_is_err_and c.from_residual.result c.from_residual.ensures.1 in
    λ list l.
    rw (p.1, p.2) (bad_batch list _ _ _ _ _ (c.measure_batch.ensures list l) _ c.in_err-m.was)

pub returns-in_err-total_fault : goal.returns-in_err-total_fault
returns-in_err-total_fault c =
    let p = err_from_is_err_and c.from_residual-in_err-total_fault.result c.from_residual-in_err-total_fault.ensures.1 in
    λ list l.
    rw (p.1, p.2) (heavy list _ _ _ _ _ (c.measure_batch.ensures list l) _ c.in_ok-m.was _ (sym c.total_fault.ensures ∙ c.in_err-total_fault.was))

pub returns-in_err-room_fault : goal.returns-in_err-room_fault
returns-in_err-room_fault c =
    let p = err_from_is_err_and c.from_residual-in_err-room_fault.result c.from_residual-in_err-room_fault.ensures.1 in
    λ list l.
    rw (p.1, p.2) (short list _ _ _ _ _ (c.measure_batch.ensures list l) _ c.in_ok-m.was (sym c.total_fault.ensures ∙ c.in_ok-total_fault.was)
    _ (sym c.room_fault.ensures ∙ c.in_err-room_fault.was))

-- the facts of the columns in use are of these
module _ (list : ColumnList) (n : ℕ) (sheet : List ℕ) (m : Measuring) (found : Found list n sheet m)
    (long : length (take m.schema.count m.sheeted.facts) ≡ m.schema.count) where
  as_many : length (take m.schema.count m.sheeted.facts) ≡ length (cols_of m.schema)
  as_many = long ∙ found.sound.count ∙ sym (ap length found.sound.cols)

  cut : columns_of (take m.schema.count m.sheeted.facts) ≡ cols_of m.schema
  cut = columns_cut n (cols_of m.schema) sheet m.sheeted.facts found.known m.schema.count as_many

  known : Known n (columns_of (take m.schema.count m.sheeted.facts)) sheet (take m.schema.count m.sheeted.facts)
  known = known_cut n (cols_of m.schema) sheet m.sheeted.facts found.known m.schema.count as_many

pub shared_ref_as_front-facts : goal.shared_ref_as_front-facts
shared_ref_as_front-facts c =
    let h = c.measure_batch.ensures c.requires.list c.requires.says in
    (h.found _ c.in_ok-m.was).sound.limited.few

pub write_rows-requires : goal.write_rows-requires
write_rows-requires c =
    let h = c.measure_batch.ensures c.requires.list c.requires.says in
    let found = h.found _ c.in_ok-m.was in
    let light = sym c.total_fault.ensures ∙ c.in_ok-total_fault.was in
    let room = sym c.room_fault.ensures ∙ c.in_ok-room_fault.was in
    record {
      n_le_max_rows = found.few;
      known = known _ _ _ _ found (omega arith);
      sheet_in_bounds = rw (cut _ _ _ _ found (omega arith))
          (fits c.requires.list _ _ c.args.rows.now c.args.offsets.now _ h _ c.in_ok-m.was light room);
      n_in_bounds = ends_fit c.requires.list _ c.args.sheet.now c.args.rows.now c.args.offsets.now _ h _ c.in_ok-m.was light room;
    }

pub returns : goal.returns
returns c =
    λ list l.
    let h = c.measure_batch.ensures list l in
    let same = cut _ _ _ _ (h.found _ c.in_ok-m.was) (omega arith) in
    written list _ _ _ _ _ h _ c.in_ok-m.was (sym c.total_fault.ensures ∙ c.in_ok-total_fault.was)
    (sym c.room_fault.ensures ∙ c.in_ok-room_fault.was) _ _ (rw same at c.write_rows.ensures.rows_after) (rw same at c.write_rows.ensures.offsets_after)
