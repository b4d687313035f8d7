-- `row_writer::write_rows` meets its contract: the rows by the facts are the sheet's rows, and there is room for them. Assumes nothing.
use Prim.Native.Nat.{ℕ, ◌≤◌}
use mathlib.Core.Path.{◌≡◌, ap}
use mathlib.Core.List.{List}
use native.Mathlib.Omega.{arith}
use lib.ListN.{length, length-map}
use Rattle.format.specs.Lists.{each, joined}
use Rattle.format.specs.Entries.{sheet_rows, sheet_total}
use Rattle.sheet_reader.specs.declared.sheet.Facts.{Facts}
use Rattle.sheet_reader.specs.Sheets.{columns_of, Known}
use Rattle.row_writer.specs.Rows.{AllStand, row_at, rows_total}
use Rattle.row_writer.proofs.Fields.{rows_known}
use Rattle.row_writer.proofs.Final.{rows_whole, offsets_whole}
use Rattle.row_writer.proofs.write_rows.Goals as goal

module _ (n : ℕ) (s : List ℕ) (facts : List Facts) (known : Known n (columns_of facts) s facts) where
  many : length (columns_of facts) ≡ length facts
  many = length-map facts (λ (f : Facts). f.column)

  -- each column stands where its facts say
  stand : AllStand n s facts
  stand c l = (known c (omega (arith, many))).stands

  -- the rows by the facts are the sheet's
  whole : sheet_rows n (columns_of facts) s ≡ each 0 n (row_at n s facts)
  whole = rows_known n (columns_of facts) s facts known (omega (arith, many))

  -- and there is room for them
  room : (size : ℕ) → sheet_total n (columns_of facts) s ≤ size → rows_total n s facts ≤ size
  room size h = omega (arith, ap (λ (xs : List (List ℕ)). length (joined xs)) whole)

pub write_starts-requires-clause-all_stand : goal.write_starts-requires-clause-all_stand
write_starts-requires-clause-all_stand c = stand _ _ c.args.facts.now c.requires.known

pub write_starts-requires-clause-total_bound : goal.write_starts-requires-clause-total_bound
write_starts-requires-clause-total_bound c = omega (arith, room _ _ c.args.facts.now c.requires.known _ c.requires.sheet_in_bounds)

pub write_chunks-requires-clause-all_stand : goal.write_chunks-requires-clause-all_stand
write_chunks-requires-clause-all_stand c = stand _ _ c.args.facts.now c.requires.known

pub write_chunks-requires-clause-total_in_bounds : goal.write_chunks-requires-clause-total_in_bounds
write_chunks-requires-clause-total_in_bounds c = room _ _ c.args.facts.now c.requires.known _ c.requires.sheet_in_bounds

pub returns-clause-rows_after : goal.returns-clause-rows_after
returns-clause-rows_after c =
    let A = c.args in
    rw (whole A.n A.sheet.now A.facts.now c.requires.known)
    (rows_whole (row_at A.n A.sheet.now A.facts.now) A.n A.offsets.now _ A.rows.now _ _ c.requires.n_in_bounds
    c.write_starts.ensures c.write_chunks.ensures)

pub returns-clause-offsets_after : goal.returns-clause-offsets_after
returns-clause-offsets_after c =
    let A = c.args in
    rw (whole A.n A.sheet.now A.facts.now c.requires.known)
    (offsets_whole (row_at A.n A.sheet.now A.facts.now) A.n A.offsets.now _ A.rows.now _ _ c.requires.n_in_bounds
    c.write_starts.ensures c.write_chunks.ensures)
