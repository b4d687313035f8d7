-- `row_writer::chunks::write_chunks` meets its contract: the rows to come begin where their cursors are, and end within the buffer.
-- Assumes nothing.
use Prim.Native.Nat.{ℕ, suc, ◌+◌, ◌-◌, ◌<◌, ◌≤◌, min}
use mathlib.Core.Path.{◌≡◌, ◌∙◌}
use mathlib.Core.List.{List}
use native.Mathlib.Omega.{arith}
use lib.ListN.{length, get_or}
use Rattle.format.specs.Lists.{each, joined}
use Rattle.basics.proofs.Bytes.{bytes_of}
use Rattle.laws.proofs.Parts.{part_rest}
use Rattle.sheet_reader.specs.Sheets.{no_facts}
use Rattle.chunk_writer.specs.Cursors.{cursor}
use Rattle.row_writer.specs.Starts.{AtStarts, row_start}
use Rattle.row_writer.proofs.Side.{Apart}
use Rattle.row_writer.proofs.Fields.{field_long}
use Rattle.row_writer.proofs.Summing.{joined_within, start_next}
use Rattle.row_writer.proofs.Chunk.{Chunks, chunk_room, chunk_more, chunk_end, chunks_still, chunks_more, chunks_end}
use Rattle.row_writer.proofs.chunks.write_chunks.Goals as goal

module _ {row : ℕ → List ℕ} {n : ℕ} {rows₀ xs rows now : List ℕ} {from : ℕ} (t : Chunks row n rows₀ xs rows now from) (h : AtStarts row n xs) where
  -- the cursors of the rows to come are where they begin
  at_start : (r : ℕ) → from ≤ r → r < n → cursor now r ≡ row_start row r
  at_start r a b = chunks_still t r a ∙ h r b

  -- rows end within the buffer
  row_room : length (joined (each 0 n row)) ≤ length rows₀ → (r : ℕ) → from ≤ r → r < n → cursor now r + length (row r) ≤ length rows
  row_room g r a b = omega (arith, at_start r a b, joined_within row r n b, t.same)

  -- and not after the next one begins
  apart : (to : ℕ) → to ≤ n → Apart (cursor now) (λ r. length (row r)) from (to - from)
  apart to l r a b = omega (arith, at_start r a (omega arith), at_start (suc r) (omega arith) (omega arith), start_next row r)

pub write_column-requires-clause-roomy : goal.write_column-requires-clause-roomy
write_column-requires-clause-roomy c =
    let A = c.args in
    let s = A.sheet.now in
    let k = c.loop-f.f-index in
    let f = get_or A.facts.now k no_facts in
    let begun : min c.loop-from.from A.n ≡ c.loop-from.from = omega arith in
    rw (part_rest s f.base) (λ r a b.
    let inside : r < A.n = omega (arith, c.chunk_end-to.ensures) in
    let long =
    field_long A.n k r f.base f.column s (c.requires.all_stand k c.loop-f-test.true) (bytes_of s (λ i. (c.type_inv.sheet i).fits)) inside in
    let room =
    chunk_room c.loop-f.invariant c.loop-f-test.true (length c.loop-from.rows)
    (λ r a b. row_room (rw begun at c.loop-from.invariant) c.requires.at_starts c.requires.total_in_bounds r a (omega (arith, c.chunk_end-to.ensures))) r a b in
    omega (arith, long, room, c.loop-f.invariant.same))

pub loop-f-preserved : goal.loop-f-preserved
loop-f-preserved c =
    let A = c.args in
    let begun : min c.loop-from.from A.n ≡ c.loop-from.from = omega arith in
    let w = rw (part_rest A.sheet.now (get_or A.facts.now c.loop-f.f-index no_facts).base) at c.write_column.ensures in
    chunk_more c.loop-f.invariant c.loop-f-test.true (omega (arith, c.chunk_end-to.ensures))
    (apart (rw begun at c.loop-from.invariant) c.requires.at_starts _ (omega (arith, c.chunk_end-to.ensures))) _ _ w

pub loop-from-preserved : goal.loop-from-preserved
loop-from-preserved c =
    let begun : min c.loop-from.from c.args.n ≡ c.loop-from.from = omega arith in
    rw (← c.chunk_end-to.ensures)
    (chunks_more (rw begun at c.loop-from.invariant) _ (omega (arith, c.chunk_end-to.ensures)) (omega (arith, c.chunk_end-to.ensures)) _ _
    (chunk_end c.loop-f.invariant c.loop-f-test.false))

-- ---- the chunk was the last
pub returns-2 : goal.returns-2
returns-2 c =
    let n = c.args.n in
    let begun : min c.loop-from.from n ≡ c.loop-from.from = omega arith in
    let all : c.chunk_end-to.result ≡ n = omega arith in
    chunks_end
    (rw all at
    (chunks_more (rw begun at c.loop-from.invariant) _ (omega (arith, c.chunk_end-to.ensures)) (omega (arith, c.chunk_end-to.ensures)) _ _
    (chunk_end c.loop-f.invariant c.loop-f-test.false)))
