-- `sheet_writer::columns::write_rows` meets its contract: the cursors of the rows start at the offsets, and from there on the
-- columns are those of the decoded sheet. Assumes nothing.
use Prim.Native.Nat.{ℕ, ◌≤◌}
use mathlib.Core.Path.{◌≡◌, ap, ◌∙◌}
use mathlib.Core.List.{List}
use native.Mathlib.Omega.{arith}
use lib.ListN.{length, take}
use lib.Seq.{length-take-le}
use Rattle.format.specs.declared.Schema.{Schema}
use Rattle.format.specs.Lists.{Bytes}
use Rattle.format.specs.Schemas.{cols_of}
use Rattle.format.specs.Entries.{cut_rows, rows_slots}
use Rattle.basics.proofs.Bytes.{bytes_of}
use Rattle.laws.proofs.Cuts.{offsets_passed}
use Rattle.sheet_writer.specs.declared.Written.{Written}
use Rattle.sheet_writer.specs.Writing.{Clears, Decodable, Writable, slots_to_come}
use Rattle.sheet_writer.proofs.Stand.{start_fields, start_slots}
use Rattle.sheet_writer.proofs.columns.write_rows.Goals as goal

-- the cursors start at the first of the offsets, m of them
module _ {schema : Schema} {n m : ℕ} {rows offsets sheet cursors : List ℕ} (w : Decodable schema n rows offsets sheet)
    (many : m ≡ n) (e : cursors ≡ take m offsets) (b : Bytes rows) where
  there : n ≤ length offsets
  there = omega (arith, (offsets_passed n rows offsets w.cuts).there)

  front : cursors ≡ take n offsets
  front = e ∙ ap (λ k. take k offsets) many

  count : length cursors ≡ n
  count = ap length front ∙ length-take-le n offsets there

  slots : slots_to_come (cols_of schema) rows cursors ≡ rows_slots (cols_of schema) (cut_rows n rows offsets)
  slots = ap (slots_to_come (cols_of schema) rows) front ∙ start_slots (cols_of schema) rows offsets b n there w.passes

  writable : Writable schema rows cursors sheet
  writable = record {
    limited = w.limited;
    few = rw count w.few;
    fields = rw front (start_fields (cols_of schema) rows offsets b n there w.passes);
    room = rw (count, slots) w.room;
  }

  cleared : (sheet' : List ℕ) (r : Written) → Clears (length cursors) (cols_of schema) (slots_to_come (cols_of schema) rows cursors) sheet sheet' r
      → Clears n (cols_of schema) (rows_slots (cols_of schema) (cut_rows n rows offsets)) sheet sheet' r
  cleared sheet' r k = rw (count, slots) at k

pub write_columns-requires : goal.write_columns-requires
write_columns-requires c =
    writable c.requires.decodable c.requires.cursors_len c.start.ensures (bytes_of c.args.rows.now (λ i. (c.type_inv.rows i).fits))

pub returns : goal.returns
returns c =
    cleared c.requires.decodable c.requires.cursors_len c.start.ensures (bytes_of c.args.rows.now (λ i. (c.type_inv.rows i).fits))
    _ _ c.write_columns.ensures
