-- `sheet_writer::columns::write_columns` meets its contract: the columns passed are written, their null slots counted, and the
-- cursors stand at the next one's fields. Assumes nothing.
use Prim.Native.Nat.{ℕ, suc, ◌+◌, ◌-◌, ◌<◌, ◌≤◌}
use mathlib.Core.Path.{◌≡◌, ap, ◌∙◌}
use mathlib.Core.List.{List, ◌∷◌}
use native.Mathlib.Omega.{arith}
use lib.ListN.{length, get_or, take, drop}
use Rattle.format.specs.declared.Column.{Column}
use Rattle.format.specs.declared.Schema.{Schema}
use Rattle.format.specs.Limits.{max_rows}
use Rattle.format.specs.Lists.{Bytes}
use Rattle.format.specs.Schemas.{cols_of, no_column}
use Rattle.format.specs.Sheet.{packed as packed_for}
use Rattle.bits.specs.Ones.{ones_in}
use Rattle.basics.specs.Wrote.{Wrote}
use Rattle.basics.proofs.Bytes.{bytes_of}
use Rattle.laws.proofs.InUse.{Held, next_in_use}
use Rattle.cursors.specs.Cursors.{Readable}
use Rattle.flag_packer.specs.Flags.{valid_at, flags_at}
use Rattle.sheet_writer.specs.Writing.{Writable, values_at}
use Rattle.sheet_writer.proofs.Parts.{flags_long, validity_nulls}
use Rattle.sheet_writer.proofs.Stand.{Standing, column_to_come, stand_here, stand_room, stand_more}
use Rattle.cursors.proofs.Wrotes.{wrote_both, wrote_there, room_first, room_after}
use Rattle.sheet_writer.proofs.columns.write_columns.Goals as goal

-- before column c
module _ (schema : Schema) (held : Held schema) {rows cursors₀ out₀ cursors out : List ℕ} {empty at c : ℕ} (w : Writable schema rows cursors₀ out₀)
    (b : Bytes rows) (t : Standing (cols_of schema) rows cursors₀ out₀ cursors out empty at c) (l : c < schema.count) where
  abbrev col : Column
  col = get_or schema.columns c no_column

  abbrev flags : List ℕ
  flags = flags_at (valid_at col rows) cursors

  next : drop c (cols_of schema) ≡ col ∷ drop (suc c) (cols_of schema)
  next = next_in_use schema held w.limited.few c l

  few : length cursors ≤ max_rows
  few = omega (arith, t.many, w.few)

  readable : Readable col rows cursors
  readable = stand_here t b col next

  -- there is room for the column, and so for its validity
  room : at + length (column_to_come col rows cursors) ≤ length out
  room = stand_room t b col next w.room

  flags_room : at + length flags ≤ length out
  flags_room = room_first flags (values_at col rows cursors) at out room

  -- the validity is written, and its ones counted
  module _ {out' : List ℕ} {at' : ℕ} (p : Wrote flags at out out' at') where
    there : take (at' - at) (drop at out') ≡ flags
    there = wrote_there p flags_room

    short : length (take (at' - at) (drop at out')) ≤ packed_for max_rows
    short = rw there (omega (arith, flags_long col rows cursors (valid_at col rows), few))

    module _ (ones : ℕ) (e : ones ≡ ones_in (take (at' - at) (drop at out'))) where
      ones_are : ones ≡ ones_in flags
      ones_are = e ∙ ap ones_in there

      -- no more than there are rows
      some : ones ≤ length cursors₀
      some = omega (arith, ones_are, validity_nulls col rows cursors, t.many)

pub pack_valid-values-requires-clause-readable : goal.pack_valid-values-requires-clause-readable
pack_valid-values-requires-clause-readable c =
    let bytes = bytes_of c.args.rows.now (λ i. (c.type_inv.rows i).fits) in
    readable c.args.schema c.well_formed.0 c.requires bytes c.loop-c.invariant c.loop-c-test.true

pub pack_valid-values-requires-clause-cursors_in_bounds : goal.pack_valid-values-requires-clause-cursors_in_bounds
pack_valid-values-requires-clause-cursors_in_bounds c =
    let A = c.args in
    let l = c.loop-c in
    let bytes = bytes_of A.rows.now (λ i. (c.type_inv.rows i).fits) in
    omega (
      arith,
      flags_room A.schema c.well_formed.0 c.requires bytes l.invariant c.loop-c-test.true,
      flags_long (get_or A.schema.columns l.c no_column) A.rows.now l.cursors (valid_at (get_or A.schema.columns l.c no_column) A.rows.now),
    )

pub slice_bounds-count_ones-end : goal.slice_bounds-count_ones-end
slice_bounds-count_ones-end c =
    let bytes = bytes_of c.args.rows.now (λ i. (c.type_inv.rows i).fits) in
    omega (
      arith,
      flags_room c.args.schema c.well_formed.0 c.requires bytes c.loop-c.invariant c.loop-c-test.true,
      c.pack_valid-values.ensures.place,
      c.pack_valid-values.auto.sheet,
    )

pub count_ones-requires : goal.count_ones-requires
count_ones-requires c =
    let bytes = bytes_of c.args.rows.now (λ i. (c.type_inv.rows i).fits) in
    short c.args.schema c.well_formed.0 c.requires bytes c.loop-c.invariant c.loop-c-test.true c.pack_valid-values.ensures

pub overflow_sub-nulls : goal.overflow_sub-nulls
overflow_sub-nulls c =
    let bytes = bytes_of c.args.rows.now (λ i. (c.type_inv.rows i).fits) in
    some c.args.schema c.well_formed.0 c.requires bytes c.loop-c.invariant c.loop-c-test.true c.pack_valid-values.ensures _ c.count_ones.ensures.value

pub write_values-at-requires-clause-readable : goal.write_values-at-requires-clause-readable
write_values-at-requires-clause-readable c =
    let bytes = bytes_of c.args.rows.now (λ i. (c.type_inv.rows i).fits) in
    readable c.args.schema c.well_formed.0 c.requires bytes c.loop-c.invariant c.loop-c-test.true

pub write_values-at-requires-clause-cursors_in_bounds : goal.write_values-at-requires-clause-cursors_in_bounds
write_values-at-requires-clause-cursors_in_bounds c =
    let A = c.args in
    let l = c.loop-c in
    let bytes = bytes_of A.rows.now (λ i. (c.type_inv.rows i).fits) in
    room_after c.pack_valid-values.ensures (values_at (get_or A.schema.columns l.c no_column) A.rows.now l.cursors)
    (room A.schema c.well_formed.0 c.requires bytes l.invariant c.loop-c-test.true)

pub loop-c-preserved : goal.loop-c-preserved
loop-c-preserved c =
    let A = c.args in
    let l = c.loop-c in
    let bytes = bytes_of A.rows.now (λ i. (c.type_inv.rows i).fits) in
    let col = get_or A.schema.columns l.c no_column in
    let both = wrote_both {a = flags_at (valid_at col A.rows.now) l.cursors} c.pack_valid-values.ensures c.write_values-at.ensures.wrote in
    let counted = ones_are A.schema c.well_formed.0 c.requires bytes l.invariant c.loop-c-test.true c.pack_valid-values.ensures _ c.count_ones.ensures.value in
    stand_more l.invariant bytes col (next_in_use A.schema c.well_formed.0 c.requires.limited.few l.c c.loop-c-test.true) c.requires.few both
    c.write_values-at.ensures.cursors_after c.count_ones.result counted
