-- `sheet_writer::columns::write_values` meets its contract: in each arm the parts of the kind's layout. Assumes nothing.
use Prim.Native.Nat.{ℕ, ◌+◌, ◌≤◌}
use mathlib.Core.Path.{◌≡◌, ap, ◌∙◌}
use mathlib.Core.List.{List}
use native.Mathlib.Omega.{arith}
use lib.ListN.{length}
use Rattle.format.specs.Kinds.{shape}
use Rattle.basics.specs.Wrote.{Wrote}
use Rattle.basics.proofs.Bytes.{bytes_of}
use Rattle.basics.proofs.Sorts.{wide_arm}
use Rattle.flag_packer.specs.Flags.{true_at}
use Rattle.sheet_writer.proofs.Parts.{flags_long, bool_values, bool_there, bool_next, wide_values, variable_values, variable_readable, variable_next}
use Rattle.sheet_writer.proofs.columns.write_values.Goals as goal

-- the values under another name: they have room, and are written
fits : {a b : List ℕ} (at : ℕ) (x : List ℕ) → a ≡ b → at + length a ≤ length x → at + length b ≤ length x
fits at x e h = omega (arith, ap length e)

same : {a b : List ℕ} {at : ℕ} {x y : List ℕ} {next : ℕ} → a ≡ b → Wrote b at x y next → Wrote a at x y next
same e w = rw e w

pub pack_true-end-requires-clause-boolean : goal.pack_true-end-requires-clause-boolean
pack_true-end-requires-clause-boolean c = ap shape c.in-Bool.is

pub pack_true-end-requires-clause-cursors_in_bounds : goal.pack_true-end-requires-clause-cursors_in_bounds
pack_true-end-requires-clause-cursors_in_bounds c =
    let A = c.args in
    let room = fits A.at A.sheet.now (bool_values A.column A.rows.now A.cursors.now c.in-Bool.is) c.requires.cursors_in_bounds in
    omega (arith, room, flags_long A.column A.rows.now A.cursors.now (true_at A.column A.rows.now))

pub advance-requires : goal.advance-requires
advance-requires c =
    let A = c.args in
    let bytes = bytes_of A.rows.now (λ i. (c.type_inv.rows i).fits) in
    λ r l. omega (arith, bool_there A.column A.rows.now A.cursors.now c.in-Bool.is bytes c.requires.readable r l, c.well_formed)

pub returns-in-Bool-clause-wrote : goal.returns-in-Bool-clause-wrote
returns-in-Bool-clause-wrote c = let A = c.args in same (bool_values A.column A.rows.now A.cursors.now c.in-Bool.is) c.pack_true-end.ensures

pub returns-in-Bool-clause-cursors_after : goal.returns-in-Bool-clause-cursors_after
returns-in-Bool-clause-cursors_after c =
    let A = c.args in
    let bytes = bytes_of A.rows.now (λ i. (c.type_inv.rows i).fits) in
    c.advance.ensures ∙ bool_next A.column A.rows.now A.cursors.now c.in-Bool.is bytes c.requires.readable

pub move_ended-requires-clause-readable : goal.move_ended-requires-clause-readable
move_ended-requires-clause-readable c =
    let A = c.args in
    variable_readable A.column A.rows.now A.cursors.now c.in-Variable.is c.requires.readable

pub move_ended-requires-clause-cursors_in_bounds : goal.move_ended-requires-clause-cursors_in_bounds
move_ended-requires-clause-cursors_in_bounds c =
    let A = c.args in
    fits A.at A.sheet.now (variable_values A.column A.rows.now A.cursors.now c.in-Variable.is) c.requires.cursors_in_bounds

pub returns-in-Variable-clause-wrote : goal.returns-in-Variable-clause-wrote
returns-in-Variable-clause-wrote c =
    let A = c.args in
    same (variable_values A.column A.rows.now A.cursors.now c.in-Variable.is) c.move_ended.ensures.wrote

pub returns-in-Variable-clause-cursors_after : goal.returns-in-Variable-clause-cursors_after
returns-in-Variable-clause-cursors_after c =
    let A = c.args in
    c.move_ended.ensures.cursors_after ∙ variable_next A.column A.rows.now A.cursors.now c.in-Variable.is

-- ---- values of one width
pub move_wide-requires : goal.move_wide-requires
move_wide-requires c =
    let A = c.args in
    let wide = wide_arm A.column.kind c.in_default.not-Bool c.in_default.not-Variable in
    record {
      wide_kind = wide;
      readable = c.requires.readable;
      cursors_in_bounds = fits A.at A.sheet.now (wide_values A.column A.rows.now A.cursors.now wide) c.requires.cursors_in_bounds;
    }

pub returns-in_default : goal.returns-in_default
returns-in_default c =
    let A = c.args in
    let wide = wide_arm A.column.kind c.in_default.not-Bool c.in_default.not-Variable in
    record {
      wrote = same (wide_values A.column A.rows.now A.cursors.now wide) c.move_wide.ensures.wrote;
      cursors_after = c.move_wide.ensures.cursors_after;
    }
