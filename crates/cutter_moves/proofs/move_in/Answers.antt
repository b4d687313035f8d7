-- `cutter_moves::move_in` meets its contract: by the spot. Assumes nothing.
use Prim.Native.Nat.{ℕ}
use mathlib.Core.Path.{◌≡◌, ap, sym, subst, ◌∙◌}
use native.Mathlib.Omega.{arith}
use Rattle.format.specs.declared.Column.{Column}
use Rattle.format.specs.declared.Spot.{Spot}
use Rattle.format.specs.declared.Spot.TheVariants.{Block}
use Rattle.format.specs.Kinds.{column_shape}
use Rattle.format.specs.Cutter.{move, null_move, block_move}
use Rattle.cutter_moves.specs.Moves.{Stood}
use Rattle.cutter_moves.proofs.Nulls.{null_shape}
use Rattle.block_moves.proofs.Marks.{InBlock, block_shape}
use Rattle.cutter_moves.proofs.move_in.Goals as goal

-- the matched case j of a spot
module _ (col : Column) (at : ℕ) {spot j : Spot} (e : spot ≡ j) where
  stood : Stood col at spot → Stood col at j
  stood h = subst (Stood col at) e h

  told : (b : ℕ) → move (column_shape col) col.options j at b ≡ move (column_shape col) col.options spot at b
  told b = sym (ap (λ (x : Spot). move (column_shape col) col.options x at b) e)

in_block : (col : Column) (at b : ℕ) {spot : Spot} (k seen marks : ℕ) → spot ≡ Block k seen marks → Stood col at spot
    → InBlock col.options (column_shape col) k seen marks at b
in_block col at b k seen marks e h = block_shape (column_shape col) col.options k seen marks at b (stood col at e h).kept

pub null_byte-requires : goal.null_byte-requires
null_byte-requires c =
    let a = c.args in
    let s = stood a.column a.at c.in-Nulls.is c.requires in
    omega (arith, (null_shape (column_shape a.column) a.column.options c.in-Nulls.seen c.in-Nulls.known a.at a.byte s.kept).0)

pub value_byte-requires : goal.value_byte-requires
value_byte-requires c =
    let s = stood c.args.column c.args.at c.in-Value.is c.requires in
    record { spelt_value = s.kept; seen_le_at = omega (arith, s.seen) }

pub block_byte-requires : goal.block_byte-requires
block_byte-requires c =
    let b = in_block c.args.column c.args.at c.args.byte _ _ _ c.in-Block.is c.requires in
    let s = stood c.args.column c.args.at c.in-Block.is c.requires in
    record { k_bound = b.small; seen_bound = b.fits; marks_bound = b.low; seen_le_at = omega (arith, s.seen); at_le_max_total = s.most }

pub returns-in-Start : goal.returns-in-Start
returns-in-Start c = c.lead.ensures ∙ told c.args.column c.args.at c.in-Start.is c.args.byte

pub returns-in-Nulls : goal.returns-in-Nulls
returns-in-Nulls c =
    let a = c.args in
    let s = stood a.column a.at c.in-Nulls.is c.requires in
    c.null_byte.ensures
    ∙ ap (λ (w : ℕ). null_move w c.in-Nulls.seen c.in-Nulls.known a.at a.byte) c.width.ensures
    ∙ (null_shape (column_shape a.column) a.column.options c.in-Nulls.seen c.in-Nulls.known a.at a.byte s.kept).1
    ∙ told a.column a.at c.in-Nulls.is a.byte

pub returns-in-Value : goal.returns-in-Value
returns-in-Value c = c.value_byte.ensures ∙ told c.args.column c.args.at c.in-Value.is c.args.byte

pub returns-in-Block : goal.returns-in-Block
returns-in-Block c =
    c.block_byte.ensures
    ∙ ap (block_move c.in-Block.k c.in-Block.seen c.in-Block.marks c.args.at) c.turned.ensures
    ∙ (in_block c.args.column c.args.at c.args.byte _ _ _ c.in-Block.is c.requires).says
    ∙ told c.args.column c.args.at c.in-Block.is c.args.byte
