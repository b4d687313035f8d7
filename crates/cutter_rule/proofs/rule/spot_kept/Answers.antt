-- `cutter_rule::rule::spot_kept` meets its contract. By the spot. Assumes nothing.
use Prim.Native.Nat.{ℕ}
use mathlib.Core.Path.{◌≡◌, ap, sym, ◌∙◌}
use Rattle.format.specs.declared.Column.{Column}
use Rattle.format.specs.declared.Spot.{Spot}
use Rattle.format.specs.Kinds.{column_shape}
use Rattle.format.specs.CutterRule.{spot_kept}
use Rattle.cutter_rule.proofs.rule.spot_kept.Goals as goal

-- the matched case j of a spot
told : (col : Column) (row : ℕ) {spot j : Spot} → spot ≡ j
    → spot_kept (column_shape col) col.options.fold row j ≡ spot_kept (column_shape col) col.options.fold row spot
told col row e = sym (ap (spot_kept (column_shape col) col.options.fold row) e)

pub returns-in-Nulls : goal.returns-in-Nulls
returns-in-Nulls c = c.null_kept.ensures c.args.column.options.fold ∙ told c.args.column c.args.row c.in-Nulls.is

pub returns-in-Value : goal.returns-in-Value
returns-in-Value c = c.value_kept.ensures ∙ told c.args.column c.args.row c.in-Value.is

pub returns-in-Block : goal.returns-in-Block
returns-in-Block c = c.block_kept.ensures c.args.column.options.fold c.args.row ∙ told c.args.column c.args.row c.in-Block.is
