-- The columns so far have these sums, in each turn and at each end. Assumes nothing.
use mathlib.Core.Path.{sym, ◌∙◌}
use native.Mathlib.Omega.{arith}
use lib.Dec.{ltb}
use lib.ListN.{get_or}
use Rattle.format.specs.Schemas.{no_column}
use Rattle.cutter_rule.proofs.Rules.{kept_width, part_most}
use Rattle.cutter_rule.proofs.Summing.{sum_begins, sum_more, sum_breaks, sum_done}
use Rattle.cutter_rule.proofs.rule.sum_columns.Goals as goal

pub loop-c-init : goal.loop-c-init
loop-c-init c = sum_begins _ _

pub returns-then-not-column_kept : goal.returns-then-not-column_kept
returns-then-not-column_kept c =
    sum_breaks c.args.columns.now c.args.column c.loop-c.invariant (omega arith) (omega arith)
    (sym c.column_kept.ensures ∙ c.if-not-column_kept.true)

pub fewest-least-requires : goal.fewest-least-requires
fewest-least-requires c = kept_width (get_or c.args.columns.now c.loop-c.c no_column) (sym c.column_kept.ensures ∙ c.if-not-column_kept.false)

pub most-longest-requires : goal.most-longest-requires
most-longest-requires c = kept_width (get_or c.args.columns.now c.loop-c.c no_column) (sym c.column_kept.ensures ∙ c.if-not-column_kept.false)

pub overflow_add-low : goal.overflow_add-low
overflow_add-low c = omega (arith, c.loop-c.invariant.small_low, part_most (ltb c.loop-c.c c.args.column) c.fewest-least.result)

pub overflow_add-high : goal.overflow_add-high
overflow_add-high c = omega (arith, c.loop-c.invariant.small_high, part_most (ltb c.loop-c.c c.args.column) c.most-longest.result)

pub overflow_add-few : goal.overflow_add-few
overflow_add-few c = omega (arith, c.loop-c.invariant.small_few)

pub overflow_add-many : goal.overflow_add-many
overflow_add-many c = omega (arith, c.loop-c.invariant.small_many)

pub loop-c-preserved : goal.loop-c-preserved
loop-c-preserved c =
    sum_more c.args.columns.now c.args.column c.loop-c.invariant (omega arith) _ _ _ _
    (sym c.column_kept.ensures ∙ c.if-not-column_kept.false)
    c.fewest-least.ensures.0 c.most-longest.ensures.0
    c.fewest-least.ensures.1 c.most-longest.ensures.1 c.part-low.ensures c.part-high.ensures

pub returns : goal.returns
returns c = sum_done _ _ c.loop-c.invariant (omega arith) (omega arith)
