-- `cutter_rule::rule::stream_kept` meets its contract. Assumes nothing.
use mathlib.Core.Path.{sym, ◌∙◌}
use native.Mathlib.Omega.{arith}
use Rattle.format.specs.Limits.{max_total}
use Rattle.cutter_laws.proofs.RuleMoves.{within_true}
use Rattle.cutter_rule.proofs.Rules.{stream_many, product_fits}
use Rattle.cutter_rule.proofs.rule.stream_kept.Goals as goal

pub returns-then-not-within : goal.returns-then-not-within
returns-then-not-within c = rw (sym c.within.ensures ∙ c.if-not-within.true)

pub returns-then-rows-gt-MAX_TOTAL : goal.returns-then-rows-gt-MAX_TOTAL
returns-then-rows-gt-MAX_TOTAL c =
    let a = c.args in
    let inside = sym c.within.ensures ∙ c.if-not-within.false in
    stream_many a.rows a.row a.bytes a.low a.high c.requires.0 inside (within_true a.row max_total a.bytes inside).1 c.if-rows-gt-MAX_TOTAL.true

pub overflow_mul-rows : goal.overflow_mul-rows
overflow_mul-rows c = omega (arith, product_fits c.args.rows c.args.low c.if-rows-gt-MAX_TOTAL.false c.requires.1)

pub overflow_mul-rows-2 : goal.overflow_mul-rows-2
overflow_mul-rows-2 c = omega (arith, product_fits c.args.rows c.args.high c.if-rows-gt-MAX_TOTAL.false c.requires.2)

pub overflow_sub-bytes : goal.overflow_sub-bytes
overflow_sub-bytes c = (within_true c.args.row max_total c.args.bytes (sym c.within.ensures ∙ c.if-not-within.false)).0

pub returns : goal.returns
returns c = rw (sym c.within.ensures ∙ c.if-not-within.false) c.within-2.ensures
