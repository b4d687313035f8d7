-- `cutter_rule::rule::spelt_kept` meets its contract. Assumes nothing.
use native.Mathlib.Omega.{arith}
use Rattle.cutter_rule.proofs.Rules.{spelt_shift, spelt_any}
use Rattle.cutter_rule.proofs.rule.spelt_kept.Goals as goal

pub returns-then-seen-lt8 : goal.returns-then-seen-lt8
returns-then-seen-lt8 c = spelt_shift c.args.seen c.args.spelt

pub returns : goal.returns
returns c =
    spelt_any c.args.seen c.args.spelt c.if-seen-lt8.false (omega (arith, c.well_formed))
