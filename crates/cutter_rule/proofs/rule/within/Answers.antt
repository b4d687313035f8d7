-- `cutter_rule::rule::within` meets its contract. Assumes nothing.
use borrow.Author.Tests.{lt-leb, le-leb}
use Rattle.cutter_rule.proofs.rule.within.Goals as goal

pub returns-then-n-low : goal.returns-then-n-low
returns-then-n-low c = rw (lt-leb _ _ c.if-n-low.true)

pub returns : goal.returns
returns c = rw (le-leb _ _ c.if-n-low.false)
