-- `checks::total_fault` meets its contract: the test is the definition's. Assumes nothing.
use borrow.Author.Tests.{lt-ltb, le-ltb}
use Rattle.format.specs.Limits.{max_total}
use Rattle.checks.proofs.total_fault.Goals as goal

pub returns-then-total-gt-MAX_TOTAL : goal.returns-then-total-gt-MAX_TOTAL
returns-then-total-gt-MAX_TOTAL c = rw (lt-ltb max_total c.args.total c.if-total-gt-MAX_TOTAL.true)

pub returns : goal.returns
returns c = rw (le-ltb max_total c.args.total c.if-total-gt-MAX_TOTAL.false)
