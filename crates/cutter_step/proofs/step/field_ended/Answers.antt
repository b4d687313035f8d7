-- `cutter_step::step::field_ended` meets its contract. Assumes nothing.
use borrow.Author.Tests.{lt-ltb, le-ltb}
use Rattle.cutter_step.proofs.step.field_ended.Goals as goal

pub returns-then-next-count : goal.returns-then-next-count
returns-then-next-count c = rw (lt-ltb _ _ c.if-next-count.true)

pub returns : goal.returns
returns c = rw (le-ltb _ _ c.if-next-count.false)
