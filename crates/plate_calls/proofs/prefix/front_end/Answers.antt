-- `plate_calls::prefix::front_end` meets its contract. Assumes nothing.
use borrow.Author.Tests.{lt-ltb, le-ltb}
use Rattle.plate_calls.proofs.prefix.front_end.Goals as goal

pub returns-then-size-to : goal.returns-then-size-to
returns-then-size-to c = rw (lt-ltb _ _ c.if-size-to.true)

pub returns : goal.returns
returns c = rw (le-ltb _ _ c.if-size-to.false)
