-- `texts::digit` meets its contract: both arms are the definition's. Assumes nothing.
use borrow.Author.Tests.{lt-ltb, le-ltb}
use Rattle.texts.proofs.digit.Goals as goal

pub returns-then-d-lt10 : goal.returns-then-d-lt10
returns-then-d-lt10 c = rw (lt-ltb c.args.d 10 c.if-d-lt10.true)

pub returns-else-d-lt10 : goal.returns-else-d-lt10
returns-else-d-lt10 c = rw (le-ltb c.args.d 10 c.if-d-lt10.false)
