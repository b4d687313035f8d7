-- `blocks::padded_length` meets its contract: each arm is the definition's. Assumes nothing.
use borrow.Author.Rules.{rules}
use borrow.Author.Tests.{le-leb, lt-leb}
use Rattle.blocks.proofs.padded_length.Goals as goal

pub returns-then-len-le-BLOCK_SIZE : goal.returns-then-len-le-BLOCK_SIZE
returns-then-len-le-BLOCK_SIZE c = rw (le-leb c.args.len 32 (search rules))

pub returns : goal.returns
returns c = rw (lt-leb c.args.len 32 (search rules))
