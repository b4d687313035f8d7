-- `blocks::block_size` meets its contract: the law of each size answers. Assumes nothing.
use mathlib.Core.Path.{sym}
use borrow.Author.Rules.{rules}
use Rattle.laws.proofs.Lengths.{small, large}
use Rattle.blocks.proofs.block_size.Goals as goal

pub returns-then-k-lt-MINI_BLOCK_COUNT : goal.returns-then-k-lt-MINI_BLOCK_COUNT
returns-then-k-lt-MINI_BLOCK_COUNT c = sym (small c.args.k (search rules))

pub returns : goal.returns
returns c = sym (large c.args.k (search rules))
