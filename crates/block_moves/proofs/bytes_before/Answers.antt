-- `block_moves::bytes_before` meets its contract. Assumes nothing.
use native.Mathlib.Omega.{arith}
use Rattle.block_moves.proofs.Marks.{before_few, before_many, block_numbers}
use Rattle.block_moves.proofs.bytes_before.Goals as goal

pub returns-then-k-lt4 : goal.returns-then-k-lt4
returns-then-k-lt4 c = before_few _ c.if-k-lt4.true

pub overflow_mul-result-2 : goal.overflow_mul-result-2
overflow_mul-result-2 c = omega (arith, block_numbers c.args.k c.requires)

pub returns : goal.returns
returns c = before_many _ c.if-k-lt4.false
