use mathlib.Core.Path.{◌∙◌}
use native.Mathlib.Omega.{arith}
use Rattle.variable_reader.proofs.Counting.{counting_cut, counting_last, counting_long, counting_next}
use Rattle.variable_reader.proofs.reader.count_blocks.Goals as goal

pub returns-then-len-at : goal.returns-then-len-at
returns-then-len-at c =
    counting_cut c.loop-at.invariant _ c.block_size-size.ensures (omega arith)

pub returns-then-end : goal.returns-then-end
returns-then-end c =
    counting_last c.loop-at.invariant _ c.block_size-size.ensures _ (omega arith) (c.from.ensures ∙ c.byte_at-end.ensures) _
    c.last_block.ensures

pub returns-then-count-size-gt-MAX_SLOT : goal.returns-then-count-size-gt-MAX_SLOT
returns-then-count-size-gt-MAX_SLOT c =
    counting_long c.loop-at.invariant _ c.block_size-size.ensures _ (omega arith) c.byte_at-end.ensures c.if-end.false (omega arith)

pub loop-at-preserved : goal.loop-at-preserved
loop-at-preserved c =
    counting_next c.loop-at.invariant _ c.block_size-size.ensures _ (omega arith) c.byte_at-end.ensures c.if-end.false (omega arith)
