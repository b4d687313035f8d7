use Rattle.std.proofs.Common.{arith}
use Rattle.sheet_ends.proofs.EndTurns.{start, done, falls, long, more}
use Rattle.sheet_ends.proofs.find_ends_fault.Goals as goal

pub loop-row-init : goal.loop-row-init
loop-row-init c = start _ _ _ _ c.end_at-last.ensures.0

pub returns-then-next-last : goal.returns-then-next-last
returns-then-next-last c =
    falls _ _ _ _ _ _ c.loop-row.invariant c.loop-row-test.true c.end_at-next.ensures.0 c.if-next-last.true

pub returns-then-next-last-gt-MAX_SLOT : goal.returns-then-next-last-gt-MAX_SLOT
returns-then-next-last-gt-MAX_SLOT c =
    long _ _ _ _ _ _ c.loop-row.invariant c.loop-row-test.true c.end_at-next.ensures.0 c.if-next-last.false (omega (arith, c.if-next-last-gt-MAX_SLOT.true))

pub loop-row-preserved : goal.loop-row-preserved
loop-row-preserved c =
    more _ _ _ _ _ _ c.loop-row.invariant c.loop-row-test.true c.end_at-next.ensures.0 c.if-next-last.false (omega (arith, c.if-next-last-gt-MAX_SLOT.false))

pub returns : goal.returns
returns c = done _ _ _ _ _ c.loop-row.invariant c.loop-row-test.false
