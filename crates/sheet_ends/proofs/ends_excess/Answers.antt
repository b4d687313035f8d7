use Rattle.std.proofs.Common.{◌+◌, ◌/◌, ◌^◌, arith}
use Rattle.sheet_ends.proofs.EndTurns.{Sum, sum_start, sum_more, sum_fits}
use Rattle.sheet_ends.proofs.ends_excess.Goals as goal
use Rattle.sheet_ends.proofs.ends_excess.Goals.{After-wrapping_sub_u64}

-- the sum with this row
more : (c : After-wrapping_sub_u64)
    → Sum c.args.part.now c.args.n (c.loop-row.row + 1) (c.loop-row.excess + c.wrapping_sub_u64.result / 2 ^ 16)
more c =
    sum_more _ _ _ _ _ _ _ c.loop-row.invariant c.loop-row-test.true c.end_at-last.ensures.0 c.end_at-next.ensures.0 c.end_at-last.ensures.1
    c.wrapping_sub_u64.ensures.value c.wrapping_sub_u64.type_inv

pub loop-row-init : goal.loop-row-init
loop-row-init c = sum_start _ _

pub overflow_add-excess : goal.overflow_add-excess
overflow_add-excess c =
    record { fits = sum_fits (more (goal.at.overflow_add-excess c).After-wrapping_sub_u64) c.requires.n_le_max_rows }

pub loop-row-preserved : goal.loop-row-preserved
loop-row-preserved c = more (goal.at.loop-row-preserved c).After-wrapping_sub_u64

pub returns : goal.returns
returns c = λ e j l. c.loop-row.invariant.says e j (omega arith)
