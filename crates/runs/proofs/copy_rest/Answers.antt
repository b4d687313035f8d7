use native.Mathlib.Omega.{arith}
use borrow.Author.Rules.{rules}
use Rattle.runs.proofs.Copying.{copy_start, copy_byte, copy_end}
use Rattle.runs.proofs.copy_rest.Goals as goal

pub loop-i-init : goal.loop-i-init
loop-i-init c = copy_start _ _ _

pub bounds-out-i : goal.bounds-out-i
bounds-out-i c = omega (arith, c.loop-i.invariant.wrote.same)

pub loop-i-preserved : goal.loop-i-preserved
loop-i-preserved c = copy_byte c.loop-i.invariant c.byte_at.result (search rules) c.byte_at.ensures

pub shape_of-out : goal.shape_of-out
shape_of-out c = c.loop-i.invariant.wrote.same

pub returns : goal.returns
returns c = copy_end c.loop-i.invariant (search rules) c.requires
