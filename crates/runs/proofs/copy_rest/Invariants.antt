-- `runs::copy_rest` meets its contract: each turn copies a byte. Assumes nothing.
use Rattle.runs.proofs.Copying.{Copying}
use Rattle.runs.proofs.copy_rest.Given as goal

abbrev pub invariant-loop-i : goal.invariant-loop-i
invariant-loop-i l = Copying l.src l.descending l.initial.out l.out l.i
