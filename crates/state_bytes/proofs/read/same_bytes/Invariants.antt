-- `state_bytes::read::same_bytes` meets its contract. The invariant: the words before are the same. Assumes nothing.
use Rattle.state_bytes.proofs.Reading.{SameTo}
use Rattle.state_bytes.proofs.read.same_bytes.Given as goal

abbrev pub invariant-loop-i : goal.invariant-loop-i
invariant-loop-i l = SameTo l.a l.b l.i
