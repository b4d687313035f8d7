-- `lent_bytes::read_offsets` meets its contract. The invariant: the first i numbers are read. Assumes nothing.
use Rattle.lent_bytes.proofs.NumberBytes.{Filled}
use Rattle.lent_bytes.proofs.read_offsets.Given as goal

abbrev pub invariant-loop-i : goal.invariant-loop-i
invariant-loop-i l = Filled l.offsets l.numbers l.i
