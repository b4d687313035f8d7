-- `lent_bytes::write_offsets` meets its contract. The invariant: the first i numbers are stored. Assumes nothing.
use Rattle.lent_bytes.proofs.NumberBytes.{Stored}
use Rattle.lent_bytes.proofs.write_offsets.Given as goal

abbrev pub invariant-loop-i : goal.invariant-loop-i
invariant-loop-i l = Stored l.numbers l.initial.offsets l.offsets l.i
