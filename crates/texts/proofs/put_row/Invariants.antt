-- `texts::put_row` meets its contract. The invariant: the digits of the bytes passed are written. Assumes nothing.
use Rattle.texts.proofs.Written.{InHex}
use Rattle.texts.proofs.put_row.Given as goal

abbrev pub invariant-loop-byte : goal.invariant-loop-byte
invariant-loop-byte l = InHex l.row l.initial.out l.at l.out l.place l.byte-index
