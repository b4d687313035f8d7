-- `code_writer::put_codes` meets its contract. The invariant: so many codes are written. Assumes nothing.
use lib.ListN.{length}
use Rattle.code_writer.proofs.CodesPut.{Put}
use Rattle.code_writer.proofs.put_codes.Given as goal

abbrev pub invariant-loop-i : goal.invariant-loop-i
invariant-loop-i l = Put l.used (length l.used) l.initial.out l.out l.i
