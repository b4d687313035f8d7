-- `code_reader::read_codes` meets its contract. The invariant: so many descriptions are judged and read, and the rest decides.
-- Assumes nothing.
use Rattle.code_reader.proofs.CodeTurns.{Turn}
use Rattle.code_reader.proofs.read_codes.Given as goal

abbrev pub invariant-loop-i : goal.invariant-loop-i
invariant-loop-i l = Turn l.codes l.columns l.i
