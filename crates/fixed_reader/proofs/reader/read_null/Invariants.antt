-- `fixed_reader::reader::read_null` meets its contract: the bytes passed are zeros, so that the first other one, or none, decides.
-- Assumes nothing.
use lib.ListN.{take, drop}
use Rattle.fixed_reader.proofs.Scan.{Clean}
use Rattle.fixed_reader.proofs.reader.read_null.Given as goal

abbrev pub invariant-loop-i : goal.invariant-loop-i
invariant-loop-i l = Clean (take l.width (drop 1 l.row)) l.i
