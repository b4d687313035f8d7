-- `vectors::reader::start`: the place stays within the line.
use Rattle.std.proofs.Common.{length, ◌≤◌}
use Rattle.vectors.proofs.reader.start.Given as goal

abbrev pub invariant-loop : goal.invariant-loop
invariant-loop l = l.at ≤ length l.line
