-- `part_writer::put_words` meets its contract: the top word is written, and each turn writes the next lower one.
-- Assumes nothing.
use Prim.Native.Nat.{◌≤◌}
use Rattle.basics.proofs.Append.{Walk}
use Rattle.part_writer.proofs.Words.{lower}
use Rattle.part_writer.proofs.put_words.Given as goal

abbrev pub invariant-loop-left : goal.invariant-loop-left
invariant-loop-left l =
    (l.left ≤ l.initial.left) × Walk (lower l.descending l.values l.from l.initial.left) (lower l.descending l.values l.from l.left) l.initial.out l.initial.next l.out l.next
