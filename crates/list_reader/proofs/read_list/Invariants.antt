-- `list_reader::read_list` meets its contract. The invariant: what was read, with what the definitions say from here on, is
-- what they say of the whole list. The measure is the room for columns. Assumes nothing.
use Prim.Native.Nat.{◌-◌}
use Rattle.format.specs.Limits.{max_columns}
use Rattle.list_reader.proofs.ListTurns.{Turn}
use Rattle.list_reader.proofs.read_list.Given as goal

abbrev pub invariant-loop-at : goal.invariant-loop-at
invariant-loop-at l = Turn l.list l.columns l.count l.at

abbrev pub decreases-loop-at : goal.decreases-loop-at
decreases-loop-at l = max_columns - l.count
