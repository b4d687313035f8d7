-- `plain_fields::clear` meets its contract: while all were zeros, each turn passes some more. Assumes nothing.
use Prim.Native.Nat.{◌-◌, ◌≤◌}
use mathlib.Core.Path.{◌≡◌}
use mathlib.Core.Bool.{true}
use lib.ListN.{length}
use Rattle.variable_reader.proofs.Padding.{Clear}
use Rattle.plain_fields.proofs.clear.Given as goal

abbrev pub invariant-loop-i : goal.invariant-loop-i
invariant-loop-i l = (l.i ≤ length l.part) × (l.zero ≡ true → Clear l.part 0 (length l.part) l.i)

abbrev pub decreases-loop-i : goal.decreases-loop-i
decreases-loop-i l = length l.part - l.i
