-- `runs::copy_words` meets its contract: each turn copies a word. Assumes nothing.
use Prim.Native.Nat.{◌-◌, ◌%◌}
use mathlib.Core.Path.{◌≡◌}
use lib.ListN.{length}
use Rattle.runs.proofs.Copying.{Copying}
use Rattle.runs.proofs.copy_words.Given as goal

abbrev pub invariant-loop-i : goal.invariant-loop-i
invariant-loop-i l = Copying l.src l.descending l.initial.out l.out l.i × (l.i % 8 ≡ 0)

abbrev pub decreases-loop-i : goal.decreases-loop-i
decreases-loop-i l = length l.src - l.i
