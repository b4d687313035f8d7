-- `halves::search` meets its contract. The loop's invariant: the rows before `low` fail the test, and those from `high` on pass it.
-- The measure is the rows between. Assumes nothing.
use Prim.Native.Nat.{ℕ, ◌-◌, ◌≤◌}
use mathlib.Core.Bool.{Bool}
use mathlib.Core.List.{List}
use Rattle.format.specs.Entries.{row_bytes}
use Rattle.halves.specs.Turns.{Tests, Rises}
use Rattle.halves.proofs.Narrowing.{Narrows}
use Rattle.halves.proofs.search.Given as goal

abbrev pub invariant-loop-low : goal.invariant-loop-low
invariant-loop-low g l =
    (l.low ≤ l.high) × (l.high ≤ l.n)
    × ((test : List ℕ → Bool) → Tests g.T.Fn l.passes test → Rises test → Narrows test l.n (row_bytes l.rows l.offsets) l.low l.high)

abbrev pub decreases-loop-low : goal.decreases-loop-low
decreases-loop-low g l = l.high - l.low
