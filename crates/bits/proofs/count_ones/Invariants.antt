-- `bits::count_ones` meets its contract. The invariant: what is counted and the ones of the bytes to come are the ones of
-- all, and the count is at most eight for each byte passed. Assumes nothing.
use Prim.Native.Nat.{◌+◌, ◌*◌, ◌≤◌}
use mathlib.Core.Path.{◌≡◌}
use lib.ListN.{drop}
use Rattle.bits.specs.Ones.{ones_in}
use Rattle.bits.proofs.count_ones.Given as goal

abbrev pub invariant-loop-byte : goal.invariant-loop-byte
invariant-loop-byte l = (l.n + ones_in (drop l.byte-index l.s) ≡ ones_in l.s) × (l.n ≤ 8 * l.byte-index)
