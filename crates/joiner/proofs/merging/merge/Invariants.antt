-- `joiner::merging::merge` meets its contract. The loop's invariant: i rows of pass 0 and j of pass 1 are taken, and what is left of both, in
-- order, completes the list. Assumes nothing.
use Prim.Native.Nat.{◌+◌}
use mathlib.Core.Path.{◌≡◌}
use Rattle.format.specs.Entries.{row_bytes}
use Rattle.joiner.proofs.Turns.{Merges}
use Rattle.joiner.proofs.merging.merge.Given as goal

abbrev pub invariant-loop-place : goal.invariant-loop-place
invariant-loop-place l = record {
  counts : l.place ≡ l.i + l.j;
  merges : Merges l.n (row_bytes l.rows l.offsets) l.m (row_bytes l.others l.ends) l.initial.order l.order l.i l.j;
}
