-- `flag_packer::pack` meets its contract. The invariant: the flags of k bytes are packed, whatever flags the test tells. Assumes nothing.
use Prim.Native.Nat.{ℕ, ◌+◌, ◌*◌}
use mathlib.Core.Bool.{Bool}
use Rattle.flag_packer.specs.Flags.{Tells}
use Rattle.flag_packer.proofs.Packing.{Packing}
use Rattle.flag_packer.proofs.pack.Given as goal

abbrev pub invariant-loop-k : goal.invariant-loop-k
invariant-loop-k g l =
    (flag : ℕ → Bool) → Tells (goal.F-post g l.test) flag l.cursors → Packing flag l.cursors l.initial.sheet l.at l.sheet (l.at + l.k) (8 * l.k)
