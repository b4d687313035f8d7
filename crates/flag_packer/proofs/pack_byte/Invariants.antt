-- `flag_packer::pack_byte` meets its contract. The invariant: the byte has the flags of the rows passed, whatever flags the test tells.
-- Assumes nothing.
use Prim.Native.Nat.{ℕ, ◌^◌, ◌<◌}
use mathlib.Core.Path.{◌≡◌}
use mathlib.Core.Bool.{Bool}
use mathlib.Core.List.{map}
use lib.ListN.{take}
use Rattle.format.specs.Cleared.{byte_of}
use Rattle.flag_packer.specs.Flags.{Tells}
use Rattle.flag_packer.proofs.pack_byte.Given as goal

abbrev pub invariant-loop-k : goal.invariant-loop-k
invariant-loop-k g l =
    (l.byte < 2 ^ l.k) × ((flag : ℕ → Bool) → Tells (goal.F-post g l.test) flag l.cursors → l.byte ≡ byte_of (map flag (take l.k l.cursors)))
