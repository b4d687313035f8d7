-- `bits::bit` meets its contract: the mask keeps the lowest digit of what the shift leaves. Assumes nothing.
use Prim.Native.Nat.{ℕ, ◌/◌, ◌%◌, ◌^◌}
use mathlib.Core.Path.{ap}
use lib.Bits.{and_mask}
use lib.Dec.{eqb}
use lib.ListN.{get_or}
use Rattle.bits.proofs.bit.Goals as goal

pub returns : goal.returns
returns c =
    let A = c.args in
    ap (λ (x : ℕ). eqb x 1) (and_mask (get_or A.s.now (A.i / 8) 0 / 2 ^ (A.i % 8)) 1)
