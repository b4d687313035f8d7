-- `bits::spare` meets its contract: where eight divides n no byte has spare bits, and else the shift leaves those of the
-- last. Assumes nothing.
use Prim.Native.Nat.{◌/◌}
use mathlib.Core.Path.{sym}
use Rattle.bits.proofs.Digits.{spare_full, spare_shift}
use Rattle.bits.proofs.spare.Goals as goal

pub returns-then-k-eq0 : goal.returns-then-k-eq0
returns-then-k-eq0 c = sym (spare_full c.args.s.now c.args.n c.requires c.if-k-eq0.true)

pub returns : goal.returns
returns c =
    let n = c.args.n in
    sym (spare_shift c.args.s.now n c.requires c.if-k-eq0.false (c.type_inv.s (n / 8)).fits)
