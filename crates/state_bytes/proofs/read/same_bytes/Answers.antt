-- The words before are the same, in each turn and at the end. Assumes nothing.
use mathlib.Core.Path.{refl}
use native.Mathlib.Omega.{arith}
use Rattle.state_bytes.proofs.Reading.{same_more, same_not, same_end}
use Rattle.state_bytes.proofs.read.same_bytes.Goals as goal

pub loop-i-init : goal.loop-i-init
loop-i-init c = refl

pub low-requires : goal.low-requires
low-requires c = omega (arith, c.requires.state_size_in_bounds)

pub low-requires-in-loop-i : goal.low-requires-in-loop-i
low-requires-in-loop-i c = omega (arith, c.requires.state_size_in_bounds_2)

pub returns-then-low : goal.returns-then-low
returns-then-low c =
    same_not c.args.a.now c.args.b.now (λ j. (c.type_inv.a j).fits) (λ j. (c.type_inv.b j).fits)
    c.requires.state_size_in_bounds c.requires.state_size_in_bounds_2 _ _ _ c.loop-i-test.true c.low.ensures c.low-in-loop-i.ensures c.if-low.true

pub loop-i-preserved : goal.loop-i-preserved
loop-i-preserved c =
    same_more c.args.a.now c.args.b.now (λ j. (c.type_inv.a j).fits) (λ j. (c.type_inv.b j).fits)
    c.requires.state_size_in_bounds c.requires.state_size_in_bounds_2 _ _ _ c.loop-i-test.true c.low.ensures c.low-in-loop-i.ensures
    c.loop-i.invariant c.if-low.false

pub returns : goal.returns
returns c =
    same_end c.args.a.now c.args.b.now (λ j. (c.type_inv.a j).fits) (λ j. (c.type_inv.b j).fits)
    c.requires.state_size_in_bounds c.requires.state_size_in_bounds_2 _ c.loop-i.invariant (omega arith) c.loop-i-test.false
