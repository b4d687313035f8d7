use mathlib.Core.Path.{◌∙◌}
use native.Mathlib.Omega.{arith}
use Rattle.byte_order.proofs.Alike.{alike_none, alike_ends, bytes_decide}
use Rattle.byte_order.proofs.compare_bytes.Goals as goal

pub loop-i-init : goal.loop-i-init
loop-i-init c = alike_none _ _

pub returns-then-x-y : goal.returns-then-x-y
returns-then-x-y c =
    (bytes_decide c.loop-i.invariant (λ k. (c.type_inv.a k).fits) (λ k. (c.type_inv.b k).fits) (omega arith) (omega arith)).differs
    c.if-x-y.true _ c.cmp.ensures

pub loop-i-preserved : goal.loop-i-preserved
loop-i-preserved c =
    (bytes_decide c.loop-i.invariant (λ k. (c.type_inv.a k).fits) (λ k. (c.type_inv.b k).fits) (omega arith) (omega arith)).next
    c.if-x-y.false

pub returns : goal.returns
returns c = c.cmp-2.ensures ∙ alike_ends c.loop-i.invariant (omega arith)
