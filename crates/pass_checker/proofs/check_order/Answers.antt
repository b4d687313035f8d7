use Prim.Native.Nat.{◌+◌, ◌-◌}
use mathlib.Core.Path.{◌≡◌, sym, ◌∙◌}
use native.Mathlib.Omega.{arith}
use Rattle.laws.proofs.Cuts.{cuts_lie}
use Rattle.pass_checker.proofs.Passes.{orders_begin, orders_fault, orders_more, orders_end}
use Rattle.pass_checker.proofs.check_order.Goals as goal

pub loop-r-init : goal.loop-r-init
loop-r-init c = orders_begin _ _ _

pub row_below-requires : goal.row_below-requires
row_below-requires c = record { lies = cuts_lie c.requires.cuts _ (omega arith); lies_2 = cuts_lie c.requires.cuts _ (omega arith) }

pub returns-then-row_below : goal.returns-then-row_below
returns-then-row_below c =
    orders_fault _ _ _ _ c.loop-r.invariant (omega arith) _ (omega arith) (sym c.row_below.ensures ∙ c.if-row_below.true)

pub loop-r-preserved : goal.loop-r-preserved
loop-r-preserved c =
    let next : c.loop-r.r + 1 - 1 ≡ c.loop-r.r = omega arith in
    rw next (orders_more _ _ _ _ c.loop-r.invariant (omega arith) _ (omega arith) (sym c.row_below.ensures ∙ c.if-row_below.false))

pub returns : goal.returns
returns c = orders_end _ _ _ _ c.loop-r.invariant (omega arith)
