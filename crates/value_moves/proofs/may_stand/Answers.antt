-- `value_moves::may_stand` meets its contract: each width by its own test. Assumes nothing.
use Prim.Native.Nat.{ℕ, ◌^◌, ◌<◌}
use mathlib.Core.Path.{subst}
use native.Mathlib.Omega.{arith}
use Rattle.value_moves.proofs.Arms.{eight_left}
use Rattle.value_moves.proofs.may_stand.Goals as goal

pub overflow_cast-spelt : goal.overflow_cast-spelt
overflow_cast-spelt c =
    let h = subst (λ (w : ℕ). c.args.spelt < 256 ^ w) c.if-width-eq2.true c.requires.spelt_bound in
    omega arith

pub returns-then-width-eq2 : goal.returns-then-width-eq2
returns-then-width-eq2 c = rw c.if-width-eq2.true c.stands_folded.ensures

pub overflow_cast-spelt-then-width-eq4 : goal.overflow_cast-spelt-then-width-eq4
overflow_cast-spelt-then-width-eq4 c =
    let h = subst (λ (w : ℕ). c.args.spelt < 256 ^ w) c.if-width-eq4.true c.requires.spelt_bound in
    omega arith

pub returns-then-width-eq4 : goal.returns-then-width-eq4
returns-then-width-eq4 c = rw c.if-width-eq4.true c.stands_folded-then-width-eq4.ensures

pub returns : goal.returns
returns c =
    rw (eight_left c.args.width c.requires.fact c.if-width-eq2.false c.if-width-eq4.false) c.stands_folded-2.ensures
