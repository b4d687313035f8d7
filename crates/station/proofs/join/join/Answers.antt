-- `station::join::join` meets its contract: each refusal is that of the checks that led there, and else the order is what the merge writes.
-- Assumes nothing.
use mathlib.Core.Path.{sym, ◌∙◌}
use native.Mathlib.Omega.{arith}
use Rattle.std.proofs.lemmas.Result.{err_from_is_err_and}
use Rattle.station.proofs.Joining.{bad_first, bad_second, few, short, joinable, merged}
use Rattle.station.proofs.join.join.Goals as goal

pub returns-in_err-check_pass : goal.returns-in_err-check_pass
returns-in_err-check_pass c =
    let p = err_from_is_err_and c.from_residual.result c.from_residual.ensures.1 in
    rw (p.1, p.2) (bad_first _ _ _ _ _ _ _ _ (sym c.check_pass.ensures ∙ c.in_err-check_pass.was))

pub returns-in_err-check_pass-2 : goal.returns-in_err-check_pass-2
returns-in_err-check_pass-2 c =
    let p = err_from_is_err_and c.from_residual-in_err-check_pass-2.result c.from_residual-in_err-check_pass-2.ensures.1 in
    rw (p.1, p.2) (bad_second _ _ _ _ _ _ _ (sym c.check_pass.ensures ∙ c.in_ok-check_pass.was) _ (sym c.check_pass-2.ensures ∙ c.in_err-check_pass-2.was))

pub overflow_add-count : goal.overflow_add-count
overflow_add-count c =
    let a = c.args in
    omega (
      arith,
      few a.n0 a.rows0.now a.offsets0.now a.n1 a.rows1.now a.offsets1.now a.order.now (sym c.check_pass.ensures ∙ c.in_ok-check_pass.was)
          (sym c.check_pass-2.ensures ∙ c.in_ok-check_pass-2.was),
    )

pub returns-then-order-count : goal.returns-then-order-count
returns-then-order-count c =
    short _ _ _ _ _ _ _ (sym c.check_pass.ensures ∙ c.in_ok-check_pass.was) (sym c.check_pass-2.ensures ∙ c.in_ok-check_pass-2.was)
    c.if-order-count.true

pub merge-requires : goal.merge-requires
merge-requires c =
    joinable _ _ _ _ _ _ _ (sym c.check_pass.ensures ∙ c.in_ok-check_pass.was) (sym c.check_pass-2.ensures ∙ c.in_ok-check_pass-2.was)
    c.if-order-count.false

pub returns : goal.returns
returns c =
    merged _ _ _ _ _ _ _ (sym c.check_pass.ensures ∙ c.in_ok-check_pass.was) (sym c.check_pass-2.ensures ∙ c.in_ok-check_pass-2.was)
    c.if-order-count.false _ c.merge.ensures
