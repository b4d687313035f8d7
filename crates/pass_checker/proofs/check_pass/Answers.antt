-- `pass_checker::check_pass` meets its contract: what each check ensures, put together. Assumes nothing.
use mathlib.Core.Path.{sym, ◌∙◌}
use Rattle.std.proofs.lemmas.Result.{err_from_is_err_and}
use Rattle.laws.proofs.Cuts.{offsets_passed}
use Rattle.pass_checker.proofs.Passes.{many, bad_offsets, by_order}
use Rattle.pass_checker.proofs.check_pass.Goals as goal

pub returns-then-n-gt-MAX_ROWS : goal.returns-then-n-gt-MAX_ROWS
returns-then-n-gt-MAX_ROWS c = many _ _ _ _ c.if-n-gt-MAX_ROWS.true

pub returns-in_err-check_offsets : goal.returns-in_err-check_offsets
returns-in_err-check_offsets c =
    let p = err_from_is_err_and c.from_residual.result c.from_residual.ensures.1 in
    rw (p.1, p.2) (let a = c.args in
    bad_offsets a.pass a.n a.rows.now a.offsets.now c.if-n-gt-MAX_ROWS.false _
    (sym c.check_offsets.ensures ∙ c.in_err-check_offsets.was))

-- what check_order asks: the offsets were looked at before, and pass
pub check_order-requires : goal.check_order-requires
check_order-requires c = record { n_le_max_rows = c.if-n-gt-MAX_ROWS.false; cuts = offsets_passed _ _ _ (sym c.check_offsets.ensures ∙ c.in_ok-check_offsets.was) }

pub returns : goal.returns
returns c =
    let a = c.args in
    by_order a.pass a.n a.rows.now a.offsets.now c.if-n-gt-MAX_ROWS.false _
    (sym c.check_offsets.ensures ∙ c.in_ok-check_offsets.was) c.check_order.ensures
