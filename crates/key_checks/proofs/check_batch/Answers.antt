-- `key_checks::check_batch` meets its contract: what each check ensures, put together. Assumes nothing.
use Rattle.std.proofs.lemmas.Result.{err_from_is_err_and}
use Rattle.format.specs.Schemas.{cols_of}
use Rattle.key_checks.proofs.Checking.{many, bad_rows, cuts, by_order}
use Rattle.key_checks.proofs.check_batch.Goals as goal

pub returns-then-n-gt-MAX_ROWS : goal.returns-then-n-gt-MAX_ROWS
returns-then-n-gt-MAX_ROWS c = many _ _ _ _ c.if-n-gt-MAX_ROWS.true

pub returns-in_err-check_rows : goal.returns-in_err-check_rows
returns-in_err-check_rows c =
    let p = err_from_is_err_and c.from_residual.result c.from_residual.ensures.1 in
    rw (p.1, p.2) (let a = c.args in
    bad_rows (cols_of a.schema) a.n a.rows.now a.offsets.now c.if-n-gt-MAX_ROWS.false _ c.check_rows.ensures _
    c.in_err-check_rows.was)

pub check_order-requires : goal.check_order-requires
check_order-requires c = record { n_le_max_rows = c.if-n-gt-MAX_ROWS.false; cuts = cuts _ _ _ _ c.if-n-gt-MAX_ROWS.false _ c.check_rows.ensures _ c.in_ok-check_rows.was }

pub returns : goal.returns
returns c =
    let a = c.args in
    by_order (cols_of a.schema) a.n a.rows.now a.offsets.now c.if-n-gt-MAX_ROWS.false _ c.check_rows.ensures
    _ c.in_ok-check_rows.was _ c.check_order.ensures
