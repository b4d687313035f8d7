-- `checks::begin` meets its contract: the list as it was read, then the row count. Assumes nothing.
use Rattle.std.proofs.lemmas.Result.{err_from_is_err_and}
use Rattle.checks.proofs.Begun.{bad_list, many_rows, begun}
use Rattle.checks.proofs.begin.Goals as goal

pub returns-in_err-schema : goal.returns-in_err-schema
returns-in_err-schema c =
    let p = err_from_is_err_and c.from_residual.result c.from_residual.ensures.1 in
    λ list l.
    rw (p.1, p.2) (bad_list list _ _ l _ c.in_err-schema.was)

pub returns-then-n-gt-MAX_ROWS : goal.returns-then-n-gt-MAX_ROWS
returns-then-n-gt-MAX_ROWS c = λ list l. many_rows list _ _ l _ c.in_ok-schema.was c.if-n-gt-MAX_ROWS.true

pub returns : goal.returns
returns c = λ list l. begun list _ _ l _ c.in_ok-schema.was c.if-n-gt-MAX_ROWS.false
