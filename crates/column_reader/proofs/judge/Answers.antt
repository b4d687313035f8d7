use mathlib.Core.Path.{sym, ◌∙◌}
use native.Mathlib.Omega.{arith}
use Rattle.std.proofs.lemmas.Result.{err_from_is_err_and}
use Rattle.column_reader.proofs.ColumnTurns.{start, more, empty, full, bad, good}
use Rattle.column_reader.proofs.judge.Goals as goal

pub returns-then-columns-eq0 : goal.returns-then-columns-eq0
returns-then-columns-eq0 c = empty c.args.columns.now c.if-columns-eq0.true

pub loop-i-init : goal.loop-i-init
loop-i-init c = start c.args.columns.now _ c.default-copy.ensures

pub returns-then-i-eq-MAX_COLUMNS : goal.returns-then-i-eq-MAX_COLUMNS
returns-then-i-eq-MAX_COLUMNS c =
    full _ _ _ c.loop-i.invariant c.loop-i-test.true c.if-i-eq-MAX_COLUMNS.true

pub returns-in_err-check_column : goal.returns-in_err-check_column
returns-in_err-check_column c =
    let p = err_from_is_err_and c.from_residual.result c.from_residual.ensures.1 in
    rw (p.1, p.2) (bad _ _ _ c.loop-i.invariant _ c.loop-i-test.true c.if-i-eq-MAX_COLUMNS.false
    (sym c.check_column.ensures ∙ c.in_err-check_column.was))

pub loop-i-preserved : goal.loop-i-preserved
loop-i-preserved c =
    more _ _ _ c.loop-i.invariant c.loop-i-test.true c.if-i-eq-MAX_COLUMNS.false (sym c.check_column.ensures ∙ c.in_ok-check_column.was)

pub returns : goal.returns
returns c =
    good _ _ _ c.loop-i.invariant c.loop-i-test.false (omega arith)
