use mathlib.Core.Path.{sym, ◌∙◌}
use native.Mathlib.Omega.{arith}
use Rattle.std.proofs.lemmas.Result.{err_from_is_err_and}
use Rattle.laws.proofs.Columns.{description_passed}
use Rattle.list_reader.proofs.ListTurns.{start, more, empty, full, bad, good}
use Rattle.list_reader.proofs.read_list.Goals as goal

pub returns-then-list-eq0 : goal.returns-then-list-eq0
returns-then-list-eq0 c = empty c.args.list.now c.if-list-eq0.true

pub loop-at-init : goal.loop-at-init
loop-at-init c = start c.args.list.now _ c.default-columns.ensures

pub returns-then-count-eq-MAX_COLUMNS : goal.returns-then-count-eq-MAX_COLUMNS
returns-then-count-eq-MAX_COLUMNS c =
    full _ _ _ _ c.loop-at.invariant c.loop-at-test.true c.if-count-eq-MAX_COLUMNS.true

pub returns-in_err-check_description : goal.returns-in_err-check_description
returns-in_err-check_description c =
    let p = err_from_is_err_and c.from_residual.result c.from_residual.ensures.1 in
    rw (p.1, p.2) (bad _ _ _ _ c.loop-at.invariant _ c.loop-at-test.true c.if-count-eq-MAX_COLUMNS.false
    (sym c.check_description.ensures ∙ c.in_err-check_description.was))

pub column_at-requires : goal.column_at-requires
column_at-requires c =
    let list = c.args.list.now in
    omega (arith, c.loop-at-test.true, (description_passed list c.loop-at.at (sym c.check_description.ensures ∙ c.in_ok-check_description.was)).0)

pub loop-at-preserved : goal.loop-at-preserved
loop-at-preserved c =
    more _ _ _ _ _ _ c.loop-at.invariant c.loop-at-test.true c.if-count-eq-MAX_COLUMNS.false
    (sym c.check_description.ensures ∙ c.in_ok-check_description.was) c.column_at.ensures c.description_bytes-at.ensures.value

pub returns : goal.returns
returns c =
    good _ _ _ _ c.loop-at.invariant c.loop-at-test.false (omega arith)
