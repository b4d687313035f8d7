use Prim.Native.Nat.{◌/◌}
use mathlib.Core.Path.{◌≡◌, sym, ◌∙◌}
use native.Mathlib.Omega.{arith}
use Rattle.std.proofs.lemmas.Result.{err_from_is_err_and}
use lib.ListN.{length}
use Rattle.code_reader.proofs.CodeTurns.{start, more, empty, full, bad, good}
use Rattle.code_reader.proofs.read_codes.Goals as goal

pub returns-then-count-eq0 : goal.returns-then-count-eq0
returns-then-count-eq0 c = empty c.args.codes.now c.if-count-eq0.true

pub loop-i-init : goal.loop-i-init
loop-i-init c = start c.args.codes.now _ c.default-columns.ensures

pub returns-then-i-eq-MAX_COLUMNS : goal.returns-then-i-eq-MAX_COLUMNS
returns-then-i-eq-MAX_COLUMNS c =
    full _ _ _ c.loop-i.invariant c.loop-i-test.true c.if-i-eq-MAX_COLUMNS.true

pub returns-in_err-check_code : goal.returns-in_err-check_code
returns-in_err-check_code c =
    let p = err_from_is_err_and c.from_residual.result c.from_residual.ensures.1 in
    rw (p.1, p.2) (bad _ _ _ c.loop-i.invariant _ c.loop-i-test.true c.if-i-eq-MAX_COLUMNS.false
    (sym c.check_code.ensures ∙ c.in_err-check_code.was))

pub loop-i-preserved : goal.loop-i-preserved
loop-i-preserved c =
    more _ _ _ _ c.loop-i.invariant c.loop-i-test.true c.if-i-eq-MAX_COLUMNS.false
    (sym c.check_code.ensures ∙ c.in_ok-check_code.was) c.coded_column.ensures

pub returns : goal.returns
returns c =
    let all : length c.args.codes.now / 4 ≡ c.loop-i.i = omega arith in
    good _ _ _ c.loop-i.invariant c.loop-i-test.false (omega arith) _ all
