use mathlib.Core.Path.{ap, ◌∙◌}
use Rattle.format.specs.CompareSheets.{pairs_fault}
use Rattle.row_pairs.specs.Pairs.{pair_rows}
use Rattle.row_pairs.proofs.Pairs.{checking_begin, checking_end, first_past, second_past, checking_more}
use Rattle.row_pairs.proofs.check_pairs.Goals as goal

pub loop-k-init : goal.loop-k-init
loop-k-init c = checking_begin _ _ _ _

pub returns-then-n-i : goal.returns-then-n-i
returns-then-n-i c =
    let A = c.args in
    let rows = pair_rows A.numbers.now A.bytes.now in
    first_past A.n A.m rows _ c.loop-k.k c.loop-k.invariant c.loop-k-test.true _ _ c.row_at-i.ensures c.row_at-j.ensures c.if-n-i.true
    ∙ ap (pairs_fault A.n A.m rows 0) c.pair_count-pairs.ensures

pub returns-then-m-j : goal.returns-then-m-j
returns-then-m-j c =
    let A = c.args in
    let rows = pair_rows A.numbers.now A.bytes.now in
    second_past A.n A.m rows _ c.loop-k.k c.loop-k.invariant c.loop-k-test.true _ _ c.row_at-i.ensures c.row_at-j.ensures c.if-n-i.false c.if-m-j.true
    ∙ ap (pairs_fault A.n A.m rows 0) c.pair_count-pairs.ensures

pub loop-k-preserved : goal.loop-k-preserved
loop-k-preserved c =
    let A = c.args in
    checking_more A.n A.m (pair_rows A.numbers.now A.bytes.now) _ c.loop-k.k c.loop-k.invariant c.loop-k-test.true _ _
    c.row_at-i.ensures c.row_at-j.ensures c.if-n-i.false c.if-m-j.false

pub returns : goal.returns
returns c =
    let A = c.args in
    let rows = pair_rows A.numbers.now A.bytes.now in
    checking_end A.n A.m rows _ c.loop-k.k c.loop-k.invariant c.loop-k-test.false ∙ ap (pairs_fault A.n A.m rows 0) c.pair_count-pairs.ensures
