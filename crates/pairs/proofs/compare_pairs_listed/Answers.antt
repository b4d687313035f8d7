-- `pairs::compare_pairs_listed` meets its contract: each way out is that of the checks that led there. Assumes nothing.
use mathlib.Core.Path.{sym, ap, ◌∙◌}
use Rattle.std.proofs.lemmas.Result.{err_from_is_err_and}
use Rattle.format.specs.Check.{verdict}
use Rattle.row_pairs.specs.Pairs.{pair_rows}
use Rattle.row_pairs.proofs.Pairs.{pairs_passed}
use Rattle.pairs.proofs.Comparing.{bad_list, good_list, bad_first, bad_second, bad_pair, short, compared}
use Rattle.pairs.proofs.compare_pairs_listed.Goals as goal

pub returns-in_err-schema : goal.returns-in_err-schema
returns-in_err-schema c =
    let p = err_from_is_err_and c.from_residual.result c.from_residual.ensures.1 in
    λ list l.
    rw (p.1, p.2) (bad_list list _ _ _ _ _ _ _ l _ c.in_err-schema.was)

pub counted-requires : goal.counted-requires
counted-requires c =
    let A = c.args in
    let rows = pair_rows A.numbers.now A.bytes.now in
    (good_list c.requires.list A.n0 A.sheet0.now A.n1 A.sheet1.now rows A.answers.now _ c.requires.says _ c.in_ok-schema.was).limited

pub returns-in_err-first : goal.returns-in_err-first
returns-in_err-first c =
    let p = err_from_is_err_and c.from_residual-in_err-first.result c.from_residual-in_err-first.ensures.1 in
    λ list l.
    rw (p.1, p.2) (bad_first list _ _ _ _ _ _ _ l _ c.in_ok-schema.was _ (sym (ap verdict c.in_err-first.was) ∙ c.counted.ensures.check))

pub counted-requires-2 : goal.counted-requires-2
counted-requires-2 c =
    let A = c.args in
    let rows = pair_rows A.numbers.now A.bytes.now in
    (good_list c.requires.list A.n0 A.sheet0.now A.n1 A.sheet1.now rows A.answers.now _ c.requires.says _ c.in_ok-schema.was).limited

pub returns-in_err-second : goal.returns-in_err-second
returns-in_err-second c =
    let p = err_from_is_err_and c.from_residual-in_err-second.result c.from_residual-in_err-second.ensures.1 in
    λ list l.
    rw (p.1, p.2) (bad_second list _ _ _ _ _ _ _ l _ c.in_ok-schema.was (sym (ap verdict c.in_ok-first.was) ∙ c.counted.ensures.check)
    _ (sym (ap verdict c.in_err-second.was) ∙ c.counted-2.ensures.check))

pub returns-in_err-check_pairs : goal.returns-in_err-check_pairs
returns-in_err-check_pairs c =
    let p = err_from_is_err_and c.from_residual-in_err-check_pairs.result c.from_residual-in_err-check_pairs.ensures.1 in
    λ list l.
    rw (p.1, p.2) (bad_pair list _ _ _ _ _ _ _ l _ c.in_ok-schema.was (sym (ap verdict c.in_ok-first.was) ∙ c.counted.ensures.check)
    (sym (ap verdict c.in_ok-second.was) ∙ c.counted-2.ensures.check) _ (sym c.in_err-check_pairs.was ∙ c.check_pairs.ensures))

pub returns-then-answers-pairs : goal.returns-then-answers-pairs
returns-then-answers-pairs c =
    λ list l.
    rw c.pair_count-pairs.ensures
    (short list _ _ _ _ _ _ _ l _ c.in_ok-schema.was (sym (ap verdict c.in_ok-first.was) ∙ c.counted.ensures.check)
    (sym (ap verdict c.in_ok-second.was) ∙ c.counted-2.ensures.check) (sym c.in_ok-check_pairs.was ∙ c.check_pairs.ensures)
    (rw c.pair_count-pairs.ensures at c.if-answers-pairs.true))

pub write_orders-requires-clause-known : goal.write_orders-requires-clause-known
write_orders-requires-clause-known c = c.counted.ensures.facts _ c.in_ok-first.was

pub write_orders-requires-clause-known_2 : goal.write_orders-requires-clause-known_2
write_orders-requires-clause-known_2 c = c.counted-2.ensures.facts _ c.in_ok-second.was

pub write_orders-requires-clause-in_sheets : goal.write_orders-requires-clause-in_sheets
write_orders-requires-clause-in_sheets c =
    let A = c.args in
    pairs_passed A.n0 A.n1 (pair_rows A.numbers.now A.bytes.now) (sym c.check_pairs.ensures ∙ c.in_ok-check_pairs.was)

pub returns : goal.returns
returns c =
    λ list l.
    rw c.pair_count-pairs.ensures
    (compared list _ _ _ _ _ _ _ l _ c.in_ok-schema.was (sym (ap verdict c.in_ok-first.was) ∙ c.counted.ensures.check)
    (sym (ap verdict c.in_ok-second.was) ∙ c.counted-2.ensures.check) (sym c.in_ok-check_pairs.was ∙ c.check_pairs.ensures)
    (rw c.pair_count-pairs.ensures at c.if-answers-pairs.false) _ c.write_orders.ensures)
