-- `station_c::station_compare_pairs` meets its contract: no row number is in a list. Assumes nothing.
use native.Mathlib.Omega.{arith}
use Rattle.lent_calls.proofs.Comparing.{pairs_short, pairs_long}
use Rattle.station_c.proofs.station_compare_pairs.Goals as goal

pub returns-then-answer-lt-ANSWER_BYTES : goal.returns-then-answer-lt-ANSWER_BYTES
returns-then-answer-lt-ANSWER_BYTES c =
    let A = c.args in
    pairs_short A.answer.now (omega arith) _ A.n0 A.sheet0.now A.n1 A.sheet1.now A.pairs.now A.answers.now

pub put_answer-requires : goal.put_answer-requires
put_answer-requires c = c.if-answer-lt-ANSWER_BYTES.false

pub returns : goal.returns
returns c =
    let A = c.args in
    pairs_long A.answer.now _ c.compare_pairs_listed-r.result c.if-answer-lt-ANSWER_BYTES.false c.put_answer.ensures _ A.n0 A.sheet0.now A.n1
    A.sheet1.now A.pairs.now A.answers.now _ (c.compare_pairs_listed-r.ensures _ c.read_list.ensures)
