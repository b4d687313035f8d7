-- `station_c::station_check_list` meets its contract. Assumes nothing.
use native.Mathlib.Omega.{arith}
use Rattle.lent_calls.proofs.Entries.{list_short, list_long}
use Rattle.station_c.proofs.station_check_list.Goals as goal

pub returns-then-answer-lt-ANSWER_BYTES : goal.returns-then-answer-lt-ANSWER_BYTES
returns-then-answer-lt-ANSWER_BYTES c =
    let args = c.args in
    list_short args.answer.now (omega arith) args.list.now

pub put_answer-requires : goal.put_answer-requires
put_answer-requires c = c.if-answer-lt-ANSWER_BYTES.false

pub returns : goal.returns
returns c =
    list_long _ _ c.check_list.result c.if-answer-lt-ANSWER_BYTES.false c.put_answer.ensures _ c.check_list.ensures
