-- `station_c::station_measure` meets its contract. Assumes nothing.
use native.Mathlib.Omega.{arith}
use Rattle.lent_calls.proofs.Entries.{measure_short, measure_long}
use Rattle.station_c.proofs.station_measure.Goals as goal

pub returns-then-answer-lt-ANSWER_BYTES : goal.returns-then-answer-lt-ANSWER_BYTES
returns-then-answer-lt-ANSWER_BYTES c =
    let args = c.args in
    measure_short args.answer.now (omega arith) _ args.n args.sheet.now

pub put_answer-requires : goal.put_answer-requires
put_answer-requires c = c.if-answer-lt-ANSWER_BYTES.false

pub returns : goal.returns
returns c =
    measure_long _ _ c.measure.result c.if-answer-lt-ANSWER_BYTES.false c.put_answer.ensures _ _ _ c.measure.ensures
