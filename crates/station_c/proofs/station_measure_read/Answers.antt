-- `station_c::station_measure_read` meets its contract. Assumes nothing.
use Rattle.lent_calls.proofs.Entries.{measure_short, measure_long}
use Rattle.station_c.proofs.station_measure_read.Goals as goal

pub returns-then-answer-lt-ANSWER_BYTES : goal.returns-then-answer-lt-ANSWER_BYTES
returns-then-answer-lt-ANSWER_BYTES c = measure_short _ c.if-answer-lt-ANSWER_BYTES.true _ _ _

pub put_answer-requires : goal.put_answer-requires
put_answer-requires c = c.if-answer-lt-ANSWER_BYTES.false

pub returns : goal.returns
returns c =
    measure_long _ _ c.measure_listed.result c.if-answer-lt-ANSWER_BYTES.false c.put_answer.ensures _ _ _
    (c.measure_listed.ensures _ c.read_codes.ensures)
