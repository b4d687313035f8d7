-- `station_c::stream::station_cutter_finish` meets its contract. Assumes nothing.
use Rattle.station_c.proofs.Streaming.{finish_short, finish_long}
use Rattle.station_c.proofs.stream.station_cutter_finish.Goals as goal

pub returns-then-answer-lt-ANSWER_BYTES : goal.returns-then-answer-lt-ANSWER_BYTES
returns-then-answer-lt-ANSWER_BYTES c = finish_short _ c.if-answer-lt-ANSWER_BYTES.true _

pub returns : goal.returns
returns c =
    finish_long _ _ c.finish_lent.result c.if-answer-lt-ANSWER_BYTES.false c.put_answer.ensures _ c.finish_lent.ensures
