-- `station_c::stream::station_cut` meets its contract. Assumes nothing.
use Rattle.station_c.proofs.Streaming.{cut_short, cut_long}
use Rattle.station_c.proofs.stream.station_cut.Goals as goal

pub returns-then-answer-lt-ANSWER_BYTES : goal.returns-then-answer-lt-ANSWER_BYTES
returns-then-answer-lt-ANSWER_BYTES c = cut_short _ c.if-answer-lt-ANSWER_BYTES.true _ _ _

pub returns : goal.returns
returns c =
    cut_long _ _ c.cut_lent-r.result c.if-answer-lt-ANSWER_BYTES.false c.put_answer.ensures _ _ _ _ _ c.cut_lent-r.ensures
