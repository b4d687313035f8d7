-- `station_c::station_read_list` meets its contract. Assumes nothing.
use Rattle.lent_calls.proofs.Entries.{read_short, read_long}
use Rattle.station_c.proofs.station_read_list.Goals as goal

pub returns-then-answer-lt-ANSWER_BYTES : goal.returns-then-answer-lt-ANSWER_BYTES
returns-then-answer-lt-ANSWER_BYTES c = read_short _ c.if-answer-lt-ANSWER_BYTES.true _ _

pub returns : goal.returns
returns c =
    read_long _ _ c.list_codes-r.result c.if-answer-lt-ANSWER_BYTES.false c.put_answer.ensures _ _ _ c.list_codes-r.ensures
