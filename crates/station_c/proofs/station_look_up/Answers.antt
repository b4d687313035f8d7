-- `station_c::station_look_up` meets its contract. Assumes nothing.
use Rattle.sized_look_up.proofs.LookUps.{look_up_short}
use Rattle.station_c.proofs.station_look_up.Goals as goal

pub returns-then-answer-lt-ANSWER_BYTES : goal.returns-then-answer-lt-ANSWER_BYTES
returns-then-answer-lt-ANSWER_BYTES c = look_up_short _ c.if-answer-lt-ANSWER_BYTES.true _ _ _ _ _ _

pub returns : goal.returns
returns c =
    c.look_up_sized.ensures _ c.read_list.ensures
