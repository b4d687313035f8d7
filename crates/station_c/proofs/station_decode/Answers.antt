-- `station_c::station_decode` meets its contract: nothing is done, or what is ensured of every list that was read so holds of this one. Assumes
-- nothing.
use Rattle.lent_calls.proofs.Entries.{decode_short}
use Rattle.station_c.proofs.station_decode.Goals as goal

pub returns-then-answer-lt-ANSWER_BYTES : goal.returns-then-answer-lt-ANSWER_BYTES
returns-then-answer-lt-ANSWER_BYTES c = decode_short _ c.if-answer-lt-ANSWER_BYTES.true _ _ _ _ _

pub returns : goal.returns
returns c =
    c.decode_sized.ensures _ c.read_list.ensures
