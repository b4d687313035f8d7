-- `station_c::stream::station_cutter_start_read` meets its contract. Assumes nothing.
use Rattle.format.specs.Described.{coded}
use Rattle.station_c.proofs.Streaming.{start_short, start_long}
use Rattle.station_c.proofs.stream.station_cutter_start_read.Goals as goal

pub returns-then-answer-lt-ANSWER_BYTES : goal.returns-then-answer-lt-ANSWER_BYTES
returns-then-answer-lt-ANSWER_BYTES c = start_short _ c.if-answer-lt-ANSWER_BYTES.true _ _

pub start_lent-r-requires : goal.start_lent-r-requires
start_lent-r-requires c = record { list = coded c.args.descriptions.now; says = c.read_codes.ensures }

pub returns : goal.returns
returns c =
    start_long _ _ c.start_lent-r.result c.if-answer-lt-ANSWER_BYTES.false c.put_answer.ensures _ _ _ (c.start_lent-r.ensures _ c.read_codes.ensures)
