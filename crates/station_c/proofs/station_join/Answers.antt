-- `station_c::station_join` meets its contract. Assumes nothing.
use Rattle.sized_join.proofs.Joins.{join_short}
use Rattle.station_c.proofs.station_join.Goals as goal

pub returns-then-answer-lt-ANSWER_BYTES : goal.returns-then-answer-lt-ANSWER_BYTES
returns-then-answer-lt-ANSWER_BYTES c = join_short _ _ _ _ _ _ _ _ c.if-answer-lt-ANSWER_BYTES.true

pub join_sized-requires : goal.join_sized-requires
join_sized-requires c =
    record {
      long = c.if-answer-lt-ANSWER_BYTES.false;
      first_used = c.used_offsets-f.ensures;
      second_used = c.used_offsets-s.ensures;
      entries_used = c.used_entries-k.ensures;
    }
