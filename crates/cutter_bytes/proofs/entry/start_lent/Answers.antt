-- `cutter_bytes::entry::start_lent` meets its contract. Assumes nothing.
use Rattle.cutter_bytes.proofs.Entering.{start_short, start_few, start_long}
use Rattle.cutter_bytes.proofs.entry.start_lent.Goals as goal

pub returns-then-state-lt-STATE_BYTES : goal.returns-then-state-lt-STATE_BYTES
returns-then-state-lt-STATE_BYTES c = λ list is. start_short list c.args.state.now c.if-state-lt-STATE_BYTES.true

pub put_state-requires : goal.put_state-requires
put_state-requires c = record {
  count_le_max_columns = start_few c.requires.list _ (c.start_listed-started.ensures c.requires.list c.requires.says).state;
  state_size_in_bounds = c.if-state-lt-STATE_BYTES.false;
}

pub returns : goal.returns
returns c =
    λ list is. start_long list c.args.state.now _ c.start_listed-started.result.state _ _ c.if-state-lt-STATE_BYTES.false
    (c.start_listed-started.ensures list is) c.place_of.ensures c.put_state.ensures
