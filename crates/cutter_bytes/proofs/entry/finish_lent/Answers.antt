-- `cutter_bytes::entry::finish_lent` meets its contract. Assumes nothing.
use mathlib.Core.Path.{subst, ◌∙◌}
use Rattle.format.specs.declared.Cutter.{Cutter}
use Rattle.format.specs.Promises.{Finished}
use Rattle.cutter_bytes.proofs.Entering.{short_broken, other_broken, read_few, read_written, finish_broken, finish_read}
use Rattle.cutter_bytes.proofs.entry.finish_lent.Goals as goal

pub returns-then-state-lt-STATE_BYTES : goal.returns-then-state-lt-STATE_BYTES
returns-then-state-lt-STATE_BYTES c = let state = c.args.state.now in finish_broken state (short_broken state c.if-state-lt-STATE_BYTES.true)

pub written_as-requires : goal.written_as-requires
written_as-requires c = record {
  count_le_max_columns = read_few c.args.state.now _ c.read_state-s.ensures;
  state_size_in_bounds = c.if-state-lt-STATE_BYTES.false;
}

pub returns-then-not-written_as : goal.returns-then-not-written_as
returns-then-not-written_as c =
    let state = c.args.state.now in
    finish_broken state
    (other_broken state (read_written state _ c.read_state-s.ensures _ _ c.place_of.ensures c.written_as.ensures ∙ c.if-not-written_as.true))

pub returns : goal.returns
returns c =
    let state = c.args.state.now in
    finish_read state c.if-state-lt-STATE_BYTES.false
    (read_written state _ c.read_state-s.ensures _ _ c.place_of.ensures c.written_as.ensures ∙ c.if-not-written_as.false)
    _ (subst (λ (t : Cutter). Finished t c.finish.result) c.read_state-s.ensures c.finish.ensures)
