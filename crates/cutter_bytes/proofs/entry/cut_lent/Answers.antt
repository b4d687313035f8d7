-- `cutter_bytes::entry::cut_lent` meets its contract. Assumes nothing.
use mathlib.Core.Path.{sym, ◌∙◌}
use Rattle.std.proofs.Common.{rules}
use Rattle.std.proofs.lemmas.Result.{err_from_is_err_and}
use Rattle.basics.proofs.Bytes.{bytes_of}
use Rattle.cutter_bytes.proofs.Entering.{open_keeps, short_broken, other_broken, unkept_broken, read_few, read_keeps, read_written, read_refusal, kept_of, cut_broken, cut_stands, cut_short, cut_refuses, cut_done}
use Rattle.cutter_bytes.proofs.entry.cut_lent.Goals as goal

pub returns-then-state-lt-STATE_BYTES : goal.returns-then-state-lt-STATE_BYTES
returns-then-state-lt-STATE_BYTES c =
    let a = c.args in
    cut_broken a.state.now a.piece.now a.ends.now (bytes_of a.ends.now (λ i. (c.type_inv.ends i).fits))
    (short_broken a.state.now c.if-state-lt-STATE_BYTES.true)

pub written_as-requires : goal.written_as-requires
written_as-requires c = record {
  count_le_max_columns = read_few c.args.state.now _ c.read_state-s.ensures;
  state_size_in_bounds = c.if-state-lt-STATE_BYTES.false;
}

pub returns-then-not-written_as : goal.returns-then-not-written_as
returns-then-not-written_as c =
    let a = c.args in
    cut_broken a.state.now a.piece.now a.ends.now (bytes_of a.ends.now (λ i. (c.type_inv.ends i).fits))
    (other_broken a.state.now (read_written a.state.now _ c.read_state-s.ensures _ _ c.place_of-first.ensures c.written_as.ensures ∙ c.if-not-written_as.true))

pub returns-then-not-keeps : goal.returns-then-not-keeps
returns-then-not-keeps c =
    let a = c.args in
    cut_broken a.state.now a.piece.now a.ends.now (bytes_of a.ends.now (λ i. (c.type_inv.ends i).fits))
    (unkept_broken a.state.now (read_keeps a.state.now _ c.read_state-s.ensures _ c.keeps.ensures ∙ c.if-not-keeps.true))

pub returns-in_err-refusal : goal.returns-in_err-refusal
returns-in_err-refusal c =
    let p = err_from_is_err_and c.from_residual.result c.from_residual.ensures.1 in
    let a = c.args in
    let q = kept_of a.state.now _ c.read_state-s.ensures _ c.place_of-first.ensures c.if-state-lt-STATE_BYTES.false
    c.written_as.ensures c.if-not-written_as.false c.keeps.ensures c.if-not-keeps.false in
    rw (p.1, p.2)
    (cut_stands a.state.now a.piece.now a.ends.now (bytes_of a.ends.now (λ i. (c.type_inv.ends i).fits)) q _
    (read_refusal a.state.now _ c.read_state-s.ensures _ c.in_err-refusal.was))

pub returns-then-ends-piece : goal.returns-then-ends-piece
returns-then-ends-piece c =
    let a = c.args in
    let q = kept_of a.state.now _ c.read_state-s.ensures _ c.place_of-first.ensures c.if-state-lt-STATE_BYTES.false
    c.written_as.ensures c.if-not-written_as.false c.keeps.ensures c.if-not-keeps.false in
    cut_short a.state.now a.piece.now a.ends.now (bytes_of a.ends.now (λ i. (c.type_inv.ends i).fits)) q
    (read_refusal a.state.now _ c.read_state-s.ensures _ c.in_ok-refusal.was) c.if-ends-piece.true

pub walk_sized-walked-requires : goal.walk_sized-walked-requires
walk_sized-walked-requires c =
    record {
      place_value = open_keeps c.read_state-s.result _ c.place_of-first.ensures c.in_ok-refusal.was (sym c.keeps.ensures ∙ c.if-not-keeps.false);
      piece_in_bounds = c.if-ends-piece.false;
    }

pub returns-in-Err : goal.returns-in-Err
returns-in-Err c =
    let a = c.args in
    let q = kept_of a.state.now _ c.read_state-s.ensures _ c.place_of-first.ensures c.if-state-lt-STATE_BYTES.false
    c.written_as.ensures c.if-not-written_as.false c.keeps.ensures c.if-not-keeps.false in
    cut_refuses a.state.now a.piece.now a.ends.now (bytes_of a.ends.now (λ i. search rules)) q
    (read_refusal a.state.now _ c.read_state-s.ensures _ c.in_ok-refusal.was) c.if-ends-piece.false _ c.read_state-s.ensures _ c.place_of-first.ensures _ _ _
    c.walk_sized-walked.ensures _ c.in-Err.is c.put_refused.ensures

pub returns : goal.returns
returns c =
    let a = c.args in
    let q = kept_of a.state.now _ c.read_state-s.ensures _ c.place_of-first.ensures c.if-state-lt-STATE_BYTES.false
    c.written_as.ensures c.if-not-written_as.false c.keeps.ensures c.if-not-keeps.false in
    cut_done a.state.now a.piece.now a.ends.now (bytes_of a.ends.now (λ i. search rules)) q
    (read_refusal a.state.now _ c.read_state-s.ensures _ c.in_ok-refusal.was) c.if-ends-piece.false _ c.read_state-s.ensures _ c.place_of-first.ensures _ _ _
    c.walk_sized-walked.ensures c.in_default.is c.put_numbers.ensures
