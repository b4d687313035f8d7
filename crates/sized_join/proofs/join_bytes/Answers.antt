-- `sized_join::join_bytes` meets its contract: the offsets that are read, then a refusal stores nothing, and a success what
-- `write_offsets` ensures. Assumes nothing.
use Rattle.std.proofs.lemmas.Result.{err_from_is_err_and}
use Rattle.sized_join.proofs.Joins.{read_joined, no_entries, entries_stored}
use Rattle.sized_join.proofs.join_bytes.Goals as goal

pub returns-in_err-totals : goal.returns-in_err-totals
returns-in_err-totals c =
    let p = err_from_is_err_and c.from_residual.result c.from_residual.ensures.1 in
    rw (p.1, p.2, ← c.in_err-totals.was)
    (no_entries _ _ _ _ _ _ _ _ _ _
    (read_joined c.read_offsets.ensures c.read_offsets-2.ensures c.join.ensures) _ c.in_err-totals.was)

pub returns : goal.returns
returns c =
    rw (← c.in_ok-totals.was)
    (entries_stored _ _ _ _ _ _ _ _ _ _
    (read_joined c.read_offsets.ensures c.read_offsets-2.ensures c.join.ensures) _ _
    c.in_ok-totals.was c.requires.most _ c.write_offsets.ensures)
