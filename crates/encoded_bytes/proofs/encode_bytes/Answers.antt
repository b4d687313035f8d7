-- `encoded_bytes::encode_bytes` meets its contract: a refusal stores nothing, a success what `write_offsets` ensures. Assumes
-- nothing.
use Rattle.std.proofs.lemmas.Result.{err_from_is_err_and}
use Rattle.encoded_bytes.proofs.Stores.{none_stored, ends_stored}
use Rattle.encoded_bytes.proofs.encode_bytes.Goals as goal

pub returns-in_err-totals : goal.returns-in_err-totals
returns-in_err-totals c =
    let p = err_from_is_err_and c.from_residual.result c.from_residual.ensures.1 in
    λ list l.
    rw (p.1, p.2, ← c.in_err-totals.was) (none_stored list _ _ _ _ _ _ _ _ (c.encode_listed.ensures list l) _ c.in_err-totals.was)

pub returns : goal.returns
returns c =
    λ list l.
    rw (← c.in_ok-totals.was)
    (ends_stored list _ _ _ _ _ _ _ _ (c.encode_listed.ensures list l) _ _ c.in_ok-totals.was c.requires.held.most _
    c.write_offsets.ensures)
