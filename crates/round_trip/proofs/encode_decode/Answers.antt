-- `round_trip::encode_decode` meets its contract: what encode refuses is refused, and what it wrote came back. Assumes nothing.
use Rattle.std.proofs.lemmas.Result.{err_from_is_err_and}
use Rattle.basics.proofs.Bytes.{bytes_of}
use Rattle.demands.proofs.Calls.{back_refused, back_done}
use Rattle.round_trip.proofs.encode_decode.Goals as goal

-- encode refused
pub returns-in_err-encode : goal.returns-in_err-encode
returns-in_err-encode c =
    let p = err_from_is_err_and c.from_residual.result c.from_residual.ensures.1 in
    rw (p.1, p.2) (back_refused c.encode.ensures _ _ c.in_err-encode.was)

-- encode wrote, and decode was called
pub returns : goal.returns
returns c =
    back_done c.encode.ensures _ _ _ (bytes_of c.args.sheet.now (λ i. (c.type_inv.sheet i).fits)) c.in_ok-encode.was c.decode.ensures
