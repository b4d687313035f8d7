-- `round_trip::decode_encode` meets its contract: what decode refuses is refused, and the sheet that it wrote, which stands in
-- front of the buffer, came to the same rows again. Assumes nothing.
use mathlib.Core.Path.{sym}
use lib.Seq.{length-take-le}
use Rattle.std.proofs.lemmas.Result.{err_from_is_err_and}
use Rattle.basics.proofs.Bytes.{bytes_of}
use Rattle.demands.proofs.Calls.{part_there, again_refused, again_done}
use Rattle.round_trip.proofs.decode_encode.Goals as goal

-- decode refused
pub returns-in_err-bytes : goal.returns-in_err-bytes
returns-in_err-bytes c =
    let p = err_from_is_err_and c.from_residual.result c.from_residual.ensures.1 in
    rw (p.1, p.2) (again_refused c.decode.ensures _ _ _ c.in_err-bytes.was)

pub slice_bounds-encode-end : goal.slice_bounds-encode-end
slice_bounds-encode-end c = part_there c.decode.ensures _ _ c.in_ok-bytes.was

pub slice_bounds-encode-end-2 : goal.slice_bounds-encode-end-2
slice_bounds-encode-end-2 c =
    sym (length-take-le _ _ (part_there c.decode.ensures _ _ c.in_ok-bytes.was))

-- and encode was called
pub returns : goal.returns
returns c =
    again_done c.decode.ensures _ _ c.in_ok-bytes.was _ _ (bytes_of c.args.rows.now (λ i. (c.type_inv.rows i).fits)) c.encode.ensures
