-- `plate_calls::prefix::encode_agree` meets its contract: what encode refuses of either sheet is refused, and else rows share their first
-- fields exactly where the sheets share their first values. Assumes nothing.
use Rattle.std.proofs.lemmas.Result.{err_from_is_err_and}
use Rattle.basics.proofs.Bytes.{bytes_of}
use Rattle.demands.proofs.Calls.{encode_refused, batch_written}
use Rattle.plates.proofs.Plates.{first_refused, second_refused, agree_refused, agree_both}
use Rattle.plate_calls.proofs.prefix.encode_agree.Goals as goal

pub returns-in_err-encode : goal.returns-in_err-encode
returns-in_err-encode c =
    let p = err_from_is_err_and c.from_residual.result c.from_residual.ensures.1 in
    rw (p.1, p.2) (agree_refused _ (first_refused _ _ (encode_refused c.encode.ensures _ c.in_err-encode.was)))

pub returns-in_err-encode-2 : goal.returns-in_err-encode-2
returns-in_err-encode-2 c =
    let p = err_from_is_err_and c.from_residual-in_err-encode-2.result c.from_residual-in_err-encode-2.ensures.1 in
    rw (p.1, p.2) (let v = batch_written c.encode.ensures (bytes_of c.args.sheet.now (λ i. (c.type_inv.sheet i).fits)) _ _ c.in_ok-encode.was in
    agree_refused _ (second_refused _ _ v.passes (encode_refused c.encode-2.ensures _ c.in_err-encode-2.was)))

-- ---- both
pub returns : goal.returns
returns c =
    agree_both
    (batch_written c.encode.ensures (bytes_of c.args.sheet.now (λ i. (c.type_inv.sheet i).fits)) _ _ c.in_ok-encode.was)
    (batch_written c.encode-2.ensures (bytes_of c.args.other.now (λ i. (c.type_inv.other i).fits)) _ _ c.in_ok-encode-2.was)
