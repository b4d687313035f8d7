-- `sized_encode::encode_with` meets its contract: the numbers are enough. Assumes nothing.
use Rattle.std.proofs.Common.{rules}
use Rattle.basics.proofs.Bytes.{bytes_of}
use Rattle.lent_calls.proofs.Entries.{encode_long}
use Rattle.sized_encode.proofs.encode_with.Goals as goal

pub returns : goal.returns
returns c =
    let args = c.args in
    λ list l.
    encode_long args.answer.now _ c.encode_bytes-r.result c.requires.long c.put_answer.ensures
    list args.n args.sheet.now args.rows.now args.offsets.now _ _ _
    (bytes_of args.offsets.now (λ i. search rules)) c.requires.used (c.encode_bytes-r.ensures list l)
