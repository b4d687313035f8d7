-- `sized_decode::decode_with` meets its contract: the numbers are enough. Assumes nothing.
use Rattle.lent_calls.proofs.Entries.{decode_long}
use Rattle.sized_decode.proofs.decode_with.Goals as goal

pub returns : goal.returns
returns c =
    let args = c.args in
    λ list l.
    decode_long args.answer.now _ c.decode_listed-r.result c.requires.long c.put_answer.ensures
    list args.n args.rows.now args.offsets.now args.sheet.now _ _ _ c.requires.used c.read_offsets.ensures (c.decode_listed-r.ensures list l)
