-- `fixed_decoder::decoder::decode_fixed_size_binary` meets its contract: the bytes are copied. Assumes nothing.
use Rattle.runs.proofs.Parts.{part_copied}
use Rattle.fixed_decoder.proofs.decoder.decode_fixed_size_binary.Goals as goal

pub returns : goal.returns
returns c =
    let A = c.args in
    part_copied A.at A.width 1 A.descending A.out.now A.row.now _ c.copy_bytes.ensures c.requires.0 c.requires.1
