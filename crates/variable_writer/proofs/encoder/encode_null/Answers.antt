-- `variable_writer::encoder::encode_null` meets its contract: the byte is stored as it is. Assumes nothing.
use mathlib.Core.Path.{refl, ap, ◌∙◌}
use lib.ListN.{set}
use Rattle.variable_writer.proofs.encoder.encode_null.Goals as goal

pub returns : goal.returns
returns c =
    let A = c.args in
    record { place = refl; bytes = c.put_byte.ensures ∙ ap (set A.out.now A.at) c.null_sentinel.ensures }
