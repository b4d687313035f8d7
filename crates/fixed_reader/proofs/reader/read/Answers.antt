-- `fixed_reader::reader::read` meets its contract: each way out is what the lead byte and the length make of the field. Assumes nothing.
use mathlib.Core.Path.{sym, ◌∙◌}
use native.Mathlib.Omega.{arith}
use Rattle.fixed_reader.proofs.Reading.{read_whole}
use Rattle.fixed_reader.proofs.reader.read.Goals as goal

pub returns : goal.returns
returns c k f g =
    let A = c.args in
    read_whole A.row.now A.width A.options k f g (omega arith) (sym c.null_lead.ensures ∙ c.if-null_lead.false) c.if-lead-ne1.false
    c.if-len-width.false
