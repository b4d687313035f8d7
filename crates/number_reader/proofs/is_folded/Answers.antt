-- `number_reader::is_folded` meets its contract: the law of folding. Assumes nothing.
use Rattle.number_reader.proofs.Taking.{float_folded}
use Rattle.number_reader.proofs.is_folded.Goals as goal

pub returns : goal.returns
returns g c =
    let value = c.number-2 in
    float_folded g.F.Word.SIZE _ value.result _ value.ensures.fits (rw value.ensures.same c.number_at-value.ensures)
    (rw (c.number.ensures.same, value.ensures.same) c.folded.ensures)
