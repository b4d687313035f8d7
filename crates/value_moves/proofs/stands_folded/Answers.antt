-- `value_moves::stands_folded` meets its contract: the law of folding. Assumes nothing.
use Rattle.value_moves.proofs.Arms.{spelt_folded}
use Rattle.value_moves.proofs.stands_folded.Goals as goal

pub returns : goal.returns
returns g c =
    let value = c.number-2 in
    spelt_folded g.F.Word.SIZE (g.F.Word.value c.args.spelt) _ value.result _ value.ensures.fits c.decode.ensures
    (rw value.ensures.same c.decode-value.ensures) (rw (c.number.ensures.same, value.ensures.same) c.folded.ensures)
