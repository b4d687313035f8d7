-- `signs::rank` meets its contract: the law of the mask. Assumes nothing.
use Rattle.signs.proofs.Signed.{ranked}
use Rattle.signs.proofs.rank.Goals as goal

pub of-requires : goal.of-requires
of-requires g c =
    let W = g.met.W.Word in
    let n = c.number-2 in
    rw (c.TOP.ensures, c.number.ensures.same, c.sign.ensures, ← n.ensures.same) (ranked _ _ _ W.halves W.all n.result n.ensures.fits).0

pub returns : goal.returns
returns g c =
    let W = g.met.W.Word in
    let n = c.number-2 in
    rw (c.of.ensures, c.TOP.ensures, c.number.ensures.same, c.sign.ensures, ← n.ensures.same) (ranked _ _ _ W.halves W.all n.result n.ensures.fits).1
