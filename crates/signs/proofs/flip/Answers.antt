-- `signs::flip` meets its contract: the law of the top bit. Assumes nothing.
use Rattle.signs.proofs.Signed.{flipped}
use Rattle.signs.proofs.flip.Goals as goal

pub of-requires : goal.of-requires
of-requires g c = let n = c.number in rw c.TOP.ensures (flipped _ _ g.met.W.Word.halves n.result n.ensures.fits).0

pub returns : goal.returns
returns g c =
    let n = c.number in
    rw (c.of.ensures, c.TOP.ensures, ← n.ensures.same) (flipped _ _ g.met.W.Word.halves n.result n.ensures.fits).1
