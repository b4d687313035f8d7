-- `folds::folded` meets its contract: the law of folding, at the numbers of the word. Assumes nothing.
use Prim.Native.Nat.{◌+◌, ◌^◌}
use mathlib.Core.Path.{◌≡◌}
use native.Mathlib.Omega.{arith}
use Rattle.format.specs.Value.{half}
use Rattle.folds.proofs.Folds.{folds_to}
use Rattle.folds.proofs.folded.Goals as goal

pub returns : goal.returns
returns g c =
    let n = g.F.Word.SIZE in
    let bits = c.number-bits in
    let laws = g.met.F.Float in
    let top : g.F.Word.TOP ≡ half n = omega (arith, g.met.F.Word.halves) in
    let halves : half n + half n ≡ 256 ^ n = omega (arith, g.met.F.Word.halves, top) in
    rw (c.of.ensures, c.INFINITY.ensures, c.TOP.ensures, c.TOP-2.ensures, c.NAN.ensures, laws.infinite, laws.one, top, ← bits.ensures.same)
    (folds_to n laws.folds halves c.args.fold bits.result bits.ensures.fits)
