-- `codecs::directed` meets its contract: the largest number less x has the inverted bytes. Assumes nothing.
use Prim.Native.Nat.{◌-◌, ◌^◌}
use mathlib.Core.Path.{◌≡◌}
use native.Mathlib.Omega.{arith}
use Rattle.signs.proofs.Keys.{invert_all}
use Rattle.codecs.proofs.directed.Goals as goal

pub returns-then-descending : goal.returns-then-descending
returns-then-descending g c =
    let n = c.number in
    let all : g.W.Word.ALL ≡ 256 ^ g.W.Word.SIZE - 1 = omega (arith, g.met.W.Word.all) in
    rw (c.if-descending.true, c.of.ensures, c.ALL.ensures, all, ← n.ensures.same) (invert_all g.W.Word.SIZE n.result n.ensures.fits)
