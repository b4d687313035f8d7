-- `number_order::order_number` meets its contract: the keys stand as what they spell. Assumes nothing.
use Prim.Native.Nat.{◌*◌}
use Rattle.number.specs.Codings.{coding_key}
use Rattle.number_order.proofs.Spelled.{spelled_at, spelled_order}
use Rattle.number_order.proofs.order_number.Goals as goal

pub returns : goal.returns
returns g c =
    let A = c.args in
    let n = g.W.Word.SIZE in
    let k = coding_key A.coding in
    spelled_order
    (spelled_at n k A.a.now (A.i * n) (λ i. (c.type_inv.a i).fits) c.requires.0 _ _ (rw c.SIZE.ensures at c.low-x.ensures) c.spell.ensures.spells)
    (spelled_at n k A.b.now (A.j * n) (λ i. (c.type_inv.b i).fits) c.requires.1 _ _ (rw c.SIZE-2.ensures at c.low-y.ensures) c.spell-2.ensures.spells)
    c.spell.ensures.fits c.spell-2.ensures.fits c.cmp.ensures
