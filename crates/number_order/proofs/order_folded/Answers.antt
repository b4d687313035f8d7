-- `number_order::order_folded` meets its contract: the keys of the folded floats stand as what they spell. Assumes nothing.
use Prim.Native.Nat.{◌*◌}
use Rattle.number.specs.Codings.{coding_key}
use Rattle.number_order.proofs.Spelled.{folded_at, spelled_order}
use Rattle.number_order.proofs.order_folded.Goals as goal

pub returns : goal.returns
returns g c =
    let A = c.args in
    let n = g.F.Word.SIZE in
    let k = coding_key A.coding in
    spelled_order
    (folded_at n k A.fold A.a.now (A.i * n) (λ i. (c.type_inv.a i).fits) c.requires.0 _ _ _ (rw c.SIZE.ensures at c.low.ensures)
    c.folded-x.ensures c.spell.ensures.spells)
    (folded_at n k A.fold A.b.now (A.j * n) (λ i. (c.type_inv.b i).fits) c.requires.1 _ _ _ (rw c.SIZE-2.ensures at c.low-2.ensures)
    c.folded-y.ensures c.spell-2.ensures.spells)
    c.spell.ensures.fits c.spell-2.ensures.fits c.cmp.ensures
