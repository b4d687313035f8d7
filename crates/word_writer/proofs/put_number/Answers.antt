-- `word_writer::put_number` meets its contract: the word of the key is stored, or zeros. Assumes nothing.
use borrow.Author.Rules.{rules}
use Rattle.word_writer.proofs.Keyed.{word_is}
use Rattle.word_writer.proofs.put_number.Goals as goal

pub returns : goal.returns
returns g c =
    let A = c.args in
    let n = g.F.Word.SIZE in
    rw (
      c.put.ensures,
      c.or_zero.ensures,
      word_is n A.coding A.descending A.fold A.values.now A.from (λ i. (c.type_inv.values i).fits) c.requires.from_in_bounds
          _ (g.F.Word.value c.if-fold.value) _ _ c.low-x.ensures (search rules) c.encode.ensures c.directed-word.ensures,
    )
