-- `variable_writer::encoder::last_word` meets its contract: the top bytes of the word that ends the value. Assumes nothing.
use native.Mathlib.Omega.{arith}
use borrow.Author.Rules.{rules}
use Rattle.basics.proofs.Bytes.{bytes_of}
use Rattle.variable_writer.proofs.Padded.{word_last}
use Rattle.variable_writer.proofs.encoder.last_word.Goals as goal

pub returns : goal.returns
returns c =
    let A = c.args in
    word_last 8 c.low.result A.val.now A.from (omega arith) (omega arith) (search rules)
    (bytes_of A.val.now (λ i. (c.shared_slice_known-1.given i).fits)) c.low.ensures
