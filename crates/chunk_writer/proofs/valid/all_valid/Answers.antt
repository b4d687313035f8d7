-- `chunk_writer::valid::all_valid` meets its contract: a word of ones is 64 rows that have values. Assumes nothing.
use Prim.Native.Nat.{◌*◌, ◌/◌}
use mathlib.Core.Path.{◌≡◌}
use native.Mathlib.Omega.{arith}
use borrow.Author.Tests.{eqb-true}
use Rattle.basics.proofs.Bytes.{bytes_of}
use Rattle.bits.proofs.Clear.{word_set}
use Rattle.chunk_writer.proofs.valid.all_valid.Goals as goal

pub returns : goal.returns
returns c e r low high =
    let A = c.args in
    let k = A.from / 64 in
    let at : A.from / 8 ≡ 8 * k = omega (arith, c.if-from-ne0.false) in
    word_set A.part.now k (bytes_of A.part.now (λ i. (c.type_inv.part i).fits))
    (omega (arith, c.requires.1, c.if-from-ne0.false, c.if-to-from-ne64.false))
    (omega (arith, rw at at c.low.ensures, eqb-true c.low.result 18446744073709551615 e)) r
    (omega (arith, c.if-from-ne0.false)) (omega (arith, c.if-from-ne0.false, c.if-to-from-ne64.false))
