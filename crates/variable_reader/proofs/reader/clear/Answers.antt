use Prim.Native.Nat.{ℕ, ◌+◌, ◌-◌, ◌*◌, ◌/◌, ◌%◌, ◌^◌, ◌<◌}
use mathlib.Core.Path.{◌≡◌, subst}
use native.Mathlib.Omega.{arith}
use lib.ListN.{get_or}
use borrow.Author.Tests.{eqb-true}
use Rattle.format.specs.Field.{directed}
use Rattle.basics.proofs.Bytes.{bytes_of}
use Rattle.laws.proofs.Directed.{bytes_directed, length_directed}
use Rattle.variable_reader.proofs.Padding.{Clear, turned_word, clear_word, clear_top}
use Rattle.variable_reader.proofs.reader.clear.Goals as goal

pub loop-k-preserved : goal.loop-k-preserved
loop-k-preserved c =
    let A = c.args in
    let t = directed A.descending A.row.now in
    let i = A.from + 8 * c.loop-k.k in
    let next = clear_word c.loop-k.invariant 8 c.directed-word.result (omega arith)
    (turned_word A.descending A.row.now i 8 c.low.result c.directed-word.result
    (λ j. (c.type_inv.row j).fits) (omega arith) c.directed-word.type_inv c.low.ensures c.directed-word.ensures)
    c.if-word-ne0.false in
    subst (Clear t A.from A.to) {x = i + 8} {y = A.from + 8 * (c.loop-k.k + 1)} (omega arith) next

pub returns : goal.returns
returns c e =
    let A = c.args in
    let word = c.directed-word-2.result in
    let known : (j : ℕ) → get_or A.row.now j 0 < 256 = λ j. (c.type_inv.row j).fits in
    let left : (A.to - A.from) % 8 ≡ A.to - (A.from + 8 * c.loop-k.k) = omega arith in
    clear_top c.loop-k.invariant 8 word (omega arith) (omega arith) (omega (arith, length_directed A.descending A.row.now))
    (bytes_directed A.descending A.row.now (bytes_of A.row.now known))
    (turned_word A.descending A.row.now (A.to - 8) 8 c.low-2.result word known (omega arith)
    c.directed-word-2.type_inv c.low-2.ensures c.directed-word-2.ensures)
    (subst (λ (n : ℕ). word / 2 ^ (8 * (8 - n)) ≡ 0) left (eqb-true (word / 2 ^ (8 * (8 - (A.to - A.from) % 8))) 0 e))
