use mathlib.Core.Path.{sym, ◌∙◌}
use native.Mathlib.Omega.{arith}
use borrow.Author.Rules.{rules}
use Rattle.laws.proofs.Directed.{length_directed}
use Rattle.variable_reader.proofs.Padding.{clear_more, clear_bad}
use Rattle.variable_reader.proofs.reader.unpadded.Goals as goal

pub returns-then-byte-ne0 : goal.returns-then-byte-ne0
returns-then-byte-ne0 c =
    let A = c.args in
    clear_bad c.loop-i.invariant (search rules) (omega (arith, length_directed A.descending A.row.now))
    (λ z. c.if-byte-ne0.true (c.byte_at-byte.ensures ∙ z))

pub loop-i-preserved : goal.loop-i-preserved
loop-i-preserved c =
    let A = c.args in
    clear_more c.loop-i.invariant (search rules) (omega (arith, length_directed A.descending A.row.now))
    (sym c.byte_at-byte.ensures ∙ c.if-byte-ne0.false)
