use mathlib.Core.Path.{sym, ap, ◌∙◌}
use native.Mathlib.Omega.{arith}
use lib.ListN.{drop_of_length-le}
use borrow.Author.Tests.{eqb-true}
use Rattle.format.specs.Read.{from_bad}
use Rattle.laws.proofs.Parsed.{and_true}
use Rattle.laws.proofs.Parts.{part_rest}
use Rattle.variable_reader.proofs.Padding.{clear_more, clear_word}
use Rattle.plain_fields.proofs.clear.Goals as goal

pub loop-i-preserved-then-to-i-ge8 : goal.loop-i-preserved-then-to-i-ge8
loop-i-preserved-then-to-i-ge8 c =
    let inv = c.loop-i.invariant in (
      omega arith,
      λ e.
          let p = and_true _ _ e in
          clear_word (inv.1 p.0) 8 c.low.result (omega arith) c.low.ensures (eqb-true _ 0 p.1),
    )

pub loop-i-preserved-then-to-i-ge4 : goal.loop-i-preserved-then-to-i-ge4
loop-i-preserved-then-to-i-ge4 c =
    let inv = c.loop-i.invariant in (
      omega arith,
      λ e.
          let p = and_true _ _ e in
          clear_word (inv.1 p.0) 4 c.low-then-to-i-ge4.result (omega arith) c.low-then-to-i-ge4.ensures (eqb-true _ 0 p.1),
    )

pub loop-i-preserved : goal.loop-i-preserved
loop-i-preserved c =
    let inv = c.loop-i.invariant in (
      omega arith,
      λ e. let p = and_true _ _ e in clear_more (inv.1 p.0) (omega arith) (omega arith) (eqb-true _ 0 p.1),
    )

pub returns : goal.returns
returns c e =
    let part = c.args.part.now in
    let i = c.loop-i.i in
    sym (ap from_bad (part_rest part 0)) ∙ (c.loop-i.invariant.1 e).same
    ∙ ap from_bad (part_rest part i ∙ drop_of_length-le part {i = i} c.loop-i-test.false)
