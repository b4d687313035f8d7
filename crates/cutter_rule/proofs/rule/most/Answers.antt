-- `cutter_rule::rule::most` meets its contract. Assumes nothing.
use mathlib.Core.Path.{ap, sym}
use native.Mathlib.Omega.{arith}
use Rattle.format.specs.declared.Kind.{Kind}
use Rattle.format.specs.Kinds.{shape}
use Rattle.format.specs.CutterRule.{most}
use Rattle.cutter_rule.proofs.Rules.{fixed_most}
use Rattle.cutter_rule.proofs.rule.most.Goals as goal

pub returns-in-Variable : goal.returns-in-Variable
returns-in-Variable c = (sym (ap (λ (k : Kind). most (shape k)) c.in-Variable.is), omega arith)

pub returns-in_default : goal.returns-in_default
returns-in_default c =
    (fixed_most c.args.kind _ c.in_default.not-Variable c.width.ensures, omega arith)
