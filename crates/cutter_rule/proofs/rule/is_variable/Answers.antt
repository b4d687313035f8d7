-- `cutter_rule::rule::is_variable` meets its contract. Assumes nothing.
use mathlib.Core.Path.{ap, sym}
use Rattle.format.specs.declared.Kind.{Kind}
use Rattle.format.specs.Kinds.{shape}
use Rattle.cutter_rule.specs.Standing.{is_variable}
use Rattle.cutter_rule.proofs.Rules.{fixed_kind}
use Rattle.cutter_rule.proofs.rule.is_variable.Goals as goal

pub returns-in-Variable : goal.returns-in-Variable
returns-in-Variable c = sym (ap (λ (k : Kind). is_variable (shape k)) c.in-Variable.is)

pub returns-in_default : goal.returns-in_default
returns-in_default c = fixed_kind c.args.kind c.in_default.not-Variable
