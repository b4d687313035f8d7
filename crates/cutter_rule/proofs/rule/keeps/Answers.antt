-- `cutter_rule::rule::keeps` meets its contract. By the refusal that stands. Assumes nothing.
use mathlib.Core.Path.{ap, sym, ◌∙◌}
use mathlib.Core.Bool.{Bool, ◌&&◌}
use Rattle.format.specs.Numbers.{refusal_numbers}
use Rattle.format.specs.CutterRule.{numbers_kept}
use Rattle.cutter_rule.proofs.Rules.{rule_stands, rule_refused}
use Rattle.cutter_rule.proofs.rule.keeps.Goals as goal

pub returns-then-not-emptied : goal.returns-then-not-emptied
returns-then-not-emptied c =
    rule_refused c.args.state _ _ c.in-Err.is
    (sym (ap (λ (t : Bool). t && numbers_kept (refusal_numbers c.in-Err.r)) (sym c.emptied.ensures ∙ c.if-not-emptied.true)))

pub returns-in-Ok : goal.returns-in-Ok
returns-in-Ok c =
    rule_stands c.args.state _ c.in-Ok.is c.stands.ensures

pub returns-else-not-emptied : goal.returns-else-not-emptied
returns-else-not-emptied c =
    rule_refused c.args.state _ _ c.in-Err.is
    (c.numbers_kept.ensures ∙ ap numbers_kept c.from-numbers.ensures
    ∙ sym (ap (λ (t : Bool). t && numbers_kept (refusal_numbers c.in-Err.r)) (sym c.emptied.ensures ∙ c.if-not-emptied.false)))
