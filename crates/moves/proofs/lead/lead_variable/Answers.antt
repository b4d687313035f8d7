-- `moves::lead::lead_variable` meets its contract: each answer by the tests before it. Assumes nothing.
use mathlib.Core.Path.{sym, ◌∙◌}
use borrow.Author.Tests.{eq-eqb, ne_eqb}
use Rattle.moves.proofs.lead.lead_variable.Goals as goal

pub returns-then-null_lead : goal.returns-then-null_lead
returns-then-null_lead c = rw (sym c.null_lead.ensures ∙ c.if-null_lead.true)

pub returns-then-lead-eq1 : goal.returns-then-lead-eq1
returns-then-lead-eq1 c =
    rw (sym c.null_lead.ensures ∙ c.if-null_lead.false, eq-eqb _ _ (sym c.turned-lead.ensures ∙ c.if-lead-eq1.true))

pub returns-then-lead-eq2 : goal.returns-then-lead-eq2
returns-then-lead-eq2 c =
    let lead = sym c.turned-lead.ensures in
    rw (sym c.null_lead.ensures ∙ c.if-null_lead.false, ne_eqb _ _ (λ e. c.if-lead-eq1.false (c.turned-lead.ensures ∙ e)), eq-eqb _ _ (lead ∙ c.if-lead-eq2.true))

pub returns : goal.returns
returns c =
    rw (sym c.null_lead.ensures ∙ c.if-null_lead.false, ne_eqb _ _ (λ e. c.if-lead-eq1.false (c.turned-lead.ensures ∙ e)), ne_eqb _ _ (λ e. c.if-lead-eq2.false (c.turned-lead.ensures ∙ e)))
