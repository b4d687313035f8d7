-- `moves::lead::lead_fixed` meets its contract: each answer by the tests before it. Assumes nothing.
use mathlib.Core.Path.{sym, ◌∙◌}
use borrow.Author.Tests.{eq-eqb, ne_eqb}
use Rattle.moves.proofs.lead.lead_fixed.Goals as goal

pub returns-then-width-eq0 : goal.returns-then-width-eq0
returns-then-width-eq0 c = rw (sym c.null_lead.ensures ∙ c.if-null_lead.true, eq-eqb _ _ c.if-width-eq0.true)

pub returns-then-null_lead : goal.returns-then-null_lead
returns-then-null_lead c = rw (sym c.null_lead.ensures ∙ c.if-null_lead.true, ne_eqb _ _ c.if-width-eq0.false)

pub returns-then-width-eq0-2 : goal.returns-then-width-eq0-2
returns-then-width-eq0-2 c = rw (sym c.null_lead.ensures ∙ c.if-null_lead.false, eq-eqb _ _ c.if-byte-eq1.true, eq-eqb _ _ c.if-width-eq0-2.true)

pub returns-then-byte-eq1 : goal.returns-then-byte-eq1
returns-then-byte-eq1 c = rw (sym c.null_lead.ensures ∙ c.if-null_lead.false, eq-eqb _ _ c.if-byte-eq1.true, ne_eqb _ _ c.if-width-eq0-2.false)

pub returns : goal.returns
returns c = rw (sym c.null_lead.ensures ∙ c.if-null_lead.false, ne_eqb _ _ c.if-byte-eq1.false)
