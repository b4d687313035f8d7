-- `cutter_rule::rule::fault_kept` meets its contract. Assumes nothing.
use mathlib.Core.Path.{sym, ◌∙◌}
use borrow.Author.Tests.{eq-eqb, ne_eqb}
use Rattle.cutter_rule.proofs.rule.fault_kept.Goals as goal

pub returns-then-within : goal.returns-then-within
returns-then-within c = rw (sym c.within.ensures ∙ c.if-within.true)

pub returns-then-number-eq23 : goal.returns-then-number-eq23
returns-then-number-eq23 c = rw (sym c.within.ensures ∙ c.if-within.false, eq-eqb _ _ c.if-number-eq23.true)

pub returns : goal.returns
returns c = rw (sym c.within.ensures ∙ c.if-within.false, ne_eqb _ _ c.if-number-eq23.false)
