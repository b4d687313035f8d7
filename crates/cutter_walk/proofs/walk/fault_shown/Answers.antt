-- `cutter_walk::walk::fault_shown` meets its contract. Assumes nothing.
use mathlib.Core.Path.{sym, ◌∙◌}
use native.Mathlib.Omega.{arith}
use Rattle.cutter_walk.proofs.walk.fault_shown.Goals as goal

pub overflow_sub-at : goal.overflow_sub-at
overflow_sub-at c = omega (arith, c.requires.0)

pub returns : goal.returns
returns c = rw (sym c.is_cut.ensures ∙ c.if-is_cut.false)

pub returns-then-is_cut : goal.returns-then-is_cut
returns-then-is_cut c = rw (sym c.is_cut.ensures ∙ c.if-is_cut.true)
