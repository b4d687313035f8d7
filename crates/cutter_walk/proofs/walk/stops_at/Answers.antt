-- `cutter_walk::walk::stops_at` meets its contract. Assumes nothing.
use mathlib.Core.Path.{sym, subst}
use mathlib.Core.Bool.{Bool, false≢true}
use Rattle.cutter_walk.specs.Walks.{StopsAt}
use Rattle.cutter_walk.proofs.walk.stops_at.Goals as goal

pub returns-then-not-field : goal.returns-then-not-field
returns-then-not-field c = λ e. absurd (false≢true e)

pub returns-in-Start : goal.returns-in-Start
returns-in-Start c =
    let a = c.args in
    λ e. subst (λ (t : Bool). StopsAt t a.spot) (sym c.if-not-field.false) c.in-Start.is

pub returns-in_default : goal.returns-in_default
returns-in_default c = λ e. absurd (false≢true e)
