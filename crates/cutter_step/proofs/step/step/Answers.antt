-- `cutter_step::step::step` meets its contract: 12, or what the byte does to its field. Assumes nothing.
use mathlib.Core.Path.{ap, sym, subst}
use Rattle.moves.specs.Moves.{as_move}
use Rattle.cutter_step.specs.declared.Place.{Place}
use Rattle.cutter_step.specs.declared.Stepped.TheVariants.{Going}
use Rattle.cutter_step.specs.Places.{Steps}
use Rattle.cutter_step.proofs.Stepping.{step_full, step_on, step_whole, step_bad}
use Rattle.cutter_step.proofs.step.step.Goals as goal

pub returns-then-bytes-ge-MAX_TOTAL : goal.returns-then-bytes-ge-MAX_TOTAL
returns-then-bytes-ge-MAX_TOTAL c =
    let a = c.args in
    step_full a.column a.count a.place a.byte c.if-bytes-ge-MAX_TOTAL.true

pub returns-in-On : goal.returns-in-On
returns-in-On c =
    let a = c.args in
    subst (λ (p : Place). Steps a.column a.count a.place a.byte (Going p)) (sym c.going.ensures)
    (step_on a.column a.count a.place a.byte c.if-bytes-ge-MAX_TOTAL.false _ c.move_in-moved.ensures _ (ap as_move c.in-On.is))

pub returns-in-Whole : goal.returns-in-Whole
returns-in-Whole c =
    let a = c.args in
    subst (Steps a.column a.count a.place a.byte) (sym c.field_ended.ensures)
    (step_whole a.column a.count a.place a.byte c.if-bytes-ge-MAX_TOTAL.false _ c.move_in-moved.ensures (ap as_move c.in-Whole.is))

pub returns-in-Bad : goal.returns-in-Bad
returns-in-Bad c =
    let a = c.args in
    step_bad a.column a.count a.place a.byte c.if-bytes-ge-MAX_TOTAL.false _ c.move_in-moved.ensures _ _ (ap as_move c.in-Bad.is)
