-- `cutter::entry::cut_counted` meets its contract: 33, the refusal that stands, 14, and then what the walk says. Assumes nothing.
use mathlib.Core.Path.{◌≡◌, sym, subst, ◌∙◌}
use mathlib.Core.Bool.{true}
use Rattle.format.specs.CutterRule.{keeps}
use Rattle.cutter_step.specs.declared.Place.{Place}
use Rattle.cutter_step.specs.Places.{state_at}
use Rattle.cutter_walk.proofs.Walking.{whole_walk}
use Rattle.cutter.proofs.Entering.{cut_broken, cut_stands, cut_kept, cut_short, cut_refused, cut_done}
use Rattle.cutter.proofs.entry.cut_counted.Goals as goal

pub returns-then-not-keeps : goal.returns-then-not-keeps
returns-then-not-keeps c =
    let a = c.args in
    cut_broken a.state a.piece.now a.ends.now _ (sym c.keeps.ensures ∙ c.if-not-keeps.true) c.kept_back.ensures

pub returns-in-Err : goal.returns-in-Err
returns-in-Err c =
    let a = c.args in
    cut_stands a.state a.piece.now a.ends.now (sym c.keeps.ensures ∙ c.if-not-keeps.false) _ _ c.in-Err.is c.kept_back-in-Err.ensures

pub returns-then-ends-piece : goal.returns-then-ends-piece
returns-then-ends-piece c =
    let a = c.args in
    cut_short a.state a.piece.now a.ends.now (sym c.keeps.ensures ∙ c.if-not-keeps.false) c.in_default.is _ c.if-ends-piece.true
    c.kept_back-then-ends-piece.ensures

pub walk-walked-requires : goal.walk-walked-requires
walk-walked-requires c =
    let a = c.args in
    subst (λ (p : Place). keeps (state_at a.state.schema p) ≡ true) (sym c.place_of.ensures)
    (cut_kept a.state a.piece.now a.ends.now (sym c.keeps.ensures ∙ c.if-not-keeps.false) c.in_default.is)

pub returns-in-Err-check : goal.returns-in-Err-check
returns-in-Err-check c =
    let a = c.args in
    let walked = c.walk-walked.ensures in
    cut_refused a.state a.piece.now a.ends.now (sym c.keeps.ensures ∙ c.if-not-keeps.false) c.in_default.is c.if-ends-piece.false _
    c.place_of.ensures _ _
    (whole_walk a.state.schema _ a.piece.now a.ends.now c.walk-walked.result _ c.if-ends-piece.false walked.walked_on walked.ends_len_bound) _
    c.in-Err-check.is

pub returns : goal.returns
returns c =
    let a = c.args in
    let walked = c.walk-walked.ensures in
    cut_done a.state a.piece.now a.ends.now (sym c.keeps.ensures ∙ c.if-not-keeps.false) c.in_default.is c.if-ends-piece.false _
    c.place_of.ensures _ _
    (whole_walk a.state.schema _ a.piece.now a.ends.now c.walk-walked.result _ c.if-ends-piece.false walked.walked_on walked.ends_len_bound)
    c.in_default-check.is
