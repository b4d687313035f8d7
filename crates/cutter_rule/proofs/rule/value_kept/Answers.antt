-- `cutter_rule::rule::value_kept` meets its contract. Assumes nothing.
use mathlib.Core.Path.{sym, ◌∙◌}
use native.Mathlib.Omega.{arith}
use Rattle.format.specs.Kinds.{shape}
use Rattle.cutter_rule.proofs.Rules.{value_past, value_folds, value_stays}
use Rattle.cutter_rule.proofs.rule.value_kept.Goals as goal

pub returns-then-width-seen : goal.returns-then-width-seen
returns-then-width-seen c =
    let a = c.args in
    value_past (shape a.kind) a.fold a.row a.seen a.spelt (omega arith)

pub returns-then-not-fold : goal.returns-then-not-fold
returns-then-not-fold c =
    let a = c.args in
    value_stays (shape a.kind) a.fold a.row a.seen a.spelt (omega arith) (rw c.if-not-fold.true)

pub returns-then-may_fold : goal.returns-then-may_fold
returns-then-may_fold c =
    let a = c.args in
    c.spelt_kept.ensures
    ∙ value_folds (shape a.kind) a.fold a.row a.seen a.spelt (omega arith) c.if-not-fold.false (sym c.may_fold.ensures ∙ c.if-may_fold.true)

pub returns : goal.returns
returns c =
    let a = c.args in
    value_stays (shape a.kind) a.fold a.row a.seen a.spelt (omega arith) (rw (c.if-not-fold.false, sym c.may_fold.ensures ∙ c.if-may_fold.false))
