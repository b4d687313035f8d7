-- `cutter_rule::rule::emptied` meets its contract. Assumes nothing.
use Prim.Native.Nat.{◌+◌}
use mathlib.Core.Path.{ap, sym, ◌∙◌}
use native.Mathlib.Omega.{arith}
use Rattle.format.specs.CutterRule.{at_start}
use Rattle.cutter_rule.proofs.Rules.{counts_some, counts_none, not_start}
use Rattle.cutter_rule.proofs.rule.emptied.Goals as goal

pub returns-then-state-ne0 : goal.returns-then-state-ne0
returns-then-state-ne0 c =
    let a = c.args.state.now in
    counts_some (a.schema.count + a.rows + a.bytes + a.row + a.column) _ (omega arith)

pub returns-then-state-ne0-2 : goal.returns-then-state-ne0-2
returns-then-state-ne0-2 c =
    let a = c.args.state.now in
    counts_some (a.schema.count + a.rows + a.bytes + a.row + a.column) _ (omega arith)

pub returns-then-state-ne0-3 : goal.returns-then-state-ne0-3
returns-then-state-ne0-3 c =
    let a = c.args.state.now in
    counts_some (a.schema.count + a.rows + a.bytes + a.row + a.column) _ (omega arith)

pub returns-then-state-ne0-4 : goal.returns-then-state-ne0-4
returns-then-state-ne0-4 c =
    let a = c.args.state.now in
    counts_some (a.schema.count + a.rows + a.bytes + a.row + a.column) _ (omega arith)

pub returns-then-state-ne0-5 : goal.returns-then-state-ne0-5
returns-then-state-ne0-5 c =
    let a = c.args.state.now in
    counts_some (a.schema.count + a.rows + a.bytes + a.row + a.column) _ (omega arith)

pub returns-in-Start : goal.returns-in-Start
returns-in-Start c =
    let a = c.args.state.now in
    sym (ap at_start c.in-Start.is) ∙ counts_none (a.schema.count + a.rows + a.bytes + a.row + a.column) (at_start a.spot) (omega arith)

pub returns-in_default : goal.returns-in_default
returns-in_default c =
    let a = c.args.state.now in
    not_start a.spot c.in_default.not-Start ∙ counts_none (a.schema.count + a.rows + a.bytes + a.row + a.column) (at_start a.spot) (omega arith)
