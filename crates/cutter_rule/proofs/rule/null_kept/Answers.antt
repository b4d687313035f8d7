-- `cutter_rule::rule::null_kept` meets its contract. Assumes nothing.
use native.Mathlib.Omega.{arith}
use Rattle.format.specs.Kinds.{shape}
use Rattle.cutter_rule.proofs.Rules.{null_past, null_none, null_late, null_early, null_between}
use Rattle.cutter_rule.proofs.rule.null_kept.Goals as goal

pub returns-then-width-seen : goal.returns-then-width-seen
returns-then-width-seen c =
    let a = c.args in
    λ fold. null_past (shape a.kind) fold a.row a.seen a.known (omega arith)

pub returns-then-known-eq0 : goal.returns-then-known-eq0
returns-then-known-eq0 c =
    let a = c.args in
    λ fold. null_none (shape a.kind) fold a.row a.seen a.known (omega arith) c.if-known-eq0.true

pub returns-then-row-known : goal.returns-then-row-known
returns-then-row-known c =
    let a = c.args in
    λ fold. null_late (shape a.kind) fold a.row a.seen a.known (omega arith) c.if-known-eq0.false c.if-row-known.true

pub returns-then-row-seen : goal.returns-then-row-seen
returns-then-row-seen c =
    let a = c.args in
    λ fold. null_early (shape a.kind) fold a.row a.seen a.known (omega arith) c.if-known-eq0.false c.if-row-known.false c.if-row-seen.true

pub returns : goal.returns
returns c =
    let a = c.args in
    λ fold. null_between (shape a.kind) fold a.row a.seen a.known (omega arith) c.if-known-eq0.false c.if-row-known.false
