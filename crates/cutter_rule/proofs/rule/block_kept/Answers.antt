-- `cutter_rule::rule::block_kept` meets its contract. Assumes nothing.
use mathlib.Core.Path.{sym, ◌∙◌}
use native.Mathlib.Omega.{arith}
use Rattle.format.specs.Kinds.{shape}
use Rattle.cutter_laws.proofs.RuleMoves.{size_most}
use Rattle.cutter_rule.proofs.Rules.{block_other, block_far, block_over, block_in}
use Rattle.cutter_rule.proofs.rule.block_kept.Goals as goal

pub returns-then-not-is_variable : goal.returns-then-not-is_variable
returns-then-not-is_variable c =
    let a = c.args in
    λ fold row. block_other (shape a.kind) fold row a.k a.seen a.marks (sym c.is_variable.ensures ∙ c.if-not-is_variable.true)

pub returns-then-k-gt-LAST_BLOCK : goal.returns-then-k-gt-LAST_BLOCK
returns-then-k-gt-LAST_BLOCK c =
    let a = c.args in
    λ fold row. block_far (shape a.kind) fold row a.k a.seen a.marks (sym c.is_variable.ensures ∙ c.if-not-is_variable.false) c.if-k-gt-LAST_BLOCK.true

pub returns-then-block_size-seen : goal.returns-then-block_size-seen
returns-then-block_size-seen c =
    let a = c.args in
    λ fold row. block_over (shape a.kind) fold row a.k a.seen a.marks (sym c.is_variable.ensures ∙ c.if-not-is_variable.false)
    c.if-k-gt-LAST_BLOCK.false (omega arith)

pub overflow_shr-result : goal.overflow_shr-result
overflow_shr-result c =
    omega (arith, size_most c.args.k)

pub returns : goal.returns
returns c =
    let a = c.args in
    λ fold row. block_in (shape a.kind) fold row a.k a.seen a.marks (sym c.is_variable.ensures ∙ c.if-not-is_variable.false)
    c.if-k-gt-LAST_BLOCK.false (omega arith)
