-- `value_moves::boolean_byte` meets its contract. Assumes nothing.
use Rattle.value_moves.proofs.Arms.{bool_whole, bool_bad}
use Rattle.value_moves.proofs.boolean_byte.Goals as goal

pub returns-then-turned-lt2 : goal.returns-then-turned-lt2
returns-then-turned-lt2 c =
    let a = c.args in
    bool_whole a.options a.seen a.at a.byte _ c.turned.ensures c.if-turned-lt2.true

pub returns : goal.returns
returns c =
    let a = c.args in
    bool_bad a.options a.seen a.at a.byte _ c.turned.ensures c.if-turned-lt2.false
