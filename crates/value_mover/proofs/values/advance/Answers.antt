use Prim.Native.Nat.{◌+◌}
use mathlib.Core.Path.{sym, ap, ◌∙◌}
use native.Mathlib.Omega.{arith}
use Rattle.cursors.proofs.Maps.{at_map}
use Rattle.cursors.proofs.Moving.{fill_at, fill_more}
use Rattle.value_mover.proofs.values.advance.Goals as goal

pub loop-cursor-preserved : goal.loop-cursor-preserved
loop-cursor-preserved c =
    let a = c.args in
    let l = c.loop-cursor in
    fill_more l.invariant (omega arith) _
    (ap (λ p. p + a.by) (fill_at l.invariant (omega arith)) ∙ sym (at_map (λ p. p + a.by) a.cursors.now l.cursor-index 0 0 (omega arith)))
