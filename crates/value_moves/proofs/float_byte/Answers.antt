-- `value_moves::float_byte` meets its contract: by whether the column folds. Assumes nothing.
use Prim.Native.Nat.{ℕ, ◌^◌}
use mathlib.Core.Path.{◌≡◌, subst, ap, ◌∙◌}
use mathlib.Core.Bool.{Bool, true, cond}
use lib.Dec.{ltb}
use borrow.Author.Tests.{ltb-true}
use Rattle.value_moves.specs.Values.{folding_move}
use Rattle.format.specs.Kinds.{float}
use Rattle.value_moves.proofs.Arms.{folding_value, float_any}
use Rattle.value_moves.proofs.float_byte.Goals as goal

pub folding_byte-requires : goal.folding_byte-requires
folding_byte-requires c =
    let a = c.args in
    let kept = subst (λ (t : Bool). ltb a.spelt (cond t (256 ^ a.seen) 1) ≡ true) c.if-options.true c.requires.spelt_value in
    let q = c.requires in
    record { fact = q.fact; seen_lt_width = q.seen_lt_width; spelt_bound = ltb-true a.spelt (256 ^ a.seen) kept; seen_le_at = q.seen_le_at }

pub returns-then-options : goal.returns-then-options
returns-then-options c =
    let a = c.args in
    c.folding_byte.ensures
    ∙ ap (λ (b : ℕ). folding_move a.width a.seen a.spelt a.at b) c.turned.ensures
    ∙ folding_value a.width a.options a.seen a.spelt a.at a.byte c.if-options.true

pub returns : goal.returns
returns c =
    let a = c.args in
    c.plain_byte.ensures (float a.width) a.spelt (float_any a.width a.options.fold c.if-options.false)
