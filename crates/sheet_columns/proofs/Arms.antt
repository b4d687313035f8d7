-- A match on a kind: what is said of the layout in the arms of bool and of variable bytes, and in the last one, fixed values of
-- so many bytes each. Assumes nothing.
use mathlib.Core.Path.{◌≡◌, ap, sym}
use Rattle.format.specs.declared.Kind.{Kind}
use Rattle.format.specs.declared.Kind.TheVariants.{Bool, Variable}
use Rattle.format.specs.Kinds.{shape, value_bytes}
use Rattle.format.specs.Sheet.{Layout, layout_for, wide}
use Rattle.basics.proofs.Sorts.{wide_arm, wide_layout}

-- what f says of the layout of the kind k that was matched, it says of the kind's
pub told : {A : Type 0} (f : Layout → A) {kind k : Kind} → kind ≡ k → f (layout_for (shape k)) ≡ f (layout_for (shape kind))
told f e = ap (λ (x : Kind). f (layout_for (shape x))) (sym e)

-- the last arm after those two
pub layout_arm : (kind : Kind) → (kind ≡ Bool → ⊥) → (kind ≡ Variable → ⊥) → layout_for (shape kind) ≡ wide (value_bytes kind)
layout_arm kind b v = wide_layout (wide_arm kind b v)
