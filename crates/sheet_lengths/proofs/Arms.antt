-- A match on a kind after the arm of variable bytes: fields of so many bytes each. Assumes nothing.
use Prim.Native.Nat.{◌+◌}
use mathlib.Core.Path.{◌≡◌, refl}
use Rattle.format.specs.declared.Kind.{Kind}
use Rattle.format.specs.declared.Kind.TheVariants.{Variable}
use Rattle.format.specs.Kinds.{Slot, shape, value_bytes}
use Rattle.format.specs.Field.{field_length}
use Rattle.basics.proofs.Sorts.{fixed_arm}

-- in the last arm
pub field_arm : (kind : Kind) → (kind ≡ Variable → ⊥) → (s : Slot) → field_length (shape kind) s ≡ 1 + value_bytes kind
field_arm kind h s = fixed_arm (λ k. field_length (shape k) s ≡ 1 + value_bytes k) kind refl (λ w. rw w.says refl) h
