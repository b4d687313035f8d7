-- Values that stand in the sheet as whole bytes: every fixed kind but bool, whose values are packed bits.
use Rattle.std.specs.Prelude.{ℕ, ◌≡◌}
use Rattle.format.specs.declared.Kind.{Kind}
use Rattle.format.specs.Kinds.{Fixed, bool, fixed, shape, width}

-- k is such a shape, of w value bytes
pub record WideShape (w : ℕ) (k : Fixed) : Type 0 where
  pub bytes : width k ≡ w
  pub other : k ≡ bool → ⊥

-- a kind is such a kind, of the shape k
pub record WideKind (kind : Kind) : Type 0 where
  pub k : Fixed
  pub says : shape kind ≡ fixed k
  pub other : k ≡ bool → ⊥
