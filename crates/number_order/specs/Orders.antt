-- The order of two values, as the code finds it: by their keys.
use Rattle.std.specs.Prelude.{ℕ, Bool, ◌≡◌, List, reverse}
use Rattle.format.specs.Lists.{low_bytes}
use Rattle.format.specs.Order.{cmp}
use Rattle.format.specs.Kinds.{Shape, fixed, variable}
use Rattle.format.specs.Key.{key}
use Rattle.format.specs.Fold.{folded_value}
use Rattle.std.specs.declared.cmp.Ordering.{Ordering}
use Rattle.byte_order.specs.Answers.{ordering}

-- r says how f stands to g
pub record Ordered (f g : List ℕ) (r : Ordering) : Type 0 where
  pub says : r ≡ ordering (cmp f g)

-- x is the number that the n bytes f spell, high byte first
pub record Spells (n : ℕ) (f : List ℕ) (x : ℕ) : Type 0 where
  pub bytes : low_bytes n x ≡ reverse f

-- the bytes by which a value is ordered: those of its key, folded where its column folds; variable bytes as they stand
abbrev pub value_key : Shape → Bool → List ℕ → List ℕ
value_key (fixed k) fold v = key k (folded_value k fold v)
value_key variable fold v = v
