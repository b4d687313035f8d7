-- A field's bytes, one by one: what they do from a spot on, and how that is held to what the field reader says of them. Assumes nothing.
use Prim.Native.Nat.{ℕ, suc, ◌-◌}
use mathlib.Core.Path.{◌≡◌}
use mathlib.Core.List.{List, [], ◌∷◌}
use Rattle.format.specs.declared.SortOptions.{SortOptions}
use Rattle.format.specs.declared.RowFault.{RowFault}
use Rattle.format.specs.declared.RowFault.TheVariants.{Cut}
use Rattle.format.specs.declared.Spot.{Spot}
use mathlib.Core.Bool.{true}
use Rattle.format.specs.Kinds.{Shape}
use Rattle.format.specs.Read.{Parsed, got, fault}
use Rattle.format.specs.Numbers.{fault_number}
use Rattle.format.specs.CutterRule.{fault_kept}
use Rattle.format.specs.Cutter.{Move, on, whole, bad, move}

-- a field is not whole yet; it is, and these bytes are left; or a fault showed, at a place in the row
pub data Walk : Type 0 where
  still : Spot → Walk
  ended : List ℕ → Walk
  broken : RowFault → ℕ → Walk

-- by what the first of the bytes does, and what the others do then
abbrev pub walk_then : Move → List ℕ → (Spot → Walk) → Walk
walk_then (on spot) bs next = next spot
walk_then whole bs next = ended bs
walk_then (bad f place) bs next = broken f place

abbrev pub walk : Shape → SortOptions → Spot → ℕ → List ℕ → Walk
walk sh o spot at [] = still spot
walk sh o spot at (b ∷ bs) = walk_then (move sh o spot at b) bs (λ next. walk sh o next (suc at) bs)

-- such a walk over bytes that end at place `end`, and what the field reader says of the same bytes: the same rest, or the same fault at the
-- same place, one that shows at a byte; and 16 at the end where the field is not whole yet
abbrev pub Alike : {A : Type 0} → ℕ → Walk → Parsed A → Type 0
Alike end (still spot) (got v rest) = ⊥
Alike end (still spot) (fault f l) = (f ≡ Cut) × (l ≡ 0)
Alike end (ended bs) (got v rest) = bs ≡ rest
Alike end (ended bs) (fault f l) = ⊥
Alike end (broken f place) (got v rest) = ⊥
Alike end (broken f place) (fault g l) = (f ≡ g) × (place ≡ end - l) × (fault_kept (fault_number f) ≡ true)
