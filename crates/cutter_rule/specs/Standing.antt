-- What the rule on a state asks of a kind and of a spot.
use Rattle.std.specs.Prelude.{◌≤◌, Bool, true, false}
use Rattle.format.specs.declared.Spot.{Spot}
use Rattle.format.specs.declared.Spot.TheVariants.{Start, Nulls, Value, Block}
use Rattle.format.specs.Limits.{max_width, max_slot}
use Rattle.format.specs.Kinds.{Shape, fixed, variable}
use Rattle.format.specs.CutterRule.{before}

abbrev pub is_variable : Shape → Bool
is_variable (fixed k) = false
is_variable variable = true

-- a spot that a field may have, by its numbers
abbrev pub Small : Spot → Type 0
Small Start = Unit {0}
Small (Nulls seen known) = seen ≤ max_width
Small (Value seen spelt) = seen ≤ max_width
Small (Block k seen marks) = (before k ≤ max_slot) × (seen ≤ 32)
