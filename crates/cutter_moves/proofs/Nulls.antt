-- A spot in a null. Assumes nothing.
use Prim.Native.Nat.{ℕ, ◌<◌}
use mathlib.Core.Path.{◌≡◌, refl}
use mathlib.Core.Bool.{true, false≢true}
use borrow.Author.Tests.{ltb-true}
use Rattle.format.specs.declared.SortOptions.{SortOptions}
use Rattle.format.specs.declared.Spot.TheVariants.{Nulls}
use Rattle.format.specs.Kinds.{Shape, fixed, variable, shape_bytes, width}
use Rattle.format.specs.CutterRule.{spot_kept}
use Rattle.format.specs.Cutter.{null_move, move}
use Rattle.cutter_laws.proofs.RuleMoves.{and_true}

-- a spot in a null is one of a fixed field
pub null_shape : (sh : Shape) (o : SortOptions) (seen known at b : ℕ) → spot_kept sh o.fold at (Nulls seen known) ≡ true
    → (seen < shape_bytes sh) × (null_move (shape_bytes sh) seen known at b ≡ move sh o (Nulls seen known) at b)
null_shape (fixed k) o seen known at b h = (ltb-true seen (width k) (and_true h).0, refl)
null_shape variable o seen known at b h = absurd (false≢true h)
