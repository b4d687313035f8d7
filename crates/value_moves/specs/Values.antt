-- The shapes whose values may be any bytes, and a byte of a float that folds.
use Rattle.std.specs.Prelude.{ℕ, suc, ◌+◌, ◌-◌, ◌*◌, ◌≡◌, Bool, true, false, cond, reverse, ltb}
use Rattle.format.specs.declared.RowFault.TheVariants.{Unfolded}
use Rattle.format.specs.declared.Spot.TheVariants.{Value}
use Rattle.format.specs.Lists.{low_bytes}
use Rattle.format.specs.Kinds.{Fixed, bool, float, width}
use Rattle.format.specs.Key.{float_unkey}
use Rattle.format.specs.Fold.{folds, is_folded}
use Rattle.format.specs.Cutter.{Move, on, whole, bad}

-- k is a shape of w bytes whose values may be any bytes
pub record AnyBytes (w : ℕ) (fold : Bool) (k : Fixed) : Type 0 where
  pub bytes : width k ≡ w
  pub other : k ≡ bool → ⊥
  pub unfolded : folds k fold ≡ false

-- a byte b of a float that folds, read either way
abbrev pub folding_move : ℕ → ℕ → ℕ → ℕ → ℕ → Move
folding_move w seen spelt at b =
    cond (ltb (suc seen) w) (on (Value (suc seen) (256 * spelt + b)))
    (cond (is_folded (float w) true (float_unkey (reverse (low_bytes w (256 * spelt + b))))) whole (bad Unfolded (at - seen)))
