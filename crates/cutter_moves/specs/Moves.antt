-- What a byte may count on: the spot in front of it.
use Rattle.std.specs.Prelude.{ℕ, ◌≤◌, ◌≡◌, true}
use Rattle.format.specs.declared.Column.{Column}
use Rattle.format.specs.declared.Spot.{Spot}
use Rattle.format.specs.Limits.{max_total}
use Rattle.format.specs.Kinds.{column_shape}
use Rattle.format.specs.CutterRule.{field_seen, spot_kept}

-- a spot that a field of this column has, `row` bytes into the row
pub record Stood (column : Column) (row : ℕ) (spot : Spot) : Type 0 where
  pub kept : spot_kept (column_shape column) column.options.fold row spot ≡ true
  pub seen : field_seen spot ≤ row
  pub most : row ≤ max_total
