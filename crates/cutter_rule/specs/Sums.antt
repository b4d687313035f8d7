-- What one pass over the columns finds, for the rule on a state.
use Rattle.std.specs.Prelude.{ℕ, ◌*◌, ◌≤◌, ◌≡◌, true, List, take}
use Rattle.format.specs.declared.Column.{Column}
use Rattle.format.specs.Limits.{max_columns}
use Rattle.format.specs.CutterRule.{columns_kept, fewest, most, over_all}
use Rattle.cutter_rule.specs.declared.Sums.{Sums}

-- so many bytes are more than any columns have
abbrev pub sums_most : ℕ
sums_most = 67588 * max_columns

pub record Summed (cols : List Column) (column : ℕ) (r : Sums) : Type 0 where
  pub kept : r.kept ≡ columns_kept cols
  pub low : r.kept ≡ true → r.low ≡ over_all fewest (take column cols)
  pub high : r.kept ≡ true → r.high ≡ over_all most (take column cols)
  pub fewest_all : r.kept ≡ true → r.fewest ≡ over_all fewest cols
  pub most_all : r.kept ≡ true → r.most ≡ over_all most cols
  pub small_low : r.low ≤ sums_most
  pub small_high : r.high ≤ sums_most
  pub small_fewest : r.fewest ≤ sums_most
  pub small_most : r.most ≤ sums_most
