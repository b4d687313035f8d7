-- The lent order: a call looks at and writes the first few entries only.
use Rattle.std.specs.Prelude.{ℕ, ◌+◌, ◌*◌, ◌<◌, ◌≤◌, ◌≡◌}
use Rattle.format.specs.Limits.{max_rows}

-- k of the entries that there is room for are enough for the rows of both passes, and no more: where k are too few, there are no more
pub record UsedEntries (n₀ n₁ room k : ℕ) : Type 0 where
  pub there : k ≤ room
  pub few : k ≤ 2 * max_rows
  pub most : k ≤ n₀ + n₁
  pub enough : n₀ ≤ max_rows → n₁ ≤ max_rows → k < n₀ + n₁ → k ≡ room
