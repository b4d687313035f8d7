-- The lent offsets: a call looks at the first few of them only.
use Rattle.std.specs.Prelude.{ℕ, suc, ◌*◌, ◌≤◌, ◌≡◌, List, take, drop}
use Rattle.format.specs.Limits.{max_rows}
use Rattle.format.specs.Lists.{each, low}

-- number i of lent bytes
abbrev pub eight_at : List ℕ → ℕ → ℕ
eight_at bs i = low (take 8 (drop (8 * i) bs))

-- the first k numbers of lent bytes
abbrev pub first_eights : ℕ → List ℕ → List ℕ
first_eights k bs = each 0 k (eight_at bs)

-- k of the offsets that there is room for are enough for n rows, and no more: where k do not reach offset n, there are no more
pub record Used (n room k : ℕ) : Type 0 where
  pub there : k ≤ room
  pub few : k ≤ suc max_rows
  pub most : k ≤ suc n
  pub enough : n ≤ max_rows → k ≤ n → k ≡ room
