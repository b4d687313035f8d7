-- What the two numbers of a look-up say of sorted rows.
use Rattle.std.specs.Prelude.{ℕ, ◌<◌, ◌≤◌, ◌≡◌, true, ◌↔◌, List, [], length, get_or}
use Rattle.format.specs.Order.{Begins}
use Rattle.format.specs.Batch.{below}

-- every row from `first` up to `past` begins with the key, and no other does; those before are below the key, and those after above it: so
-- where none begins with it, the two are one place, and the key would stand there
pub record Shares (key : List ℕ) (rows : List (List ℕ)) (first past : ℕ) : Type 0 where
  pub ordered : first ≤ past
  pub inside : past ≤ length rows
  pub lower : (i : ℕ) → i < first → below (get_or rows i []) key ≡ true
  pub found : (i : ℕ) → i < length rows → (first ≤ i) × (i < past) ↔ Begins key (get_or rows i [])
  pub upper : (i : ℕ) → past ≤ i → i < length rows → below key (get_or rows i []) ≡ true
  pub none : ((i : ℕ) → i < length rows → ¬ Begins key (get_or rows i [])) → first ≡ past
