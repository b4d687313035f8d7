-- Join on lent bytes, of which a call uses the first few only.
use Rattle.std.specs.Prelude.{ℕ, ◌+◌, ◌*◌, ◌/◌, ◌≤◌, ◌≡◌, List, length}
use Rattle.format.specs.Numbers.{Answer, numbers_of}
use Rattle.format.specs.Entries.{written, cut_rows}
use Rattle.format.specs.Join.{join_order, join_check, join_answer}
use Rattle.format.specs.Lent.{eight_bytes, answer_room}
use Rattle.lent_bytes.specs.Offsets.{Used}
use Rattle.lent_bytes.specs.Entries.{UsedEntries}

-- the numbers that are read and written lie within the lent bytes, and there are no more entries than rows
pub record Holds (n₀ n₁ : ℕ) (offsets₀ offsets₁ order first second list : List ℕ) : Type 0 where
  pub first_there : 8 * length first ≤ length offsets₀
  pub second_there : 8 * length second ≤ length offsets₁
  pub list_there : 8 * length list ≤ length order
  pub most : length list ≤ n₀ + n₁

-- room for the answer, and of the lent offsets and entries as many as a call uses, which are enough
pub record Joinable (n₀ n₁ : ℕ) (offsets₀ offsets₁ order lent : List ℕ) (f s k : ℕ) : Type 0 where
  pub long : answer_room ≤ length lent
  pub first_used : Used n₀ (length offsets₀ / 8) f
  pub second_used : Used n₁ (length offsets₁ / 8) s
  pub entries_used : UsedEntries n₀ n₁ (length order / 8) k

-- join with room for k entries in lent bytes: a success writes the order in front, a refusal writes nothing
pub record JoinedBytes (n₀ : ℕ) (rows₀ offsets₀ : List ℕ) (n₁ : ℕ) (rows₁ offsets₁ order : List ℕ) (k : ℕ) (r : Answer) (order' : List ℕ) : Type 0 where
  pub answers : numbers_of r ≡ numbers_of (join_answer n₀ rows₀ offsets₀ n₁ rows₁ offsets₁ k)
  pub entries : order' ≡ written (join_check n₀ rows₀ offsets₀ n₁ rows₁ offsets₁ k)
      (eight_bytes (join_order (cut_rows n₀ rows₀ offsets₀) (cut_rows n₁ rows₁ offsets₁))) order
