-- What a call on lent bytes asks, and read_list on them.
use Rattle.std.specs.Prelude.{ℕ, ◌/◌, ◌≤◌, ◌≡◌, List, length}
use Rattle.format.specs.Numbers.{Answer, numbers_of}
use Rattle.format.specs.Columns.{spelled_columns}
use Rattle.format.specs.Described.{codes}
use Rattle.format.specs.Entries.{written, read_list_check, read_list_answer}
use Rattle.format.specs.Lent.{code_room, answer_room}
use Rattle.list_reader.specs.Listing.{Listed, OfList}
use Rattle.lent_bytes.specs.Offsets.{Used}

-- a list that was read, room for the answer, and k of the lent offsets, which are enough
pub record Ready (listed : Listed) (n : ℕ) (offsets lent : List ℕ) (k : ℕ) : Type 0 where
  pub read : OfList listed
  pub long : answer_room ≤ length lent
  pub used : Used n (length offsets / 8) k

-- read_list into codes: a success writes those of the columns in front, a refusal writes nothing
pub record ReadCodes (list lent : List ℕ) (r : Answer) (lent' : List ℕ) : Type 0 where
  pub answers : numbers_of r ≡ numbers_of (read_list_answer list (code_room lent))
  pub written_codes : lent' ≡ written (read_list_check list (code_room lent)) (codes (spelled_columns list)) lent
