-- What a look-up that is not refused says of the batch: by bytes, by fields and by values.
use Rattle.std.specs.Prelude.{ℕ, ◌<◌, ◌≤◌, ◌≡◌, true, ◌↔◌, List, take, Ok}
use Rattle.format.specs.Numbers.{Answer}
use Rattle.format.specs.Described.{ColumnList, columns}
use Rattle.format.specs.Order.{Begins}
use Rattle.format.specs.Prefix.{first_fields}
use Rattle.format.specs.Read.{row_slots}
use Rattle.format.specs.Entries.{row_bytes}
use Rattle.format.specs.Batch.{below}

-- row r is among those that are found
abbrev pub Among : ℕ → ℕ → ℕ → Type 0
Among first past r = (first ≤ r) × (r < past)

-- the rows found are those that begin with the key, those whose first k fields it is, and those whose first k values are its values; those
-- before them are below the key, and those after above it: so where none is found, the two numbers are where the key would stand
pub record Found (list : ColumnList) (k : ℕ) (key : List ℕ) (n : ℕ) (bytes offsets : List ℕ) (first past : ℕ) : Type 0 where
  pub ordered : first ≤ past
  pub inside : past ≤ n
  pub begin : (r : ℕ) → r < n → Among first past r ↔ Begins key (row_bytes bytes offsets r)
  pub fields : (r : ℕ) → r < n → Among first past r ↔ first_fields k (columns list) (row_bytes bytes offsets r) ≡ key
  pub values : (r : ℕ) → r < n → Among first past r ↔ take k (row_slots (columns list) (row_bytes bytes offsets r)) ≡ row_slots (take k (columns list)) key
  pub lower : (r : ℕ) → r < first → below (row_bytes bytes offsets r) key ≡ true
  pub upper : (r : ℕ) → past ≤ r → r < n → below key (row_bytes bytes offsets r) ≡ true
  pub none : ((r : ℕ) → r < n → ¬ Begins key (row_bytes bytes offsets r)) → first ≡ past

-- an answer says so, if it is no refusal
pub record Finds (list : ColumnList) (k : ℕ) (key : List ℕ) (n : ℕ) (bytes offsets : List ℕ) (r : Answer) : Type 0 where
  pub found : (first past : ℕ) → r ≡ Ok (first, past) → Found list k key n bytes offsets first past
