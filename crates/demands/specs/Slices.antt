-- Sheets from slices: what is before a first end means nothing to encode.
use Rattle.std.specs.Prelude.{ℕ, ◌≡◌, List, Ok}
use Rattle.format.specs.Described.{ColumnList, columns}
use Rattle.format.specs.Numbers.{numbers_of}
use Rattle.format.specs.Entries.{measure_check}
use Rattle.demands.specs.declared.slices.Both.{Both}
use Rattle.demands.specs.Raw.{DiffersBefore}

-- two calls answered the same, and left the same rows and offsets
pub record SameOut (b : Both) (rows' offsets' others' ends' : List ℕ) : Type 0 where
  pub answers : numbers_of b.first ≡ numbers_of b.second
  pub row_bytes : rows' ≡ others'
  pub row_ends : offsets' ≡ ends'

-- where the first sheet is accepted by its content and the second differs from it only in bytes before a first end, calls of encode on buffers
-- that hold the same
abbrev pub EncodedAlike : ColumnList → ℕ → List ℕ → List ℕ → List ℕ → List ℕ → List ℕ → List ℕ → Both → List ℕ → List ℕ → List ℕ → List ℕ → Type 0
EncodedAlike list n sheet rows offsets other others ends b rows' offsets' others' ends' =
    measure_check list n sheet ≡ Ok tt → DiffersBefore n (columns list) sheet other → rows ≡ others → offsets ≡ ends → SameOut b rows' offsets' others' ends'
