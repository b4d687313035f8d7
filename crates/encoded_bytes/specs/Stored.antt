-- Encode on lent bytes, of which a call uses the first few only.
use Rattle.std.specs.Prelude.{ℕ, suc, ◌*◌, ◌≤◌, ◌≡◌, List, length}
use Rattle.format.specs.Numbers.{Answer, numbers_of}
use Rattle.format.specs.Lists.{ends_from}
use Rattle.format.specs.Described.{ColumnList, columns}
use Rattle.format.specs.Entries.{written, sheet_rows, encode_check, encode_answer, encode_rows}
use Rattle.format.specs.Lent.{eight_bytes}

-- k numbers: no more than n rows have offsets, and than so many bytes hold
pub record Held (n k bytes : ℕ) : Type 0 where
  pub most : k ≤ suc n
  pub there : 8 * k ≤ bytes

-- encode with room for k offsets in lent bytes: a success writes the ends in front, a refusal writes nothing
pub record EncodedBytes (list : ColumnList) (n : ℕ) (sheet rows offsets : List ℕ) (k : ℕ) (r : Answer) (rows' offsets' : List ℕ) : Type 0 where
  pub answers : numbers_of r ≡ numbers_of (encode_answer list n sheet (length rows) k)
  pub row_bytes : rows' ≡ encode_rows list n sheet rows k
  pub row_ends : offsets' ≡ written (encode_check list n sheet (length rows) k) (eight_bytes (ends_from 0 (sheet_rows n (columns list) sheet))) offsets
