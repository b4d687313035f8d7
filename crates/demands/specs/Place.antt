-- Where in a row a refusal points: the byte that each of 16 to 23 and 28 names, said of the row's bytes and not of how they are read.
use Rattle.std.specs.Prelude.{ℕ, zero, suc, ◌+◌, ◌<◌, ◌≤◌, ◌≡◌, false, cond, List, [], ◌∷◌, ◌++◌, eqb, length, get_or, take, drop}
use Rattle.format.specs.declared.Column.{Column}
use Rattle.format.specs.declared.RowFault.{RowFault}
use Rattle.format.specs.declared.RowFault.TheVariants.{Cut, Lead, NullRest, BoolByte, EndByte, Padding, Extra, TooLong, Unfolded}
use Rattle.format.specs.declared.SortOptions.{SortOptions}
use Rattle.format.specs.Limits.{max_slot}
use Rattle.format.specs.Kinds.{Fixed, bool, Shape, fixed, variable, Slot, width, column_shape}
use Rattle.format.specs.Field.{directed, block_size}
use Rattle.format.specs.Fold.{is_folded}
use Rattle.format.specs.Key.{unkey}
use Rattle.format.specs.Read.{null_lead}
use Rattle.format.specs.Fits.{RowFits}
use Rattle.format.specs.Row.{row}

-- of the bytes of s from a on and before b, the first that is not zero is at p
pub record FirstBad (s : List ℕ) (a b p : ℕ) : Type 0 where
  pub there : b ≤ length s
  pub from : a ≤ p
  pub before : p < b
  pub bad : get_or s p 0 ≡ 0 → ⊥
  pub first : (i : ℕ) → a ≤ i → i < p → get_or s i 0 ≡ 0

-- ---- fixed kinds: a field in front of s, of a column with these options, where byte p is the bad one
abbrev pub FixedBad : Fixed → SortOptions → RowFault → List ℕ → ℕ → Type 0
FixedBad k o Cut s p = p ≡ length s
FixedBad k o Lead s p = (p ≡ 0) × (0 < length s) × (null_lead o (get_or s 0 0) ≡ false) × (get_or s 0 0 ≡ 1 → ⊥)
FixedBad k o NullRest s p = FirstBad s 1 (1 + width k) p
FixedBad k o BoolByte s p = (k ≡ bool) × (p ≡ 1) × (1 < length s) × (1 < get_or (directed o.descending s) 1 0)
FixedBad k o EndByte s p = ⊥
FixedBad k o Padding s p = ⊥
FixedBad k o Extra s p = ⊥
FixedBad k o TooLong s p = ⊥
FixedBad k o Unfolded s p =
    (p ≡ 1) × (width k < length s) × (is_folded k o.fold (unkey k (directed o.descending (take (width k) (drop 1 s)))) ≡ false)

-- ---- variable bytes: the places of their blocks

-- block k begins after the lead byte and the blocks before it, each with its end byte
abbrev pub block_place : ℕ → ℕ
block_place zero = 1
block_place (suc k) = block_place k + suc (block_size k)

-- its end byte
abbrev pub end_place : ℕ → ℕ
end_place k = block_place k + block_size k

-- the bytes of the value before block k, and in a block with this end byte
abbrev pub data_before : ℕ → ℕ
data_before zero = 0
data_before (suc k) = data_before k + block_size k

abbrev pub data_in : ℕ → ℕ → ℕ
data_in size end = cond (eqb end 255) size end

-- block k is there with its end byte, and each block before it says that more follow
pub record Reached (s : List ℕ) (k : ℕ) : Type 0 where
  pub whole : end_place k < length s
  pub more : (i : ℕ) → i < k → get_or s (end_place i) 0 ≡ 255

-- ---- variable bytes: a field in front of s, inverted back, where byte p is the bad one and a value has at most `limit` bytes

-- an end byte that is neither FF nor a count of data bytes
abbrev pub BadEnd : ℕ → ℕ → Type 0
BadEnd size end = (end ≡ 255 → ⊥) × (1 ≤ end → end ≤ size → ⊥)

abbrev pub VariableBad : ℕ → RowFault → List ℕ → ℕ → Type 0
VariableBad limit Cut s p = p ≡ length s
VariableBad limit Lead s p = (p ≡ 0) × (0 < length s) × (get_or s 0 0 ≡ 1 → ⊥) × (get_or s 0 0 ≡ 2 → ⊥)
VariableBad limit NullRest s p = ⊥
VariableBad limit BoolByte s p = ⊥
VariableBad limit EndByte s p = (k : ℕ) × Reached s k × (p ≡ end_place k) × BadEnd (block_size k) (get_or s p 0)
VariableBad limit Padding s p = (k : ℕ) × Reached s k × FirstBad s (block_place k + get_or s (end_place k) 0) (end_place k) p
VariableBad limit Extra s p = ⊥
VariableBad limit Unfolded s p = ⊥
VariableBad limit TooLong s p = (k : ℕ) × Reached s k × (p ≡ end_place k) × (limit < data_before k + data_in (block_size k) (get_or s p 0))

-- ---- rows

abbrev pub FieldBad : Shape → SortOptions → RowFault → List ℕ → ℕ → Type 0
FieldBad (fixed k) o f s p = FixedBad k o f s p
FieldBad variable o f s p = VariableBad max_slot f (directed o.descending s) p

-- in front of s stands the field of the first of these columns; past the last field, 22 names the first byte
abbrev pub Bad : List Column → RowFault → List ℕ → ℕ → Type 0
Bad [] f s p = (f ≡ Extra) × (p ≡ 0) × (0 < length s)
Bad (col ∷ cols) f s p = FieldBad (column_shape col) col.options f s p

-- fault f in column c of a row is at this place: before the field stand the fields of c values within the limits, and the place
-- counts these bytes and those of the field before the bad one
pub record BadAt (cols : List Column) (bytes : List ℕ) (f : RowFault) (c place : ℕ) : Type 0 where
  pub values : List Slot
  pub fit : RowFits (take c cols) values
  pub rest : List ℕ
  pub spell : row (take c cols) values ++ rest ≡ bytes
  pub p : ℕ
  pub counts : place ≡ length (row (take c cols) values) + p
  pub bad : Bad (drop c cols) f rest p
