-- What the walks over the blocks of a field answer.
use Rattle.std.specs.Prelude.{ℕ, ◌+◌, ◌-◌, ◌≡◌, Bool, List, [], length, take, drop, Option, Some, None, Ok, Err}
use Rattle.format.specs.Limits.{max_slot}
use Rattle.format.specs.Field.{directed, block_size}
use Rattle.format.specs.Read.{Parsed, got, fault, read_block, read_blocks, FieldAnswer, found_value, found_fault}

-- the blocks of a row's first field, after the lead byte, inverted back
abbrev pub blocks_read : Bool → List ℕ → Parsed (List ℕ)
blocks_read descending row = read_blocks block_size max_slot (length row - 1) 0 0 (drop 1 (directed descending row))

-- the block at a place of t, with c bytes of the value before it, and what is read after it if more follow
abbrev pub block_at : List ℕ → ℕ → ℕ → ℕ → ℕ → Parsed (List ℕ) → Parsed (List ℕ)
block_at t at size end c more = read_block size max_slot c (take size (drop at t)) end (drop (at + (size + 1)) t) more

-- of a row of n bytes: the field's length, and the count of the value's bytes, of which c came before
abbrev pub counted : ℕ → ℕ → Parsed (List ℕ) → FieldAnswer
counted n c (got v r) = found_value (n - length r) (c + length v)
counted n c (fault f l) = found_fault f l

-- a last block at a place of t: the answer r counts it, whatever would be read after it
abbrev pub LastCounted : List ℕ → ℕ → ℕ → ℕ → ℕ → ℕ → FieldAnswer → Type 0
LastCounted t n at size end c r = (more : Parsed (List ℕ)) → r ≡ counted n c (block_at t at size end c more)

-- the value that was read, and what is left after it
abbrev pub value_of : Parsed (List ℕ) → List ℕ
value_of (got v r) = v
value_of (fault f l) = []

abbrev pub rest_of : Parsed (List ℕ) → List ℕ
rest_of (got v r) = r
rest_of (fault f l) = []

-- the bytes of a value; a null has none
abbrev pub value_length : Option ℕ → ℕ
value_length None = 0
value_length (Some n) = n

-- an answer that is no fault, in two numbers: the field's length, and the value's
abbrev pub Told : ℕ → ℕ → FieldAnswer → Type 0
Told len value (Ok read) = (len ≡ read.length) × (value ≡ value_length read.value)
Told len value (Err found) = ⊥
