-- The fields of fixed values that stand as whole bytes.
use Rattle.std.specs.Prelude.{ℕ, ◌≡◌, ◌⊎◌, Bool, cond, List}
use Rattle.format.specs.declared.SortOptions.{SortOptions}
use Rattle.format.specs.Lists.{low, low_bytes}
use Rattle.format.specs.Kinds.{Fixed, fixed}
use Rattle.format.specs.Fold.{folded_bits, folded_slot}
use Rattle.format.specs.Field.{directed, field}
use Rattle.format.specs.Sheet.{wide, slot_at, slot_if}
use Rattle.number.specs.declared.Coding.{Coding}
use Rattle.number.specs.declared.Coding.TheVariants.{Float}
use Rattle.number.specs.Codings.{coding_key}
use Rattle.fixed_decoder.specs.Worded.{Worded}

-- those of w bytes, by their coding: numbers of 8 bits, which are no floats, and those that are decoded word by word
abbrev pub Slotted : Coding → ℕ → Type 0
Slotted c w = ((w ≡ 1) × (c ≡ Float → ⊥)) ⊎ Worded w

-- the value bytes of a number v of w bytes, folded or not
abbrev pub key_bytes : Coding → ℕ → Bool → Bool → List ℕ → List ℕ
key_bytes c w fold d v = directed d (coding_key c (cond fold (low_bytes w (folded_bits w (low v))) v))

-- the field of a value v, or of a null
abbrev pub word_field : Fixed → SortOptions → Bool → List ℕ → List ℕ
word_field k o valid v = field (fixed k) o (folded_slot (fixed k) o (slot_if valid v))

-- the field of row r, of values of w bytes
abbrev pub wide_field : ℕ → Fixed → SortOptions → ℕ → List ℕ → ℕ → List ℕ
wide_field w k o n s r = field (fixed k) o (folded_slot (fixed k) o (slot_at (wide w) n s r))
