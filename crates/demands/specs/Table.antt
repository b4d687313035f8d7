-- The table of document 01: its eleven lines, both halves of each.
use Rattle.std.specs.Prelude.{ℕ, ◌≡◌, Bool, true, false, List, [], ◌∷◌, ◌++◌, pos, negsuc, length, get_or, replicate}
use Rattle.std.proofs.Math.Option.{none, some}
use Rattle.std.specs.Int.{w32}
use Rattle.std.proofs.Common.{of_z}
use Rattle.format.specs.declared.SortOptions.{SortOptions}
use Rattle.format.specs.declared.Kind.{Kind}
use Rattle.format.specs.declared.Kind.TheVariants.{Bool as KindBool, I16, I32, U16, F32, DayTime, FixedBinary, Variable}
use Rattle.format.specs.Lists.{low_bytes}
use Rattle.format.specs.Kinds.{Slot, shape}
use Rattle.format.specs.Field.{field}

-- descending, nulls first
abbrev options : Bool → Bool → SortOptions
options d n = record { descending = d; nulls_first = n; required = false; fold = false }

-- the field of a slot, nulls first; ascending and descending
abbrev up : Kind → Slot → List ℕ
up kind s = field (shape kind) (options false true) s

abbrev down : Kind → Slot → List ℕ
down kind s = field (shape kind) (options true true) s

pub record Table : Type 0 where
  -- i32 −1, and descending
  pub line_1 :
      (up I32 (some (low_bytes 4 (of_z w32 (negsuc 0)))) ≡ 0x01 ∷ 0x7f ∷ 0xff ∷ 0xff ∷ 0xff ∷ [])
      × (down I32 (some (low_bytes 4 (of_z w32 (negsuc 0)))) ≡ 0x01 ∷ 0x80 ∷ 0x00 ∷ 0x00 ∷ 0x00 ∷ [])
  -- i16 null, last, descending
  pub line_2 : field (shape I16) (options true false) none ≡ 0xff ∷ 0x00 ∷ 0x00 ∷ []
  -- u16 258
  pub line_3 : up U16 (some (low_bytes 2 258)) ≡ 0x01 ∷ 0x01 ∷ 0x02 ∷ []
  -- f32 −0 and +0
  pub line_4 :
      (up F32 (some (low_bytes 4 0x8000_0000)) ≡ 0x01 ∷ 0x7f ∷ 0xff ∷ 0xff ∷ 0xff ∷ [])
      × (up F32 (some (low_bytes 4 0x0000_0000)) ≡ 0x01 ∷ 0x80 ∷ 0x00 ∷ 0x00 ∷ 0x00 ∷ [])
  -- f32 1.0 and −1.0
  pub line_5 :
      (up F32 (some (low_bytes 4 0x3f80_0000)) ≡ 0x01 ∷ 0xbf ∷ 0x80 ∷ 0x00 ∷ 0x00 ∷ [])
      × (up F32 (some (low_bytes 4 0xbf80_0000)) ≡ 0x01 ∷ 0x40 ∷ 0x7f ∷ 0xff ∷ 0xff ∷ [])
  -- bool true, descending
  pub line_6 : down KindBool (some (0x01 ∷ [])) ≡ 0x01 ∷ 0xfe ∷ []
  -- days 1, milliseconds −1
  pub line_7 :
      up DayTime (some (low_bytes 4 (of_z w32 (pos 1)) ++ low_bytes 4 (of_z w32 (negsuc 0))))
      ≡ 0x01 ∷ 0x80 ∷ 0x00 ∷ 0x00 ∷ 0x01 ∷ 0x7f ∷ 0xff ∷ 0xff ∷ 0xff ∷ []
  -- empty, and descending
  pub line_8 : (up Variable (some []) ≡ 0x01 ∷ []) × (down Variable (some []) ≡ 0xfe ∷ [])
  -- "a", and descending
  pub line_9 :
      (up Variable (some (0x61 ∷ [])) ≡ 0x02 ∷ 0x61 ∷ replicate 7 0x00 ++ 0x01 ∷ [])
      × (down Variable (some (0x61 ∷ [])) ≡ 0xfd ∷ 0x9e ∷ replicate 7 0xff ++ 0xfe ∷ [])
  -- fixed binary, width 0, and its null
  pub line_10 : (up (FixedBinary 0) (some []) ≡ 0x01 ∷ []) × (up (FixedBinary 0) none ≡ 0x00 ∷ [])
  -- length 32: 37 bytes, byte 36 is 08; length 33: 70 bytes, byte 36 is FF, byte 69 is 01
  pub line_11 :
      (length (up Variable (some (replicate 32 0x61))) ≡ 37)
      × (get_or (up Variable (some (replicate 32 0x61))) 36 0 ≡ 0x08)
      × (length (up Variable (some (replicate 33 0x61))) ≡ 70)
      × (get_or (up Variable (some (replicate 33 0x61))) 36 0 ≡ 0xff)
      × (get_or (up Variable (some (replicate 33 0x61))) 69 0 ≡ 0x01)
