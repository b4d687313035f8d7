-- The codings of numbers: what each makes of a number's bytes, and back.
use Rattle.std.specs.Prelude.{ℕ, List, reverse}
use Rattle.format.specs.Key.{unsigned_key, signed_key, signed_unkey, float_key, float_unkey}
use Rattle.number.specs.declared.Coding.{Coding}
use Rattle.number.specs.declared.Coding.TheVariants.{Unsigned, Signed, Float}

-- from the sheet's bytes, low byte first, to the value bytes of a row
abbrev pub coding_key : Coding → List ℕ → List ℕ
coding_key Unsigned b = unsigned_key b
coding_key Signed b = signed_key b
coding_key Float b = float_key b

-- and back
abbrev pub coding_unkey : Coding → List ℕ → List ℕ
coding_unkey Unsigned f = reverse f
coding_unkey Signed f = signed_unkey f
coding_unkey Float f = float_unkey f
