-- The kinds that are decoded word by word: numbers of 16, 32 and 64 bits, by their coding, and the interval of 16 bytes.
use Rattle.std.specs.Prelude.{ℕ, ◌≡◌, cond, ◌⊎◌, [], ◌∷◌, eqb}
use Rattle.format.specs.Kinds.{Fixed, number, integer, float, parts}
use Rattle.number.specs.declared.Coding.{Coding}
use Rattle.number.specs.declared.Coding.TheVariants.{Unsigned, Signed, Float}
use Rattle.number_reader.specs.Words.{WordWidth}

-- numbers of w bytes
abbrev pub coded : Coding → ℕ → Fixed
coded Unsigned w = number w
coded Signed w = integer w
coded Float w = float w

-- those of w value bytes
abbrev pub worded : Coding → ℕ → Fixed
worded c w = cond (eqb w 16) (parts (4 ∷ 4 ∷ 8 ∷ [])) (coded c w)

abbrev pub Worded : ℕ → Type 0
Worded w = (w ≡ 16) ⊎ WordWidth w
