-- A number's bytes in the sheet, from its value bytes in a row; whether a float is folded. Assumes nothing.
use Prim.Native.Nat.{ℕ, ◌+◌, ◌^◌, ◌≤◌, ◌<◌}
use mathlib.Core.Path.{◌≡◌, ap, ◌∙◌}
use mathlib.Core.Bool.{Bool, true}
use mathlib.Core.List.{List}
use lib.Dec.{eqb}
use lib.ListN.{length, get_or, take, drop}
use Rattle.format.specs.Lists.{low, low_bytes}
use Rattle.format.specs.Kinds.{float}
use Rattle.format.specs.Key.{float_unkey}
use Rattle.format.specs.Fold.{folded_bits, is_folded}
use Rattle.format.specs.Field.{directed}
use Rattle.number.specs.declared.Coding.{Coding}
use Rattle.number.specs.Codings.{coding_unkey}
use Rattle.number.proofs.Words.{read_back}
use Rattle.number.proofs.Folds.{folded_same}

-- x is the word in the row, y the same inverted back, z that of the number
pub number_is : (n : ℕ) (c : Coding) (d : Bool) (row : List ℕ) (from : ℕ) → ((i : ℕ) → get_or row i 0 < 256) → from + n ≤ length row
    → (x y z : ℕ) → x ≡ low (take n (drop from row)) → low_bytes n y ≡ directed d (low_bytes n x) → low_bytes n z ≡ coding_unkey c (low_bytes n y)
    → low_bytes n z ≡ coding_unkey c (directed d (take n (drop from row)))
number_is n c d row from known inside x y z a t k = k ∙ ap (coding_unkey c) (t ∙ ap (directed d) (read_back n row from x known inside a))

-- z is the float, which stands so, and f the same folded
pub float_folded : (n : ℕ) (b : List ℕ) (z f : ℕ) → z < 256 ^ n → low_bytes n z ≡ b → f ≡ folded_bits n z → eqb f z ≡ is_folded (float n) true b
float_folded n b z f small t e = folded_same n z f small e ∙ ap (is_folded (float n) true) t
