-- A signed number by its upper bytes and its lower ones, whatever their count: only the upper ones hold the sign. Assumes nothing.
use Prim.Native.Nat.{ℕ, ◌+◌, ◌*◌, ◌<◌}
use mathlib.Core.Path.{◌≡◌, refl, ap, ◌∙◌}
use mathlib.Core.List.{List, [], ◌∷◌, ◌++◌, reverse, reverse-append}
use native.Mathlib.Omega.{arith}
use lib.ListN.{length, take, drop, length-reverse}
use lib.Seq.{drop-drop, take-add}
use Rattle.format.specs.Key.{signed_key, signed_unkey, flipped_top, unsigned_key}

-- m words of eight bytes from a place on are the n first and the one after them
pub words_apart : (m n : ℕ) → m ≡ n + 1 → (l : List ℕ) (from : ℕ)
    → take (8 * m) (drop from l) ≡ take (8 * n) (drop from l) ++ take 8 (drop (from + 8 * n) l)
words_apart m n e l from =
    ap (λ (k : ℕ). take k (drop from l)) {x = 8 * m} {y = 8 * n + 8} (omega arith)
    ∙ take-add (8 * n) 8 (drop from l) ∙ ap (λ (k : List ℕ). take (8 * n) (drop from l) ++ take 8 k) (drop-drop (8 * n) from l)

-- the top bit is in the bytes that come first
top_first : (f g : List ℕ) → 0 < length f → flipped_top (f ++ g) ≡ flipped_top f ++ g
top_first [] g h = absurd (omega arith)
top_first (x ∷ f) g h = refl

-- low byte first a number is a and then b: its key is that of b, and then a turned round
pub signed_apart : (a b : List ℕ) → 0 < length b → signed_key (a ++ b) ≡ signed_key b ++ unsigned_key a
signed_apart a b h = ap flipped_top (reverse-append a b) ∙ top_first (reverse b) (reverse a) (omega (arith, length-reverse b))

-- and back: the key is f and then g
pub unsign_apart : (f g : List ℕ) → 0 < length f → signed_unkey (f ++ g) ≡ reverse g ++ signed_unkey f
unsign_apart f g h = ap reverse (top_first f g h) ∙ reverse-append (flipped_top f) g
