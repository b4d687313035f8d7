-- Directions: what descending does to bytes, and that doing it again undoes it.
use Prim.Native.Nat.{ℕ, ◌%◌, ◌<◌}
use mathlib.Core.Path.{◌≡◌, refl, sym, ap, ◌∙◌}
use mathlib.Core.Bool.{Bool, true, false, cond}
use mathlib.Core.List.{List, [], ◌∷◌, ◌++◌, map-append}
use native.Mathlib.Nat.{mod-eq_of_lt}
use lib.ListN.{length, get_or, take, drop, length-map}
use Rattle.format.specs.Field.{directed}
use Rattle.format.specs.Key.{invert}
use Rattle.format.specs.Lists.{Bytes, low_bytes}
use Rattle.basics.proofs.Bytes.{bytes_invert, invert_invert}
use Rattle.basics.proofs.Lists.{map_take, map_drop}

-- bytes stay bytes, and as many
pub bytes_directed : (d : Bool) (f : List ℕ) → Bytes f → Bytes (directed d f)
bytes_directed true f b = bytes_invert f
bytes_directed false f b = b

pub length_directed : (d : Bool) (f : List ℕ) → length (directed d f) ≡ length f
length_directed true f = length-map f invert
length_directed false f = refl

-- one byte, inverted under descending
abbrev pub turn : Bool → ℕ → ℕ
turn d x = cond d (invert x) x

-- of none there is none
pub directed_none : (d : Bool) → directed d [] ≡ []
directed_none true = refl
directed_none false = refl

-- byte by byte
pub directed_cons : (d : Bool) (x : ℕ) (f : List ℕ) → directed d (x ∷ f) ≡ turn d x ∷ directed d f
directed_cons true x f = refl
directed_cons false x f = refl

-- a byte that was turned as a number of one byte
pub turned : (d : Bool) (x r : ℕ) → x < 256 → r < 256 → low_bytes 1 r ≡ directed d (low_bytes 1 x) → r ≡ turn d x
turned d x r hx hr e =
    sym (mod-eq_of_lt hr) ∙ ap (λ (z : List ℕ). get_or z 0 0) (e ∙ directed_cons d (x % 256) []) ∙ ap (turn d) (mod-eq_of_lt hx)

-- part by part
pub directed_append : (d : Bool) (f g : List ℕ) → directed d (f ++ g) ≡ directed d f ++ directed d g
directed_append true f g = map-append invert f g
directed_append false f g = refl

pub directed_take : (d : Bool) (n : ℕ) (f : List ℕ) → directed d (take n f) ≡ take n (directed d f)
directed_take true n f = map_take invert n f
directed_take false n f = refl

pub directed_drop : (d : Bool) (n : ℕ) (f : List ℕ) → directed d (drop n f) ≡ drop n (directed d f)
directed_drop true n f = map_drop invert n f
directed_drop false n f = refl

-- twice is once back
pub directed_twice : (d : Bool) (f : List ℕ) → Bytes f → directed d (directed d f) ≡ f
directed_twice true f b = invert_invert f b
directed_twice false f b = refl

-- a field in front of other bytes, turned back
pub directed_back : (d : Bool) (f t : List ℕ) → Bytes f → directed d (directed d f ++ t) ≡ f ++ directed d t
directed_back d f t b = directed_append d (directed d f) t ∙ ap (λ (z : List ℕ). z ++ directed d t) (directed_twice d f b)
