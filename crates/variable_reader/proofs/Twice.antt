-- Numbers that are read and written in a copy: the bytes that they stand for. Assumes nothing.
use Prim.Native.Nat.{ℕ, ◌+◌, ◌-◌, ◌<◌, ◌≤◌}
use mathlib.Core.Path.{◌≡◌, ap, ◌∙◌}
use mathlib.Core.Bool.{Bool}
use mathlib.Core.List.{List}
use native.Mathlib.Omega.{arith}
use lib.ListN.{length, get_or, take, drop, length-drop}
use lib.Seq.{take_all}
use Rattle.format.specs.Field.{directed}
use Rattle.format.specs.Lists.{low, low_bytes}
use Rattle.number.proofs.Words.{read_back}

-- a number that was read, turned and stored
pub word_is : (l : List ℕ) (q w : ℕ) (d : Bool) (x y : ℕ) → ((j : ℕ) → get_or l j 0 < 256) → q + w ≤ length l → x ≡ low (take w (drop q l))
    → low_bytes w y ≡ directed d (low_bytes w x) → low_bytes w y ≡ directed d (take w (drop q l))
word_is l q w d x y b h e f = f ∙ ap (directed d) (read_back w l q x b h e)

-- one that ends with the run
pub last_is : (l : List ℕ) (w : ℕ) (d : Bool) (x y : ℕ) → ((j : ℕ) → get_or l j 0 < 256) → w ≤ length l → x ≡ low (take w (drop (length l - w) l))
    → low_bytes w y ≡ directed d (low_bytes w x) → low_bytes w y ≡ directed d (drop (length l - w) l)
last_is l w d x y b h e f =
    word_is l (length l - w) w d x y b (omega arith) e f
    ∙ ap (directed d) (take_all w (drop (length l - w) l) (omega (arith, length-drop (length l - w) l)))
