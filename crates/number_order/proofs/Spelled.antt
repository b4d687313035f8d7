-- Numbers by what their keys spell, over the count of bytes; and parts of a value. Assumes nothing.
use Prim.Native.Nat.{ℕ, ◌+◌, ◌-◌, ◌^◌, ◌<◌, ◌≤◌}
use mathlib.Core.Path.{◌≡◌, ap, sym, ◌∙◌}
use mathlib.Core.Bool.{Bool, cond}
use mathlib.Core.List.{List, reverse}
use native.Mathlib.Omega.{arith}
use lib.ListN.{length, get_or, take, drop}
use lib.Seq.{take-take, drop-drop}
use Rattle.format.specs.Lists.{low, low_bytes}
use Rattle.format.specs.Kinds.{float}
use Rattle.format.specs.Fold.{folded_bits, folded_value}
use Rattle.number.proofs.Folds.{folded_spelled}
use Rattle.number.proofs.Tops.{drop_take}
use Rattle.number.proofs.Words.{read_back, read_fits}
use Rattle.byte_order.proofs.Alike.{word_order}
use Rattle.std.specs.declared.cmp.Ordering.{Ordering}
use Rattle.std.specs.Ordering.{nat_cmp}
use Rattle.byte_order.specs.Answers.{ordering}
use Rattle.byte_order.proofs.Answered.{numbers}
use Rattle.number_order.specs.Orders.{Spells, Ordered}

-- the number x that stands at a place of s, by its bytes there
module _ (n : ℕ) (key_of : List ℕ → List ℕ) (s : List ℕ) (at : ℕ) (known : (i : ℕ) → get_or s i 0 < 256) (inside : at + n ≤ length s) (x z : ℕ) (a : x ≡ low (take n (drop at s))) where
  pub spelled_at : Spells n (key_of (low_bytes n x)) z → Spells n (key_of (take n (drop at s))) z
  spelled_at t = record { bytes = t.bytes ∙ ap (λ (v : List ℕ). reverse (key_of v)) (read_back n s at x known inside a) }

-- and the same folded to f
pub folded_at : (n : ℕ) (key_of : List ℕ → List ℕ) (b : Bool) (s : List ℕ) (at : ℕ) → ((i : ℕ) → get_or s i 0 < 256) → at + n ≤ length s
    → (x f z : ℕ) → x ≡ low (take n (drop at s)) → f ≡ cond b (folded_bits n x) x
    → Spells n (key_of (low_bytes n f)) z → Spells n (key_of (folded_value (float n) b (take n (drop at s)))) z
folded_at n key_of b s at known inside x f z a e t =
    spelled_at n (λ v. key_of (folded_value (float n) b v)) s at known inside x z a
    (record { bytes = t.bytes ∙ ap (λ (v : List ℕ). reverse (key_of v)) (folded_spelled n x f (read_fits n s at x known inside a) b e) })

-- two such words stand as the keys do
pub spelled_order : {n : ℕ} {f g : List ℕ} {x y : ℕ} {r : Ordering} → Spells n f x → Spells n g y → x < 256 ^ n → y < 256 ^ n → r ≡ nat_cmp x y → Ordered f g r
spelled_order {n} {f} {g} {x} {y} sx sy fx fy e =
    record { says = e ∙ numbers x y ∙ ap ordering (sym (word_order n x y f g fx fy sx.bytes sy.bytes)) }

-- the same of bytes that are said another way
pub ordered_as : {f g h k : List ℕ} {r : Ordering} → Ordered f g r → f ≡ h → g ≡ k → Ordered h k r
ordered_as o p q = rw (← p, ← q) o

-- n bytes at k of the m bytes from a place on
pub part : (s : List ℕ) (m at k n to : ℕ) → at + k ≡ to → k + n ≤ m → take n (drop k (take m (drop at s))) ≡ take n (drop to s)
part s m at k n to j h =
    ap (take n) (drop_take k m (drop at s) (omega arith)) ∙ take-take n (m - k) (drop k (drop at s)) (omega arith)
    ∙ ap (take n) (drop-drop k at s ∙ ap (λ (z : ℕ). drop z s) j)
