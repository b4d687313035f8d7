-- The scan for the first byte that is not zero. Assumes nothing.
use Prim.Native.Nat.{ℕ, suc, ◌+◌, ◌-◌, ◌<◌, ◌≤◌}
use mathlib.Core.Path.{◌≡◌, ap, ◌∙◌}
use mathlib.Core.Bool.{true, false}
use mathlib.Core.List.{List}
use native.Mathlib.Omega.{arith}
use native.Mathlib.Numerals.{add-one}
use lib.ListN.{length, get_or, drop, length-drop, drop_of_length-le}
use lib.Seq.{drop-cons}
use borrow.Author.Tests.{ne_eqb}
use Rattle.format.specs.Read.{all_zero, from_bad}

-- the bytes of t before place i are zeros: the rest decides
pub record Clean (t : List ℕ) (i : ℕ) : Type 0 where
  pub all : all_zero t ≡ all_zero (drop i t)
  pub bad : from_bad t ≡ from_bad (drop i t)

module _ (t : List ℕ) (i : ℕ) (k : Clean t i) where
  -- the byte at i is a zero
  pub clean_more : i < length t → get_or t i 0 ≡ 0 → Clean t (i + 1)
  clean_more h z = record {
    all = k.all ∙ rw (drop-cons t i 0 h, z, add-one i);
    bad = k.bad ∙ rw (drop-cons t i 0 h, z, add-one i);
  }

  -- it is not
  pub clean_bad : i < length t → (get_or t i 0 ≡ 0 → ⊥) → (all_zero t ≡ false) × (from_bad t ≡ length t - i)
  clean_bad h z = (
    k.all ∙ rw (drop-cons t i 0 h, ne_eqb (get_or t i 0) 0 z),
    k.bad ∙ rw (drop-cons t i 0 h, ne_eqb (get_or t i 0) 0 z) (omega (arith, length-drop (suc i) t)),
  )

  -- there is none
  pub clean_end : length t ≤ i → all_zero t ≡ true
  clean_end h = k.all ∙ ap all_zero (drop_of_length-le t {i = i} h)
