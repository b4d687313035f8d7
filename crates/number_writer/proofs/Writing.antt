-- What the writers share: a lead byte, and after it a run of bytes; a number's value bytes. Assumes nothing.
use Prim.Native.Nat.{ℕ, ◌+◌, ◌≤◌, ◌<◌}
use mathlib.Core.Path.{◌≡◌, ap, ◌∙◌, subst}
use mathlib.Core.Bool.{Bool, cond}
use mathlib.Core.List.{List, ◌∷◌}
use native.Mathlib.Numerals.{add-one}
use native.Mathlib.Omega.{arith}
use lib.ListN.{length, get_or, set, take, drop}
use lib.Seq.{sets}
use Rattle.format.specs.Lists.{low, low_bytes}
use Rattle.format.specs.Kinds.{float}
use Rattle.format.specs.Key.{float_key}
use Rattle.format.specs.Fold.{folded_bits, folded_value}
use Rattle.format.specs.Field.{directed}
use Rattle.basics.specs.Wrote.{Wrote}
use Rattle.number.proofs.Folds.{folded_spelled}
use Rattle.basics.proofs.LowBytes.{length_low_bytes}
use Rattle.number.proofs.Words.{read_back, read_fits}

-- what is written, said another way
pub wrote_as : {f g : List ℕ} {at : ℕ} {out last : List ℕ} {next : ℕ} → Wrote f at out last next → f ≡ g → Wrote g at out last next
wrote_as {f} {g} {at} {out} {last} {next} p e = subst (λ (h : List ℕ). Wrote h at out last next) e p

-- the byte a, then f
pub lead_run : (out : List ℕ) (at a : ℕ) (f o last : List ℕ) (next : ℕ) → o ≡ set out at a → last ≡ sets o (at + 1) f → next ≡ at + 1 + length f
    → Wrote (a ∷ f) at out last next
lead_run out at a f o last next p e l = record { place = omega arith; bytes = e ∙ rw (p, add-one at) }

-- 01, then what is written after it
pub led : {f : List ℕ} {at : ℕ} {out last : List ℕ} {next : ℕ} → Wrote f (at + 1) (set out at 1) last next → Wrote (1 ∷ f) at out last next
led {f} {at} {out} {last} {next} p = record { place = omega (arith, p.place); bytes = p.bytes ∙ rw (add-one at) }

-- x is the number that stands at a place of s, y the word of its key, z the same inverted under descending
module _ (n : ℕ) (key_of : List ℕ → List ℕ) (d : Bool) (s : List ℕ) (from : ℕ) (known : (i : ℕ) → get_or s i 0 < 256) (inside : from + n ≤ length s) where
  pub number_wrote : (x y z : ℕ) (out last : List ℕ) (at : ℕ) → x ≡ low (take n (drop from s)) → low_bytes n y ≡ key_of (low_bytes n x)
      → low_bytes n z ≡ directed d (low_bytes n y) → last ≡ sets out at (low_bytes n z)
      → Wrote (directed d (key_of (take n (drop from s)))) at out last (at + n)
  number_wrote x y z out last at a k t e = wrote_as (record { place = omega (arith, length_low_bytes n z); bytes = e }) keyed
    where
      keyed : low_bytes n z ≡ directed d (key_of (take n (drop from s)))
      keyed = t ∙ ap (directed d) (k ∙ ap key_of (read_back n s from x known inside a))

-- the same of a float, which is folded to f
pub float_wrote : (n : ℕ) (b d : Bool) (s : List ℕ) (from : ℕ) → ((i : ℕ) → get_or s i 0 < 256) → from + n ≤ length s
    → (x f y z : ℕ) (out last : List ℕ) (at : ℕ) → x ≡ low (take n (drop from s)) → f ≡ cond b (folded_bits n x) x
    → low_bytes n y ≡ float_key (low_bytes n f) → low_bytes n z ≡ directed d (low_bytes n y) → last ≡ sets out at (low_bytes n z)
    → Wrote (directed d (float_key (folded_value (float n) b (take n (drop from s))))) at out last (at + n)
float_wrote n b d s from known inside x f y z out last at a e k t =
    let small = read_fits n s from x known inside a in
    number_wrote n (λ v. float_key (folded_value (float n) b v)) d s from known inside x y z out last at a
    (k ∙ ap float_key (folded_spelled n x f small b e)) t
