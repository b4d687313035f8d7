-- A byte put together from flags, least bit first. Assumes nothing.
use Prim.Native.Nat.{ℕ, zero, suc, ◌+◌, ◌/◌, ◌%◌, ◌^◌, ◌<◌}
use mathlib.Core.Path.{◌≡◌, refl, sym, ap, ◌∙◌}
use mathlib.Core.Bool.{Bool, true, false, cond}
use mathlib.Core.List.{List, [], ◌∷◌, ◌++◌}
use native.Mathlib.Nat.{div-one, zero-div, pow-suc}
use native.Mathlib.Omega.{arith}
use lib.Dec.{eqb}
use lib.ListN.{length, get_or}
use lib.Pow.{shr-shr}
use Rattle.format.specs.Cleared.{byte_of}

-- a flag as a digit, and back
flag_small : (b : Bool) → cond b 1 0 < 2
flag_small true = omega arith
flag_small false = omega arith

pub flag_eq : (b : Bool) → eqb (cond b 1 0) 1 ≡ b
flag_eq true = refl
flag_eq false = refl

-- one flag more goes in at the top
pub byte_last : (fs : List Bool) (f : Bool) → byte_of (fs ++ (f ∷ [])) ≡ byte_of fs + cond f (2 ^ length fs) 0
byte_last [] true = refl
byte_last [] false = refl
byte_last (b ∷ fs) true = omega (arith, byte_last fs true, pow-suc 2 (length fs))
byte_last (b ∷ fs) false = omega (arith, byte_last fs false)

-- so there is room for it above the flags that are in
pub byte_small : (fs : List Bool) → byte_of fs < 2 ^ length fs
byte_small [] = omega arith
byte_small (b ∷ fs) = omega (arith, byte_small fs, flag_small b, pow-suc 2 (length fs))

-- bit k of the byte is flag k
pub byte_bit : (k : ℕ) (fs : List Bool) → byte_of fs / 2 ^ k % 2 ≡ cond (get_or fs k false) 1 0
byte_bit k [] = ap (λ (x : ℕ). x % 2) (zero-div (2 ^ k))
byte_bit zero (b ∷ fs) = ap (λ (x : ℕ). x % 2) (div-one (byte_of (b ∷ fs))) ∙ omega (arith, flag_small b)
byte_bit (suc k) (b ∷ fs) =
    let q : byte_of (b ∷ fs) / 2 ≡ byte_of fs = omega (arith, flag_small b) in
    let s : byte_of (b ∷ fs) / 2 / 2 ^ k ≡ byte_of (b ∷ fs) / 2 ^ suc k
    = shr-shr (byte_of (b ∷ fs)) 1 k ∙ ap (λ (j : ℕ). byte_of (b ∷ fs) / 2 ^ j) (omega arith) in
    ap (λ (x : ℕ). x % 2) (sym s ∙ ap (λ (x : ℕ). x / 2 ^ k) q) ∙ byte_bit k fs
