-- The line of a refusal: the word and four numbers, each with the byte after it. Assumes nothing.
use Prim.Native.Nat.{ℕ, ◌+◌, ◌≤◌}
use mathlib.Core.Path.{◌≡◌, ap, ◌∙◌}
use mathlib.Core.List.{List, [], ◌∷◌, ◌++◌, append_assoc}
use native.Mathlib.Omega.{arith}
use lib.ListN.{length, length-append}
use Rattle.format.specs.declared.Returned.{Returned}
use Rattle.format.specs.Program.{decimal, refused_line}
use Rattle.basics.specs.Wrote.{Wrote}
use Rattle.texts.specs.Text.{refused_room, number_text}
use Rattle.texts.proofs.Written.{wrote_then, wrote_as, wrote_long}
use Rattle.texts.proofs.Decimal.{decimal_short, number_short}

-- the word
abbrev word : List ℕ
word = 114 ∷ 101 ∷ 102 ∷ 117 ∷ 115 ∷ 101 ∷ 100 ∷ 32 ∷ []

-- a number takes at most 21 bytes
pub number_room : (n after k : ℕ) {at : ℕ} {out out' : List ℕ} {next : ℕ} → Wrote (number_text n after) at out out' next → at + (21 + k) ≤ length out
    → next + k ≤ length out'
number_room n after k w h = omega (arith, w.place, wrote_long w, number_short n after)

-- ---- the pieces one after another
pieces_long : (w x y z v s t : List ℕ) → length (w ++ x ++ s ++ y ++ s ++ z ++ s ++ v ++ t)
    ≡ length w + length x + length s + length y + length s + length z + length s + length v + length t
pieces_long w x y z v s t = simp length-append

pub refused_short : (a : Returned) → length (refused_line a) ≤ refused_room
refused_short a =
    omega (
      arith,
      pieces_long word (decimal 20 a.0) (decimal 20 a.1) (decimal 20 a.2) (decimal 20 a.3) (32 ∷ []) (10 ∷ []),
      decimal_short 20 a.0,
      decimal_short 20 a.1,
      decimal_short 20 a.2,
      decimal_short 20 a.3,
    )

regroup : (w x y z v s t : List ℕ) → w ++ (x ++ s) ++ (y ++ s) ++ (z ++ s) ++ (v ++ t) ≡ w ++ x ++ s ++ y ++ s ++ z ++ s ++ v ++ t
regroup w x y z v s t = simp append_assoc

pub refused_wrote : (a b : Returned) {out out₁ out₂ out₃ out₄ out₅ : List ℕ} {first second third fourth last : ℕ} → a ≡ b → Wrote word 0 out out₁ first
    → Wrote (number_text a.0 32) first out₁ out₂ second → Wrote (number_text a.1 32) second out₂ out₃ third
    → Wrote (number_text a.2 32) third out₃ out₄ fourth → Wrote (number_text a.3 10) fourth out₄ out₅ last
    → Wrote (refused_line b) 0 out out₅ last
refused_wrote a b e w x y z v =
    wrote_as (wrote_then _ _ (wrote_then _ _ (wrote_then _ _ (wrote_then _ _ w x) y) z) v)
    (regroup word (decimal 20 a.0) (decimal 20 a.1) (decimal 20 a.2) (decimal 20 a.3) (32 ∷ []) (10 ∷ []) ∙ ap refused_line e)
