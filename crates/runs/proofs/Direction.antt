-- Single bytes under either direction: what stands where, and what is stored. Assumes nothing.
use Prim.Native.Nat.{ℕ, zero, suc, ◌<◌}
use mathlib.Core.Path.{◌≡◌, refl, sym, ap, ◌∙◌}
use mathlib.Core.Bool.{Bool, true, false}
use mathlib.Core.List.{List, [], ◌∷◌}
use native.Mathlib.Omega.{arith}
use lib.ListN.{length, get_or, set}
use lib.Seq.{sets}
use Rattle.format.specs.Field.{directed}
use Rattle.format.specs.Lists.{low_bytes}
use Rattle.laws.proofs.Directed.{turn, turned, directed_cons}

-- the byte at a place
pub directed_at : (d : Bool) (f : List ℕ) (i : ℕ) → i < length f → get_or (directed d f) i 0 ≡ turn d (get_or f i 0)
directed_at d [] i h = absurd (omega arith)
directed_at d (x ∷ f) zero h = ap (λ (z : List ℕ). get_or z 0 0) (directed_cons d x f)
directed_at d (x ∷ f) (suc i) h = ap (λ (z : List ℕ). get_or z (suc i) 0) (directed_cons d x f) ∙ directed_at d f i (omega arith)

-- one byte
pub directed_one : (d : Bool) (x : ℕ) → directed d (x ∷ []) ≡ turn d x ∷ []
directed_one true x = refl
directed_one false x = refl

-- a byte that was turned, and stored
pub stored_byte : (d : Bool) (x r : ℕ) (l : List ℕ) (i : ℕ) → x < 256 → r < 256 → low_bytes 1 r ≡ directed d (low_bytes 1 x)
    → set l i r ≡ sets l i (directed d (x ∷ []))
stored_byte d x r l i hx hr e = ap (set l i) (turned d x r hx hr e) ∙ ap (sets l i) (sym (directed_one d x))
