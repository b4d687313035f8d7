-- The row cutter's pieces: a piece more is the bytes of both, so that any cutting gives the same ends, state and refusal; a refusal stays;
-- where 12 shows. Assumes nothing.
use Prim.Native.Nat.{ℕ, suc}
use mathlib.Core.Path.{◌≡◌, refl, ap, ap₂, sym, ◌∙◌}
use mathlib.Core.Bool.{Bool, cond}
use mathlib.Core.List.{List, [], ◌∷◌, ◌++◌, append_assoc}
use native.Mathlib.Omega.{arith}
use borrow.Author.Tests.{le-ltb}
use Rattle.format.specs.declared.Refusal.{Refusal}
use Rattle.format.specs.declared.Refusal.TheVariants.{ManyBytes}
use Rattle.format.specs.Check.{Check}
use Rattle.std.specs.declared.result.Result.TheVariants.{Ok, Err}
use Rattle.format.specs.declared.Cutter.{Cutter}
use Rattle.format.specs.Limits.{max_total}
use Rattle.format.specs.Lists.{joined}
use Rattle.format.specs.Cutter.{move_in, moved, refused, taken, unless, step, fed, new_end, ends_in}

-- ---- any cutting

-- a piece after another is both at once: the state, and the ends
pub fed_append : (s : Cutter) (p q : List ℕ) → fed s (p ++ q) ≡ fed (fed s p) q
fed_append s [] q = refl
fed_append s (b ∷ p) q = fed_append (step s b) p q

pub ends_append : (s : Cutter) (p q : List ℕ) → ends_in s (p ++ q) ≡ ends_in s p ++ ends_in (fed s p) q
ends_append s [] q = refl
ends_append s (b ∷ p) q =
    ap (λ (z : List ℕ). new_end s (step s b) ++ z) (ends_append (step s b) p q)
    ∙ sym (append_assoc (new_end s (step s b)) (ends_in (step s b) p) (ends_in (fed (step s b) p) q))

-- pieces, one after the other
abbrev pub fed_all : Cutter → List (List ℕ) → Cutter
fed_all s [] = s
fed_all s (p ∷ ps) = fed_all (fed s p) ps

abbrev pub ends_all : Cutter → List (List ℕ) → List ℕ
ends_all s [] = []
ends_all s (p ∷ ps) = ends_in s p ++ ends_all (fed s p) ps

fed_joined : (s : Cutter) (ps : List (List ℕ)) → fed_all s ps ≡ fed s (joined ps)
fed_joined s [] = refl
fed_joined s (p ∷ ps) = fed_joined (fed s p) ps ∙ sym (fed_append s p (joined ps))

ends_joined : (s : Cutter) (ps : List (List ℕ)) → ends_all s ps ≡ ends_in s (joined ps)
ends_joined s [] = refl
ends_joined s (p ∷ ps) = ap (λ (z : List ℕ). ends_in s p ++ z) (ends_joined (fed s p) ps) ∙ sym (ends_append s p (joined ps))

-- two cuttings of one stream give the same state, and the same refusal with it, and the same ends
pub any_cutting : (s : Cutter) (ps qs : List (List ℕ)) → joined ps ≡ joined qs → (fed_all s ps ≡ fed_all s qs) × (ends_all s ps ≡ ends_all s qs)
any_cutting s ps qs e = (
  fed_joined s ps ∙ ap (fed s) e ∙ sym (fed_joined s qs),
  ends_joined s ps ∙ ap (ends_in s) e ∙ sym (ends_joined s qs),
)

-- ---- a refusal stays, and no row ends after it

module _ (s : Cutter) (r : Refusal) (e : s.refusal ≡ Err r) where
  pub step_refused : (b : ℕ) → step s b ≡ s
  step_refused b = ap (λ (c : Check). unless c s (taken s b)) e

  pub fed_refused : (p : List ℕ) → fed s p ≡ s
  fed_refused [] = refl
  fed_refused (b ∷ p) = ap (λ (t : Cutter). fed t p) (step_refused b) ∙ fed_refused p

  pub ends_refused : (p : List ℕ) → ends_in s p ≡ []
  ends_refused [] = refl
  ends_refused (b ∷ p) =
      ap₂ {C = List ℕ} (λ x y. x ++ y)
      (ap (new_end s) (step_refused b) ∙ ap (λ (t : Bool). cond t (s.bytes ∷ []) []) (le-ltb s.rows s.rows (omega arith)))
      (ap (λ (t : Cutter). ends_in t p) (step_refused b) ∙ ends_refused p)

-- ---- the 16,777,217th byte is refused 12, whatever it is
pub step_full : (s : Cutter) (b : ℕ) → s.refusal ≡ Ok tt → s.bytes ≡ max_total → step s b ≡ refused (ManyBytes (suc max_total) s.rows)
step_full s b e f =
    ap (λ (c : Check). unless c s (taken s b)) e
    ∙ ap (λ (t : Bool). cond t (moved s (move_in s b)) (refused (ManyBytes (suc max_total) s.rows))) (le-ltb s.bytes max_total (omega (arith, f)))
