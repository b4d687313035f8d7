-- Pieces written one after the other, each as its writer says it. Assumes nothing.
use Prim.Native.Nat.{ℕ, ◌+◌, ◌-◌, ◌≤◌}
use mathlib.Core.Path.{◌≡◌, ap, sym, ◌∙◌}
use mathlib.Core.List.{List, [], ◌++◌, append_assoc}
use native.Mathlib.Omega.{arith}
use lib.ListN.{length, take, drop, length-append}
use lib.Seq.{sets, sets-eq, length-sets, length-take-le, take_at, drop_at}
use Rattle.basics.specs.Wrote.{Wrote}
use Rattle.basics.proofs.Append.{Walk, walk_end, sets_append}

-- a walk with nothing left to write has written the whole
pub wrote_whole : {whole rest out₀ : List ℕ} {at₀ : ℕ} {out : List ℕ} {at : ℕ} → Walk whole rest out₀ at₀ out at → rest ≡ [] → Wrote whole at₀ out₀ out at
wrote_whole t e = let done = walk_end t e in record { place = done.0; bytes = done.1 }

-- one piece, and after it another
module _ {a : List ℕ} {at : ℕ} {x y : List ℕ} {mid : ℕ} (first : Wrote a at x y mid) where
  pub wrote_both : {b z : List ℕ} {end : ℕ} → Wrote b mid y z end → Wrote (a ++ b) at x z end
  wrote_both {b} second = record {
    place = omega (arith, first.place, second.place, length-append a b);
    bytes =
        second.bytes
        ∙ ap (λ (out : List ℕ). sets out mid b) first.bytes
        ∙ ap (λ (k : ℕ). sets (sets x at a) k b) first.place
        ∙ sym (sets_append a b x at);
  }

  -- room for both is room for the other
  pub room_after : (b : List ℕ) → at + length (a ++ b) ≤ length x → mid + length b ≤ length y
  room_after b fits = omega (arith, first.place, length-append a b, ap length first.bytes, length-sets x at a)

-- and for the first
pub room_first : (a b : List ℕ) (at : ℕ) (x : List ℕ) → at + length (a ++ b) ≤ length x → at + length a ≤ length x
room_first a b at x fits = omega (arith, length-append a b)

-- what was written stands there
pub wrote_there : {a : List ℕ} {at : ℕ} {x y : List ℕ} {next : ℕ} → Wrote a at x y next → at + length a ≤ length x → take (next - at) (drop at y) ≡ a
wrote_there {a} {at} {x} {y} {next} w fits =
    let rest = drop (at + length a) x in
    let front : length (take at x) ≡ at = length-take-le at x (omega arith) in
    ap (λ (out : List ℕ). take (next - at) (drop at out)) (w.bytes ∙ sets-eq a x at fits ∙ append_assoc (take at x) a rest)
    ∙ ap (take (next - at)) (drop_at (take at x) (a ++ rest) at front)
    ∙ take_at a rest (next - at) (omega (arith, w.place))
