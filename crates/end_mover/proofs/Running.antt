-- Ends written one after the other, with the count of the bytes so far. Assumes nothing.
use Prim.Native.Nat.{ℕ, ◌+◌, ◌*◌, ◌<◌, ◌≤◌}
use mathlib.Core.Path.{◌≡◌, refl, ap}
use mathlib.Core.List.{List, [], ◌∷◌, ◌++◌, map}
use native.Mathlib.Numerals.{add-one}
use native.Mathlib.Omega.{arith}
use lib.ListN.{length, get_or, drop, drop_of_length-le}
use lib.Seq.{sets, drop-cons}
use Rattle.format.specs.Kinds.{Slot}
use Rattle.format.specs.Limits.{max_slot}
use Rattle.format.specs.Lists.{ends_from, joined, low_bytes}
use Rattle.format.specs.Cleared.{variable_slot}
use Rattle.basics.specs.Wrote.{Wrote}
use Rattle.basics.proofs.Append.{Walk, walk_piece, walk_room}
use Rattle.cursors.proofs.Wrotes.{wrote_whole}

-- k, and after it where the value of the slot at each cursor ends, four bytes each
abbrev pub end_bytes : (ℕ → Slot) → ℕ → List ℕ → List ℕ
end_bytes slot k xs = joined (map (low_bytes 4) (ends_from k (map variable_slot (map slot xs))))

-- the next end comes first, whether values follow or not
first : (slot : ℕ → Slot) (k : ℕ) (xs : List ℕ) → (rest : List ℕ) × (end_bytes slot k xs ≡ low_bytes 4 k ++ rest)
first slot k [] = ([], refl)
first slot k (x ∷ xs) = (end_bytes slot (k + length (variable_slot (slot x))) xs, refl)

-- r of the values are counted: the ends before k are written
pub record Running (slot : ℕ → Slot) (xs out₀ : List ℕ) (at₀ : ℕ) (out : List ℕ) (at k r : ℕ) : Type 0 where
  pub within : r ≤ length xs
  pub small : k ≤ max_slot * r
  pub wrote : Walk (end_bytes slot 0 xs) (end_bytes slot k (drop r xs)) out₀ at₀ out at

module _ {slot : ℕ → Slot} {xs out₀ : List ℕ} {at₀ : ℕ} {out : List ℕ} {at k r : ℕ} (t : Running slot xs out₀ at₀ out at k r) where
  -- there is room for the next end
  pub run_room : at₀ + length (end_bytes slot 0 xs) ≤ length out₀ → at + 4 ≤ length out
  run_room fits = let f = first slot k (drop r xs) in walk_room t.wrote (low_bytes 4 k) f.0 f.1 fits

  -- which is written, and value r counted
  pub run_more : (n : ℕ) → r < length xs → n ≡ length (variable_slot (slot (get_or xs r 0))) → n ≤ max_slot
      → Running slot xs out₀ at₀ (sets out at (low_bytes 4 k)) (at + 4) (k + n) (r + 1)
  run_more n h e l = record {
    within = omega arith;
    small = omega (arith, t.small);
    wrote = walk_piece 4 (low_bytes 4 k) (end_bytes slot (k + n) (drop (r + 1) xs)) t.wrote (rw (e, add-one r, drop-cons xs r 0 h)) refl;
  }

  -- the last
  pub run_end : length xs ≤ r → Wrote (end_bytes slot 0 xs) at₀ out₀ (sets out at (low_bytes 4 k)) (at + 4)
  run_end h = wrote_whole (walk_piece 4 (low_bytes 4 k) [] t.wrote (ap (end_bytes slot k) (drop_of_length-le xs {i = r} h)) refl) refl
