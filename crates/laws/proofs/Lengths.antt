-- The length of a variable_bytes field.
use Prim.Native.Nat.{ℕ, zero, suc, ◌+◌, ◌-◌, ◌*◌, ◌/◌, ◌<◌, ◌≤◌}
use mathlib.Core.Path.{◌≡◌, refl, ap, ◌∙◌}
use mathlib.Core.Logic.{◌⊎◌, inl, inr}
use mathlib.Core.List.{List, [], ◌∷◌, ◌++◌}
use native.Mathlib.Omega.{arith}
use lib.ListN.{length, take, drop, replicate, length-append, length-drop, length-replicate}
use lib.Seq.{length-take-le}
use Rattle.format.specs.Field.{block, block_size, padded_length, variable_bytes}
use Rattle.basics.proofs.Compare.{choose}
use Rattle.laws.proofs.Stream.{stream, stream_last, stream_more, variable_stream, block_size_room}
use borrow.Author.Tests.{lt-ltb, le-ltb, le-leb, lt-leb}

length_block : (s : ℕ) (d : List ℕ) (e : ℕ) → length d ≤ s → length (block s d e) ≡ s + 1
length_block s d e h =
    length-append (d ++ replicate (s - length d) 0) (e ∷ [])
    ∙ omega (arith, length-append d (replicate (s - length d) 0), length-replicate {A = ℕ} (s - length d) 0)

module _ (size : ℕ → ℕ) (room : (k : ℕ) → 0 < size k) where
  length_last : (x : List ℕ) (k : ℕ) → length x ≤ size k → length (stream size k 0 x) ≡ size k + 1
  length_last x k h = ap length (stream_last size x k h) ∙ length_block (size k) x (length x) h

  length_more : (x : List ℕ) (k : ℕ) → size k < length x → length (stream size k 0 x) ≡ size k + 1 + length (stream size (suc k) 0 (drop (size k) x))
  length_more x k h =
      ap length (stream_more size room x k h)
      ∙ length-append (block (size k) (take (size k) x) 255) (stream size (suc k) 0 (drop (size k) x))
      ∙ ap (λ (n : ℕ). n + length (stream size (suc k) 0 (drop (size k) x)))
      (length_block (size k) (take (size k) x) 255 (omega (arith, length-take-le (size k) x (omega arith))))

pub small : (k : ℕ) → k < 4 → block_size k ≡ 8
small k h = rw (lt-ltb k 4 h)

pub large : (k : ℕ) → 4 ≤ k → block_size k ≡ 32
large k h = rw (le-ltb k 4 h)

-- the later blocks
length_large : (n : ℕ) (x : List ℕ) (k : ℕ) → 4 ≤ k → length x ≤ n → 0 < length x → length (stream block_size k 0 x) ≡ 33 * ((length x + 31) / 32)
length_large zero x k hk hn h = absurd (omega arith)
length_large (suc n) x k hk hn h = go (choose 32 (length x)) (length_large n (drop 32 x) (suc k) (omega arith))
  where
    b : block_size k ≡ 32
    b = large k hk

    go : (32 < length x) ⊎ (length x ≤ 32)
        → (length (drop 32 x) ≤ n → 0 < length (drop 32 x) → length (stream block_size (suc k) 0 (drop 32 x)) ≡ 33 * ((length (drop 32 x) + 31) / 32))
        → length (stream block_size k 0 x) ≡ 33 * ((length x + 31) / 32)
    go (inl l) ih =
        omega (
          arith,
          ih (omega (arith, length-drop 32 x)) (omega (arith, length-drop 32 x)),
          length-drop 32 x,
          rw b at (length_more block_size block_size_room x k (rw b l)),
        )
    go (inr l) ih = length_last block_size block_size_room x k (rw b l) ∙ rw b (omega arith)

-- the first blocks, of which m are left
record Short (m k : ℕ) (x : List ℕ) : Type 0 where
  pub few : length x ≤ 8 * m → length (stream block_size k 0 x) ≡ 9 * ((length x + 7) / 8)
  pub many : 8 * m < length x → length (stream block_size k 0 x) ≡ 9 * m + 33 * ((length x - 8 * m + 31) / 32)

length_small : (m : ℕ) (x : List ℕ) (k : ℕ) → k + m ≡ 4 → 0 < length x → Short m k x
length_small zero x k e h = record {
  few = λ n. absurd (omega arith);
  many = λ n. omega (arith, length_large (length x) x k (omega arith) (omega arith) h);
}
length_small (suc m) x k e h = go (choose 8 (length x)) (length_small m (drop 8 x) (suc k) (omega arith))
  where
    b : block_size k ≡ 8
    b = small k (omega arith)

    go : (8 < length x) ⊎ (length x ≤ 8) → (0 < length (drop 8 x) → Short m (suc k) (drop 8 x)) → Short (suc m) k x
    go (inl l) ih =
        let d : length (drop 8 x) ≡ length x - 8 = length-drop 8 x in
        let i : Short m (suc k) (drop 8 x) = ih (omega arith) in
        let q : length (stream block_size k 0 x) ≡ 8 + 1 + length (stream block_size (suc k) 0 (drop 8 x))
        = rw b at (length_more block_size block_size_room x k (rw b l)) in
        record {
          few = λ n. omega (arith, q, d, i.few (omega arith));
          many = λ n. omega (arith, q, d, i.many (omega arith));
        }
    go (inr l) ih =
        let q : length (stream block_size k 0 x) ≡ 8 + 1 = rw b at (length_last block_size block_size_room x k (rw b l)) in
        record { few = λ n. omega arith; many = λ n. absurd (omega arith) }

pub length_variable : (x : List ℕ) → length (variable_bytes x) ≡ padded_length (length x)
length_variable [] = refl
length_variable (x ∷ xs) = ap length (variable_stream x xs) ∙ go (choose 32 (suc (length xs)))
  where
    s : Short 4 0 (x ∷ xs)
    s = length_small 4 (x ∷ xs) 0 (omega arith) (omega arith)

    go : (32 < suc (length xs)) ⊎ (suc (length xs) ≤ 32) → suc (length (stream block_size 0 0 (x ∷ xs))) ≡ padded_length (suc (length xs))
    go (inl l) = rw (lt-leb (suc (length xs)) 32 l) (omega (arith, s.many (omega arith)))
    go (inr l) = rw (le-leb (suc (length xs)) 32 l) (omega (arith, s.few (omega arith)))
