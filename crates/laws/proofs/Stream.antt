-- The blocks of a value, byte by byte. Assumes nothing.
use Prim.Native.Nat.{ℕ, zero, suc, ◌+◌, ◌-◌, ◌<◌, ◌≤◌}
use mathlib.Core.Path.{◌≡◌, ap, sym, ◌∙◌}
use mathlib.Core.Logic.{◌⊎◌, inl, inr}
use mathlib.Core.Bool.{Bool, true, false, cond}
use mathlib.Core.List.{List, [], ◌∷◌, ◌++◌, append_assoc, append-nil}
use native.Mathlib.Omega.{arith}
use native.Mathlib.Nat.{sub_self, add-zero, add-suc, suc-add, zero-add}
use lib.Dec.{ltb}
use lib.ListN.{length, take, drop, replicate, take-append-drop, length-drop}
use lib.Seq.{length-take-le}
use Rattle.format.specs.Field.{block, block_size, blocks, variable_bytes}
use Rattle.basics.proofs.Compare.{choose}
use borrow.Author.Tests.{lt-ltb, le-ltb, le-leb, lt-leb}

-- what is left to write of x in block k, of which u bytes are written
abbrev pub stream : (ℕ → ℕ) → ℕ → ℕ → List ℕ → List ℕ
stream size k u [] = replicate (size k - u) 0 ++ (u ∷ [])
stream size k u (x ∷ xs) = cond (ltb u (size k)) (x ∷ stream size k (suc u) xs) (255 ∷ x ∷ stream size (suc k) 1 xs)

-- ---- the blocks are the stream

pub full_block : (d : List ℕ) (s e : ℕ) → length d ≡ s → block s d e ≡ d ++ (e ∷ [])
full_block d s e h = rw h (rw (sub_self s) (ap (λ (z : List ℕ). z ++ (e ∷ [])) (append-nil d)))

module _ (size : ℕ → ℕ) where
  -- data that fits into what is left of a block
  stream_data : (d r : List ℕ) (k u : ℕ) → u + length d ≤ size k → stream size k u (d ++ r) ≡ d ++ stream size k (u + length d) r
  stream_data [] r k u h = rw (add-zero u)
  stream_data (x ∷ d) r k u h =
      rw (lt-ltb u (size k) (omega arith)) (rw (add-suc u (length d)) (ap (λ (z : List ℕ). x ∷ z)
      (rw (← suc-add u (length d)) (stream_data d r k (suc u) (omega arith)))))

  pub stream_last : (x : List ℕ) (k : ℕ) → length x ≤ size k → stream size k 0 x ≡ block (size k) x (length x)
  stream_last x k h =
      ap (stream size k 0) (sym (append-nil x))
      ∙ stream_data x [] k 0 (omega arith)
      ∙ rw (zero-add (length x)) (sym (append_assoc x (replicate (size k - length x) 0) (length x ∷ [])))

  -- a full block, and what follows
  full_end : (k : ℕ) → 0 < size (suc k) → (r : List ℕ) → 0 < length r → stream size k (size k) r ≡ 255 ∷ stream size (suc k) 0 r
  full_end k room [] h = absurd (omega arith)
  full_end k room (y ∷ ys) h = rw (le-ltb (size k) (size k) (omega arith)) (rw (lt-ltb 0 (size (suc k)) room))

  pub stream_full : (room : (k : ℕ) → 0 < size k) (d r : List ℕ) (k : ℕ) → length d ≡ size k → 0 < length r
      → stream size k 0 (d ++ r) ≡ block (size k) d 255 ++ stream size (suc k) 0 r
  stream_full room d r k long h =
      stream_data d r k 0 (omega arith)
      ∙ ap (λ (n : ℕ). d ++ stream size k n r) (zero-add (length d) ∙ long)
      ∙ ap (λ (z : List ℕ). d ++ z) (full_end k (room (suc k)) r h)
      ∙ sym (append_assoc d (255 ∷ []) (stream size (suc k) 0 r))
      ∙ ap (λ (z : List ℕ). z ++ stream size (suc k) 0 r) (sym (full_block d (size k) 255 long))

  pub stream_more : (room : (k : ℕ) → 0 < size k) (x : List ℕ) (k : ℕ) → size k < length x
      → stream size k 0 x ≡ block (size k) (take (size k) x) 255 ++ stream size (suc k) 0 (drop (size k) x)
  stream_more room x k h =
      ap (stream size k 0) (sym (take-append-drop (size k) x))
      ∙ stream_full room (take (size k) x) (drop (size k) x) k (length-take-le (size k) x (omega arith)) (omega (arith, length-drop (size k) x))

  pub blocks_stream : (room : (k : ℕ) → 0 < size k) (n : ℕ) (x : List ℕ) (k : ℕ) → 0 < length x → length x ≤ n → blocks size n k x ≡ stream size k 0 x
  blocks_stream room zero x k h m = absurd (omega arith)
  blocks_stream room (suc n) x k h m = go (choose (size k) (length x)) (blocks_stream room n (drop (size k) x) (suc k))
    where
      go : (size k < length x) ⊎ (length x ≤ size k)
          → (0 < length (drop (size k) x) → length (drop (size k) x) ≤ n → blocks size n (suc k) (drop (size k) x) ≡ stream size (suc k) 0 (drop (size k) x))
          → blocks size (suc n) k x ≡ stream size k 0 x
      go (inl l) ih = rw (lt-leb (length x) (size k) l)
          (ap (λ (z : List ℕ). block (size k) (take (size k) x) 255 ++ z)
          (ih (omega (arith, length-drop (size k) x)) (omega (arith, length-drop (size k) x, room k)))
          ∙ sym (stream_more room x k l))
      go (inr l) ih = rw (le-leb (length x) (size k) l) (sym (stream_last x k l))

-- ---- the blocks of a field

pub block_size_room : (k : ℕ) → 0 < block_size k
block_size_room k = go (ltb k 4)
  where
    go : (b : Bool) → 0 < cond b 8 32
    go true = omega arith
    go false = omega arith

pub block_size_small : (k : ℕ) → block_size k < 255
block_size_small k = go (ltb k 4)
  where
    go : (b : Bool) → cond b 8 32 < 255
    go true = omega arith
    go false = omega arith

-- the field of a nonempty value, as the stream
pub variable_stream : (x : ℕ) (xs : List ℕ) → variable_bytes (x ∷ xs) ≡ 2 ∷ stream block_size 0 0 (x ∷ xs)
variable_stream x xs = ap (λ (z : List ℕ). 2 ∷ z) (blocks_stream block_size block_size_room (suc (length xs)) (x ∷ xs) 0 (omega arith) (omega arith))
