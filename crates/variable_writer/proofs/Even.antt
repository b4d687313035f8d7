-- The blocks of a value as the stream, and the later ones as blocks of one size. Assumes nothing.
use Prim.Native.Nat.{ℕ, suc, ◌<◌, ◌≤◌}
use mathlib.Core.Path.{◌≡◌, refl, sym, ap₂, ◌∙◌}
use mathlib.Core.Bool.{cond}
use mathlib.Core.List.{List, [], ◌∷◌}
use native.Mathlib.Omega.{arith}
use lib.Dec.{ltb}
use lib.ListN.{length}
use Rattle.format.specs.Field.{block_size, variable_bytes}
use Rattle.laws.proofs.Lengths.{large}
use Rattle.laws.proofs.Stream.{stream, blocks_stream, block_size_room}
use Rattle.variable_writer.specs.Even.{data_blocks, even_blocks}

-- the blocks are the stream
pub even_is : (s : ℕ) (x : List ℕ) → 0 < s → 0 < length x → even_blocks s x ≡ stream (λ _. s) 0 0 x
even_is s x h l = blocks_stream (λ _. s) (λ _. h) (length x) x 0 l (omega arith)

pub data_is : (x : List ℕ) → 0 < length x → data_blocks x ≡ stream block_size 0 0 x
data_is x l = blocks_stream block_size block_size_room (length x) x 0 l (omega arith)

-- blocks that are of size s from block k on, as blocks of that size from any
pub agree : (size : ℕ → ℕ) (s : ℕ) (x : List ℕ) (k j u : ℕ) → ((i : ℕ) → k ≤ i → size i ≡ s) → stream size k u x ≡ stream (λ _. s) j u x
agree size s [] k j u a = rw (a k (omega arith))
agree size s (y ∷ x) k j u a =
    rw (a k (omega arith))
    (ap₂ (λ (b c : List ℕ). cond (ltb u s) (y ∷ b) (255 ∷ y ∷ c)) (agree size s x k j (suc u) a)
    (agree size s x (suc k) (suc j) 1 (λ i p. a i (omega arith))))

-- the later blocks
pub later : (x : List ℕ) → 0 < length x → stream block_size 4 0 x ≡ even_blocks 32 x
later x l = agree block_size 32 x 4 0 0 large ∙ sym (even_is 32 x (omega arith) l)

-- ---- a field

-- nothing
pub field_empty : (x : List ℕ) → length x ≡ 0 → variable_bytes x ≡ 1 ∷ []
field_empty [] h = refl
field_empty (y ∷ x) h = absurd (omega arith)

-- something
pub field_data : (x : List ℕ) → 0 < length x → variable_bytes x ≡ 2 ∷ data_blocks x
field_data [] h = absurd (omega arith)
field_data (y ∷ x) h = refl
