-- The blocks of a value, and blocks of one size: what the block writers are handed.
use Rattle.std.specs.Prelude.{ℕ, List, length}
use Rattle.format.specs.Field.{blocks, block_size}

-- the blocks of x that come after the lead byte
abbrev pub data_blocks : List ℕ → List ℕ
data_blocks x = blocks block_size (length x) 0 x

-- the blocks of x, each of `size` bytes
abbrev pub even_blocks : ℕ → List ℕ → List ℕ
even_blocks size x = blocks (λ _. size) (length x) 0 x
