-- Columns of fixed values that stand as whole bytes.
use Rattle.std.specs.Prelude.{ℕ, ◌+◌, ◌*◌, ◌<◌, ◌≤◌, List, length}
use Rattle.format.specs.Limits.{max_rows}
use Rattle.format.specs.Sheet.{packed}
use Rattle.chunk_writer.specs.Cursors.{cursor}

-- some of n rows, whose values of w bytes are there, and whose fields have room
pub record Ready (w n from to : ℕ) (s : List ℕ) (room : ℕ) (offsets : List ℕ) : Type 0 where
  pub count : n ≤ max_rows
  pub low : from ≤ to
  pub high : to ≤ n
  pub there : n < length offsets
  pub values : packed n + n * w ≤ length s
  pub roomy : (r : ℕ) → from ≤ r → r < to → cursor offsets r + (1 + w) ≤ room
