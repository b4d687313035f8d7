-- What the quick test of the ends says.
use Rattle.std.specs.Prelude.{ℕ, ◌<◌, List}
use Rattle.format.specs.Passed.{Step}

-- the ends of n rows neither fall nor step too far
abbrev pub Steps : ℕ → List ℕ → Type 0
Steps n s = (j : ℕ) → j < n → Step s j
