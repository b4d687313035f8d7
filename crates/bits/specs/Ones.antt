-- Ones counted in bytes.
use Rattle.std.specs.Prelude.{ℕ, ◌+◌, List, [], ◌∷◌}
use Rattle.std.specs.Int.Count.{ones}

-- the ones of all bytes
abbrev pub ones_in : List ℕ → ℕ
ones_in [] = 0
ones_in (b ∷ bs) = ones b + ones_in bs
