-- Rows that have values.
use Rattle.std.specs.Prelude.{ℕ, ◌<◌, ◌≤◌, ◌≡◌, true, List}
use Rattle.format.specs.Sheet.{bit}

-- all from `from` to before `to`, whose bits are in front of s
abbrev pub AllValid : List ℕ → ℕ → ℕ → Type 0
AllValid s from to = (r : ℕ) → from ≤ r → r < to → bit s r ≡ true
