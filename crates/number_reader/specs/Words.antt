-- The numbers that are read and written as one word.
use Rattle.std.specs.Prelude.{ℕ, ◌≡◌, ◌⊎◌}

-- their widths in bytes
abbrev pub WordWidth : ℕ → Type 0
WordWidth w = (w ≡ 2) ⊎ ((w ≡ 4) ⊎ (w ≡ 8))
