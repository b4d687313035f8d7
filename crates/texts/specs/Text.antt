-- The pieces of the program's text.
use Rattle.std.specs.Prelude.{ℕ, List, [], ◌∷◌, ◌++◌}
use Rattle.format.specs.Program.{hex, decimal}

-- a refused line has at most so many bytes
abbrev pub refused_room : ℕ
refused_room = 92

-- a row in hex and a newline
abbrev pub row_line : List ℕ → List ℕ
row_line row = hex row ++ (10 ∷ [])

-- a number in decimal, and a byte after it
abbrev pub number_text : ℕ → ℕ → List ℕ
number_text n after = decimal 20 n ++ (after ∷ [])
