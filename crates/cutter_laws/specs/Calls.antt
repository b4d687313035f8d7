-- States that keep the rule, and calls, each with a lent list that is long enough.
use Rattle.std.specs.Prelude.{ℕ, ◌≤◌, ◌≡◌, true, List, [], ◌∷◌, ◌++◌, map, length}
use Rattle.format.specs.declared.Cutter.{Cutter}
use Rattle.format.specs.Limits.{max_columns}
use Rattle.format.specs.Lists.{Bytes, joined}
use Rattle.format.specs.CutterRule.{keeps}
use Rattle.format.specs.Cutter.{ends_in, cut_state}

-- the array of columns in the state is whole, as the code has it
abbrev pub Whole : Cutter → Type 0
Whole s = length s.schema.columns ≡ max_columns

-- such a state, which keeps the rule
abbrev pub Kept : Cutter → Type 0
Kept s = Whole s × (keeps s ≡ true)

-- a piece, and the lent list
pub record Lending : Type 0 where
  pub piece : List ℕ
  pub ends : List ℕ
  pub enough : length piece ≤ length ends
  pub bytes : Bytes piece

-- the pieces, joined
abbrev pub stream : List Lending → List ℕ
stream cs = joined (map (λ (c : Lending). c.piece) cs)

-- the state after the calls, and all that they write
abbrev pub calls : Cutter → List Lending → Cutter
calls s [] = s
calls s (c ∷ cs) = calls (cut_state s c.piece (length c.ends)) cs

abbrev pub calls_ends : Cutter → List Lending → List ℕ
calls_ends s [] = []
calls_ends s (c ∷ cs) = ends_in s c.piece ++ calls_ends (cut_state s c.piece (length c.ends)) cs
