-- What every writer promises that writes at a place and returns the next.
use Rattle.std.specs.Prelude.{ℕ, ◌+◌, ◌≡◌, List, length}
use Rattle.std.proofs.lemmas.List.Edits.{sets}

-- a piece is written at a place, what is around it stays, and the place after it is returned
pub record Wrote (piece : List ℕ) (at : ℕ) (entry exit : List ℕ) (next : ℕ) : Type 0 where
  pub place : next ≡ at + length piece
  pub bytes : exit ≡ sets entry at piece
