-- A piece in one call, and cut anywhere in two: the same ends, the same refusal, the same state.
use Rattle.std.specs.Prelude.{ℕ, ◌+◌, ◌≤◌, ◌≡◌, cond, List, ◌++◌, ltb, length, take, drop, Ok, Err}
use Rattle.format.specs.Check.{Check}
use Rattle.format.specs.Numbers.{Answer}
use Rattle.format.specs.declared.Cutter.{Cutter}
use Rattle.format.specs.Lists.{over}
use Rattle.format.specs.Promises.{PieceCut}
use Rattle.streams.specs.declared.TwoWays.{TwoWays}

-- a place of the piece, or its end
abbrev pub place_in : ℕ → ℕ → ℕ
place_in at size = cond (ltb at size) at size

-- a lent list, at entry and at exit
pub record Lent : Type 0 where
  pub entry : List ℕ
  pub exit : List ℕ

abbrev pub lent : List ℕ → List ℕ → Lent
lent entry exit = record { entry = entry; exit = exit }

-- the refusal that an answer is, and the rows that it counts
abbrev pub refusal_in : Answer → Check
refusal_in (Ok (a, b)) = Ok tt
refusal_in (Err r) = Err r

abbrev pub rows_in : Answer → ℕ
rows_in (Ok (a, b)) = a
rows_in (Err r) = 0

-- the two calls leave what the one leaves, and write what it writes
pub record SameCut (whole first second : Lent) (r : TwoWays) : Type 0 where
  pub front : List ℕ
  pub rest : List ℕ
  pub state : r.whole.state ≡ r.rest.state
  pub refusal : refusal_in r.whole.answer ≡ refusal_in r.rest.answer
  pub rows : refusal_in r.whole.answer ≡ Ok tt → rows_in r.whole.answer ≡ rows_in r.front.answer + rows_in r.rest.answer
  pub counted : refusal_in r.whole.answer ≡ Ok tt → rows_in r.whole.answer ≡ length (front ++ rest)
  pub whole_ends : whole.exit ≡ over (front ++ rest) whole.entry
  pub front_ends : first.exit ≡ over front first.entry
  pub rest_ends : second.exit ≡ over rest second.entry

-- the lists are long enough
pub record Enough (piece : List ℕ) (whole first second : Lent) : Type 0 where
  pub whole_room : length piece ≤ length whole.entry
  pub front_room : length piece ≤ length first.entry
  pub rest_room : length piece ≤ length second.entry

pub record CutTwice (s : Cutter) (piece : List ℕ) (at : ℕ) (whole first second : Lent) (r : TwoWays) : Type 0 where
  pub one : PieceCut s piece whole.entry r.whole.answer r.whole.state whole.exit
  pub before : PieceCut s (take (place_in at (length piece)) piece) first.entry r.front.answer r.front.state first.exit
  pub after : PieceCut r.front.state (drop (place_in at (length piece)) piece) second.entry r.rest.answer r.rest.state second.exit
  pub same : Enough piece whole first second → SameCut whole first second r
