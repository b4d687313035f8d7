-- The cutter's calls on a lent state and on ends as bytes: what they answer, and what they leave.
use Rattle.std.specs.Prelude.{ℕ, ◌/◌, ◌≡◌, cond, List, length, Err}
use Rattle.format.specs.declared.Refusal.TheVariants.{BrokenState}
use Rattle.format.specs.declared.Schema.{Schema}
use Rattle.format.specs.Numbers.{Answer, numbers_of}
use Rattle.format.specs.Lists.{over}
use Rattle.format.specs.Described.{ColumnList}
use Rattle.format.specs.Lent.{eights, eight_bytes}
use Rattle.format.specs.Cutter.{ends_in, fed, start_answer, start_state, cut_answer, cut_state, cut_ends, finish_answer}
use Rattle.format.specs.CutterBytes.{state_bytes, no_room, lent_keeps, lent_state}
use Rattle.cutter_step.specs.declared.Place.{Place}
use Rattle.cutter_walk.specs.declared.Walked.{Walked}
use Rattle.cutter_step.specs.Places.{state_at}
use Rattle.cutter_walk.specs.Walks.{walked_to}

-- a walk over the whole piece: the state after it, how many rows end in it, and the lent bytes at exit
pub record WalksLent (schema : Schema) (p : Place) (piece ends : List ℕ) (r : Walked) (ends' : List ℕ) : Type 0 where
  pub state : fed (state_at schema p) piece ≡ walked_to r.check schema r.place
  pub many : r.ends ≡ length (ends_in (state_at schema p) piece)
  pub list : ends' ≡ over (eight_bytes (ends_in (state_at schema p) piece)) ends

-- a start
pub record StartedLent (list : ColumnList) (state : List ℕ) (r : Answer) (state' : List ℕ) : Type 0 where
  pub answers : numbers_of r ≡ numbers_of (cond (no_room state) (Err BrokenState) (start_answer list))
  pub states : state' ≡ cond (no_room state) state (over (state_bytes (start_state list)) state)

-- a call
pub record PieceCutLent (state piece ends : List ℕ) (r : Answer) (state' ends' : List ℕ) : Type 0 where
  pub answers : numbers_of r ≡ numbers_of (cut_answer (lent_state state) piece (length ends / 8))
  pub states : state' ≡ cond (lent_keeps state) (over (state_bytes (cut_state (lent_state state) piece (length ends / 8))) state) state
  pub row_ends : ends' ≡ over (eight_bytes (cut_ends (lent_state state) piece (eights ends))) ends

-- the finish
pub record FinishedLent (state : List ℕ) (r : Answer) : Type 0 where
  pub answers : numbers_of r ≡ numbers_of (finish_answer (lent_state state))
