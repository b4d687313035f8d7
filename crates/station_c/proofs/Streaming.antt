-- What the row cutter's C entries make of the lent bytes, from what they are told of the answer. Assumes nothing.
use Prim.Native.Nat.{ℕ, ◌/◌, ◌<◌, ◌≤◌}
use mathlib.Core.Path.{◌≡◌}
use mathlib.Core.Bool.{cond}
use mathlib.Core.List.{List}
use lib.ListN.{length}
use Rattle.format.specs.declared.Refusal.TheVariants.{BrokenState}
use Rattle.format.specs.Numbers.{Answer, numbers_of}
use Rattle.std.specs.declared.result.Result.TheVariants.{Err}
use Rattle.format.specs.Lists.{over}
use Rattle.format.specs.Described.{ColumnList}
use Rattle.format.specs.Lent.{eights, eight_bytes, number_bytes, answer_room}
use Rattle.format.specs.Cutter.{start_answer, start_state, cut_answer, cut_state, cut_ends, finish_answer}
use Rattle.format.specs.CutterBytes.{state_bytes, no_room, lent_keeps, lent_state, lent_start, lent_start_state, lent_cut, lent_cut_state, lent_cut_ends, lent_finish}
use Rattle.format.specs.Promises.{LentStarted, LentPieceCut, LentFinished}
use Rattle.lent_calls.proofs.Entries.{short_answer, short_kept, long_answer, long_new}
use Rattle.cutter_bytes.specs.Calls.{StartedLent, PieceCutLent, FinishedLent}

-- ---- an answer that cannot hold the four numbers
module _ (lent : List ℕ) (short : length lent < answer_room) where
  pub start_short : (list : ColumnList) (state : List ℕ) → LentStarted list state lent state lent
  unfolding lent_start lent_start_state
  start_short list state = record {
    answers = short_answer lent short (cond (no_room state) (Err BrokenState) (start_answer list));
    states = short_kept lent short (cond (no_room state) state (over (state_bytes (start_state list)) state)) state;
  }

  pub cut_short : (state piece ends : List ℕ) → LentPieceCut state piece ends lent state ends lent
  unfolding lent_cut lent_cut_state lent_cut_ends
  cut_short state piece ends = record {
    answers = short_answer lent short (cut_answer (lent_state state) piece (length ends / 8));
    states = short_kept lent short (cond (lent_keeps state) (over (state_bytes (cut_state (lent_state state) piece (length ends / 8))) state) state) state;
    row_ends = short_kept lent short (over (eight_bytes (cut_ends (lent_state state) piece (eights ends))) ends) ends;
  }

  pub finish_short : (state : List ℕ) → LentFinished state lent lent
  unfolding lent_finish
  finish_short state = record { answers = short_answer lent short (finish_answer (lent_state state)) }

-- ---- one that can, and holds those of r
module _ (lent lent' : List ℕ) (r : Answer) (long : answer_room ≤ length lent) (put : lent' ≡ over (number_bytes (numbers_of r)) lent) where
  pub start_long : (list : ColumnList) (state state' : List ℕ) → StartedLent list state r state' → LentStarted list state lent state' lent'
  unfolding lent_start lent_start_state
  start_long list state state' h = record {
    answers = long_answer lent lent' r long put (cond (no_room state) (Err BrokenState) (start_answer list)) h.answers;
    states = long_new lent lent' r long put state' _ state h.states;
  }

  pub cut_long : (state piece ends state' ends' : List ℕ) → PieceCutLent state piece ends r state' ends'
      → LentPieceCut state piece ends lent state' ends' lent'
  unfolding lent_cut lent_cut_state lent_cut_ends
  cut_long state piece ends state' ends' h = record {
    answers = long_answer lent lent' r long put (cut_answer (lent_state state) piece (length ends / 8)) h.answers;
    states = long_new lent lent' r long put state' _ state h.states;
    row_ends = long_new lent lent' r long put ends' _ ends h.row_ends;
  }

  pub finish_long : (state : List ℕ) → FinishedLent state r → LentFinished state lent lent'
  unfolding lent_finish
  finish_long state h = record { answers = long_answer lent lent' r long put (finish_answer (lent_state state)) h.answers }
