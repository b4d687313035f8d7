-- What a call promises, with the columns left where they are and the ends in the list counted.
use Rattle.std.specs.Prelude.{ℕ, ◌≡◌, List, [], length, Ok, Err}
use Rattle.format.specs.declared.Refusal.{Refusal}
use Rattle.format.specs.Check.{Check}
use Rattle.format.specs.declared.Cutter.{Cutter}
use Rattle.format.specs.Lists.{over}
use Rattle.format.specs.Cutter.{refused, ends_in, cut_fault}
use Rattle.format.specs.Promises.{PieceCut}
use Rattle.cutter.specs.declared.Counted.{Counted}
use Rattle.cutter.specs.declared.Left.{Left}
use Rattle.cutter.specs.declared.Left.TheVariants.{Same, Moved, Stopped}
use Rattle.cutter_step.specs.Places.{state_at}

-- a call that is refused before a byte is read
abbrev pub kept_back : Refusal → Counted
kept_back r = record { answer = Err r; left = Same; ends = 0 }

-- the state after a call
abbrev pub leaves : Cutter → Left → Cutter
leaves s Same = s
leaves s (Moved p) = state_at s.schema p
leaves s (Stopped r) = refused r

-- what it writes in front of the list: all ends of the piece, or none
abbrev pub unless_refused : Check → List ℕ → List ℕ
unless_refused (Ok tt) found = found
unless_refused (Err r) found = []

abbrev pub ends_written : Cutter → List ℕ → ℕ → List ℕ
ends_written s piece room = unless_refused (cut_fault s (length piece) room) (ends_in s piece)

pub record CutIn (s : Cutter) (piece ends : List ℕ) (r : Counted) (ends' : List ℕ) : Type 0 where
  pub cut : PieceCut s piece ends r.answer (leaves s r.left) ends'
  pub many : r.ends ≡ length (ends_written s piece (length ends))
  pub list : ends' ≡ over (ends_written s piece (length ends)) ends
