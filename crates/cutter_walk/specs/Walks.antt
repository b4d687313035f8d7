-- What the walks over a piece promise of each other.
use Rattle.std.specs.Prelude.{ℕ, ◌-◌, ◌≤◌, ◌≡◌, Bool, true, false, cond, ◌⊎◌, List, length, take, Ok, Err}
use Rattle.format.specs.declared.RowFault.{RowFault}
use Rattle.format.specs.declared.RowFault.TheVariants.{Cut, Lead, NullRest, BoolByte, EndByte, Padding, Extra, TooLong, Unfolded}
use Rattle.format.specs.declared.FieldFault.{FieldFault}
use Rattle.format.specs.declared.Refusal.TheVariants.{Row}
use Rattle.format.specs.declared.Schema.{Schema}
use Rattle.format.specs.Check.{Check}
use Rattle.format.specs.declared.Spot.{Spot}
use Rattle.format.specs.declared.Spot.TheVariants.{Start}
use Rattle.format.specs.declared.Cutter.{Cutter}
use Rattle.format.specs.Lists.{over}
use Rattle.format.specs.Cutter.{refused, fed, ends_in}
use Rattle.cutter_step.specs.declared.Place.{Place}
use Rattle.cutter_walk.specs.declared.Walked.{Walked}
use Rattle.cutter_step.specs.Places.{state_at}

-- ---- a fault of a field

abbrev pub is_cut : RowFault → Bool
is_cut Cut = true
is_cut Lead = false
is_cut NullRest = false
is_cut BoolByte = false
is_cut EndByte = false
is_cut Padding = false
is_cut Extra = false
is_cut TooLong = false
is_cut Unfolded = false

-- the fault that shows, in the first `whole` bytes of a row; a field that is cut off has none yet
abbrev pub fault_shown : FieldFault → ℕ → ℕ → ℕ → Check
fault_shown found r c whole = cond (is_cut found.0) (Ok tt) (Err (Row found.0 r c (whole - found.1)))

-- ---- a walk

-- a walk to the end of a field stops where the next begins, and any other at the end of the piece alone
abbrev pub StopsAt : Bool → Spot → Type 0
StopsAt true spot = spot ≡ Start
StopsAt false spot = ⊥

-- why a walk stands within the piece: a list with room for so many ends is full, or it stops there
abbrev pub Halts : Bool → ℕ → Walked → Type 0
Halts field room r = (room ≤ r.ends) ⊎ StopsAt field r.place.spot

-- where a walk over fields stands
abbrev pub placed : Check → ℕ → ℕ → ℕ → ℕ → ℕ → ℕ → Walked
placed check rows bytes row c n i = record {
  check = check;
  place = record { rows = rows; bytes = bytes; row = row; column = c; spot = Start };
  ends = n;
  read = i;
}

-- from p on, up to byte i of the piece, at which the walk stands, with n ends in front of the list
pub record Walking (schema : Schema) (p : Place) (piece ends₀ : List ℕ) (at : Place) (n i : ℕ) (ends : List ℕ) : Type 0 where
  pub found : List ℕ
  pub state : fed (state_at schema p) (take i piece) ≡ state_at schema at
  pub rows : ends_in (state_at schema p) (take i piece) ≡ found
  pub within : i ≤ length piece
  pub few : n ≤ i
  pub many : length found ≡ n
  pub list : ends ≡ over found ends₀
  pub long : length ends ≡ length ends₀

-- the state after a walk
abbrev pub walked_to : Check → Schema → Place → Cutter
walked_to (Ok tt) schema p = state_at schema p
walked_to (Err r) schema p = refused r

-- of the whole piece: the state after it, how many rows end in it, and the lent list at exit
pub record Walks (schema : Schema) (p : Place) (piece ends : List ℕ) (r : Walked) (ends' : List ℕ) : Type 0 where
  pub state : fed (state_at schema p) piece ≡ walked_to r.check schema r.place
  pub many : r.ends ≡ length (ends_in (state_at schema p) piece)
  pub list : ends' ≡ over (ends_in (state_at schema p) piece) ends
  pub long : length ends' ≡ length ends

-- a part of the walk from p on: it goes on, or the whole piece is refused
abbrev pub WalkedOn : Check → Schema → Place → List ℕ → List ℕ → Walked → List ℕ → Type 0
WalkedOn (Ok tt) schema p piece ends₀ r ends' = Walking schema p piece ends₀ r.place r.ends r.read ends'
WalkedOn (Err x) schema p piece ends₀ r ends' = Walks schema p piece ends₀ r ends'

-- wherever the walk began
abbrev pub Goes : Schema → Place → List ℕ → ℕ → ℕ → List ℕ → Walked → List ℕ → Type 0
Goes schema at piece i n ends r ends' =
    (p : Place) (ends₀ : List ℕ) → Walking schema p piece ends₀ at n i ends → WalkedOn r.check schema p piece ends₀ r ends'
