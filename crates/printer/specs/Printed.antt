-- What is promised of the program's text: what was read, and what is shown for it.
use Rattle.std.specs.Prelude.{ℕ, ◌≤◌, ◌≡◌, Bool, true, cond, List, length, take, drop}
use Rattle.format.specs.declared.Refusal.TheVariants.{Input}
use Rattle.format.specs.Numbers.{refusal_numbers}
use Rattle.format.specs.Program.{input_room, refused_line, output}
use Rattle.io.specs.Counts.{IsPrefixLen}

-- what was read of standard input: no more than there is room for, and where more follows, as much
pub record Read (input : List ℕ) (more : Bool) : Type 0 where
  pub few : length input ≤ input_room
  pub full : more ≡ true → length input ≡ input_room

-- 25 where more follows, and else the output for what was read, which is 25 too where that is over 32,768 bytes
abbrev pub shown : List ℕ → Bool → List ℕ
shown input more = cond more (refused_line (refusal_numbers Input)) (output input)

-- the first r bytes are what is shown; the others stay
pub record Printed (input : List ℕ) (more : Bool) (entry exit : List ℕ) (r : ℕ) : Type 0 where
  pub counts : IsPrefixLen r exit
  pub says : take r exit ≡ shown input more
  pub stays : drop r exit ≡ drop r entry
