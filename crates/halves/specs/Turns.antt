-- Searches by halves: the place where a test turns, and the two that a look-up finds.
use Rattle.std.specs.Prelude.{ℕ, ◌<◌, ◌≤◌, ◌≡◌, Bool, true, false, not, List, [], length, get_or, take}
use Rattle.std.specs.Fn.{Shared, FnReturnsAt}
use Rattle.std.specs.Borrow.{Bor}
use Rattle.format.specs.Batch.{below}
use Rattle.halves.specs.declared.Found.{Found}
use Rattle.format.specs.Lookup.{found_first, found_past}

-- what a row has in front, up to the key's length: the key, where the row begins with it
abbrev pub front : List ℕ → List ℕ → List ℕ
front key x = take (length key) x

-- the first search's test: a row is not below the key
abbrev pub reached : List ℕ → List ℕ → Bool
reached key x = not (below (front key x) key)

-- the second's: it is past all that begin with the key, which are above it too
abbrev pub passed : List ℕ → List ℕ → Bool
passed key x = below key (front key x)

-- what a call answers of a row is the test
abbrev pub Tests : {T : Type 0} → Shared T (Bor (List ℕ) × Unit {0}) Bool → T → (List ℕ → Bool) → Type 0
Tests g passes test = (row : List ℕ) (answer : Bool) → FnReturnsAt g passes row answer → answer ≡ test row

-- a row passes that is not below one that does
abbrev pub Rises : (List ℕ → Bool) → Type 0
Rises test = (x y : List ℕ) → below y x ≡ false → test x ≡ true → test y ≡ true

-- the rows before place r fail the test, and those from r on pass it
pub record Turns (test : List ℕ → Bool) (rows : List (List ℕ)) (r : ℕ) : Type 0 where
  pub inside : r ≤ length rows
  pub fail : (i : ℕ) → i < r → test (get_or rows i []) ≡ false
  pub pass : (i : ℕ) → r ≤ i → i < length rows → test (get_or rows i []) ≡ true

-- the two numbers of a look-up
pub record Finds (key : List ℕ) (rows : List (List ℕ)) (r : Found) : Type 0 where
  pub first : r.first ≡ found_first key rows
  pub past : r.past ≡ found_past key rows
