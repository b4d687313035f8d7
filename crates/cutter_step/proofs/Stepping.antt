-- A byte of the stream: 12, or what it does to its field. Assumes nothing.
use Prim.Native.Nat.{ℕ, suc, ◌+◌, ◌<◌, ◌≤◌}
use mathlib.Core.Path.{◌≡◌, refl, sym, ap, ap₂, ◌∙◌}
use mathlib.Core.Bool.{Bool, true, false, cond}
use mathlib.Core.List.{List, [], ◌∷◌}
use native.Mathlib.Numerals.{add-one}
use native.Mathlib.Omega.{arith}
use lib.Dec.{ltb}
use borrow.Author.Tests.{lt-ltb, le-ltb}
use Rattle.format.specs.declared.Column.{Column}
use Rattle.format.specs.declared.Schema.{Schema}
use Rattle.format.specs.declared.RowFault.{RowFault}
use Rattle.format.specs.declared.Refusal.{Refusal}
use Rattle.format.specs.declared.Refusal.TheVariants.{ManyBytes, Row}
use Rattle.format.specs.declared.Spot.{Spot}
use Rattle.format.specs.declared.Spot.TheVariants.{Start}
use Rattle.format.specs.declared.Cutter.{Cutter}
use Rattle.format.specs.Limits.{max_total}
use Rattle.format.specs.Kinds.{column_shape}
use Rattle.format.specs.CutterRule.{column_in}
use Rattle.format.specs.Cutter.{Move, on, whole, bad, move, move_in, moved, refused, further, row_ended, field_ended, taken, new_end}
use Rattle.cutter_step.specs.declared.Place.{Place}
use Rattle.cutter_step.specs.declared.Stepped.{Stepped}
use Rattle.cutter_step.specs.declared.Stepped.TheVariants.{Going, Ended, Stopped}
use Rattle.cutter_step.specs.Places.{state_at, Steps, after, shown, onward, ended}

-- ---- row ends

-- no row ends where their count stays
same_rows : (schema : Schema) (p q : Place) → q.rows ≡ p.rows → new_end (state_at schema p) (state_at schema q) ≡ []
same_rows schema p q e = rw (le-ltb p.rows q.rows (omega arith))

-- a refused state has none
no_rows : (schema : Schema) (p : Place) (r : Refusal) → new_end (state_at schema p) (refused r) ≡ []
no_rows schema p r = rw (le-ltb p.rows 0 (omega arith))

-- ---- n bytes that complete a field

module _ (schema : Schema) (p : Place) (count n : ℕ) where
  -- as the code counts
  counted : ℕ → ℕ → Bool → Stepped
  counted c r t =
      cond t (Going (record { rows = p.rows; bytes = p.bytes + n; row = p.row + n; column = c; spot = Start }))
      (Ended (record { rows = r; bytes = p.bytes + n; row = 0; column = 0; spot = Start }))

  pub field_ended_lem : schema.count ≡ count → field_ended (state_at schema p) n ≡ after schema (ended p count n)
  unfolding counted
  field_ended_lem e =
      ap (λ (k : ℕ). cond (ltb (suc p.column) k) (further (state_at schema p) n (suc p.column) Start) (row_ended (state_at schema p) n)) e
      ∙ go (ltb (suc p.column) count)
      ∙ ap₂ {C = Cutter} (λ (c r : ℕ). after schema (counted c r (ltb c count))) (sym (add-one p.column)) (sym (add-one p.rows))
    where
      go : (t : Bool) → cond t (further (state_at schema p) n (suc p.column) Start) (row_ended (state_at schema p) n) ≡ after schema (counted (suc p.column) (suc p.rows) t)
      go true = refl
      go false = refl

  pub field_end : new_end (state_at schema p) (after schema (ended p count n)) ≡ shown (ended p count n)
  unfolding counted
  field_end = go (ltb (p.column + 1) count)
    where
      go : (t : Bool) → new_end (state_at schema p) (after schema (counted (p.column + 1) (p.rows + 1) t)) ≡ shown (counted (p.column + 1) (p.rows + 1) t)
      go true = rw (le-ltb p.rows p.rows (omega arith))
      go false = rw (lt-ltb p.rows (p.rows + 1) (omega arith))

module _ (column : Column) (count : ℕ) (p : Place) (b : ℕ) where
  -- ---- 12
  pub step_full : max_total ≤ p.bytes → Steps column count p b (Stopped (ManyBytes (max_total + 1) p.rows))
  step_full h = record {
    state = λ schema c e. rw (le-ltb p.bytes max_total h);
    end = λ schema. no_rows schema p (ManyBytes (max_total + 1) p.rows);
  }

  -- ---- the field
  module _ (room : p.bytes < max_total) (m : Move) (is : m ≡ move (column_shape column) column.options p.spot p.row b) where
    moves : (schema : Schema) → column_in (state_at schema p) ≡ column → taken (state_at schema p) b ≡ moved (state_at schema p) m
    moves schema e =
        ap (λ (t : Bool). cond t (moved s (move_in s b)) (refused (ManyBytes (suc max_total) p.rows))) (lt-ltb p.bytes max_total room)
        ∙ ap (moved s) (ap (λ (col : Column). move (column_shape col) col.options p.spot p.row b) e ∙ sym is)
      where
        s : Cutter
        s = state_at schema p

    pub step_on : (spot : Spot) → m ≡ on spot → Steps column count p b (Going (onward p spot))
    step_on spot q = record {
      state = λ schema c e. moves schema e ∙ ap (moved (state_at schema p)) q;
      end = λ schema. same_rows schema p (onward p spot) refl;
    }

    pub step_bad : (f : RowFault) (at : ℕ) → m ≡ bad f at → Steps column count p b (Stopped (Row f p.rows p.column at))
    step_bad f at q = record {
      state = λ schema c e. moves schema e ∙ ap (moved (state_at schema p)) q;
      end = λ schema. no_rows schema p (Row f p.rows p.column at);
    }

    pub step_whole : m ≡ whole → Steps column count p b (ended p count 1)
    step_whole q = record {
      state = λ schema c e. moves schema e ∙ ap (moved (state_at schema p)) q ∙ field_ended_lem schema p count 1 c;
      end = λ schema. field_end schema p count 1;
    }
