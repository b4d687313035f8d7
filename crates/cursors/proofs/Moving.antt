-- Cursors that move on one by one, alone or while a piece is written for each. Assumes nothing.
use Prim.Native.Nat.{ℕ, suc, ◌+◌, ◌<◌, ◌≤◌}
use mathlib.Core.Path.{◌≡◌, refl, sym, ap, ap₂, ◌∙◌, subst}
use mathlib.Core.List.{List, [], ◌∷◌, ◌++◌, map, append_assoc, append-nil}
use native.Mathlib.Numerals.{add-one}
use native.Mathlib.Omega.{arith}
use lib.ListN.{length, get_or, set, take, drop, length-map, length-set, drop_of_length-le}
use lib.Seq.{sets, take-suc, take_all, drop-cons, length-take-le, set_at, get_or_at}
use Rattle.format.specs.declared.Column.{Column}
use Rattle.format.specs.Lists.{each, joined}
use Rattle.format.specs.Kinds.{Slot}
use Rattle.format.specs.Read.{Good}
use Rattle.basics.specs.Wrote.{Wrote}
use Rattle.basics.proofs.Append.{Turns, turns_begin, turns_room, turns_more, turns_end}
use Rattle.cursors.specs.Cursors.{cursor_field, cursor_slot, next_at, Readable, cursor_slots, nexts_at}
use Rattle.cursors.proofs.Maps.{at_map, each_map}

-- ---- numbers stored one after the other from the front

-- of the old ones the first r have given way to new ones
pub record Filled (new old now : List ℕ) (r : ℕ) : Type 0 where
  pub count : length new ≡ length old
  pub within : r ≤ length old
  pub long : length now ≡ length old
  pub says : now ≡ take r new ++ drop r old

pub fill_start : (new old : List ℕ) → length new ≡ length old → Filled new old old 0
fill_start new old e = record { count = e; within = omega arith; long = refl; says = refl }

module _ {new old now : List ℕ} {r : ℕ} (t : Filled new old now r) where
  pub fill_end : length now ≤ r → now ≡ new
  fill_end h =
      t.says
      ∙ ap₂ (λ (a b : List ℕ). a ++ b) (take_all r new (omega arith)) (drop_of_length-le old {i = r} (omega arith))
      ∙ append-nil new

  module _ (h : r < length now) where
    front : length (take r new) ≡ r
    front = length-take-le r new (omega arith)

    next_is : now ≡ take r new ++ get_or old r 0 ∷ drop (suc r) old
    next_is = t.says ∙ ap (λ (l : List ℕ). take r new ++ l) (drop-cons old r 0 (omega arith))

    -- the next is still the old one
    pub fill_at : get_or now r 0 ≡ get_or old r 0
    fill_at = ap (λ (l : List ℕ). get_or l r 0) next_is ∙ get_or_at (take r new) (get_or old r 0) (drop (suc r) old) 0 r front

    pub fill_more : (v : ℕ) → v ≡ get_or new r 0 → Filled new old (set now r v) (r + 1)
    fill_more v e = record {
      count = t.count;
      within = omega arith;
      long = length-set now r v ∙ t.long;
      says =
          ap (λ (l : List ℕ). set l r v) next_is
          ∙ set_at (take r new) (get_or old r 0) (drop (suc r) old) v r front
          ∙ ap (λ (x : ℕ). take r new ++ x ∷ drop (suc r) old) e
          ∙ sym (append_assoc (take r new) (get_or new r 0 ∷ []) (drop (suc r) old))
          ∙ ap (λ (l : List ℕ). l ++ drop (suc r) old) (sym (take-suc new r 0 (omega arith)))
          ∙ ap (λ (k : ℕ). take k new ++ drop k old) (sym (add-one r));
    }

-- ---- a piece written for the slot at each cursor, which then moves past the field

-- r of the pieces are written, and as many of the cursors xs have moved
pub record Moving (col : Column) (rows : List ℕ) (piece : Slot → List ℕ) (xs out₀ : List ℕ) (at₀ : ℕ) (now out : List ℕ) (at r : ℕ) : Type 0 where
  pub wrote : Turns (λ i. piece (cursor_slot col rows (get_or xs i 0))) (length xs) out₀ at₀ out at r
  pub moved : Filled (nexts_at col rows xs) xs now r

pub move_start : (col : Column) (rows : List ℕ) (piece : Slot → List ℕ) (xs out : List ℕ) (at : ℕ) → Moving col rows piece xs out at xs out at 0
move_start col rows piece xs out at = record {
  wrote = turns_begin (λ i. piece (cursor_slot col rows (get_or xs i 0))) (length xs) out at;
  moved = fill_start (nexts_at col rows xs) xs (length-map xs (next_at col rows));
}

module _ {col : Column} {rows : List ℕ} {piece : Slot → List ℕ} {xs out₀ : List ℕ} {at₀ : ℕ} {now out : List ℕ} {at r : ℕ}
    (t : Moving col rows piece xs out₀ at₀ now out at r) where
  abbrev here : ℕ → List ℕ
  here i = piece (cursor_slot col rows (get_or xs i 0))

  all : joined (each 0 (length xs) here) ≡ joined (map piece (cursor_slots col rows xs))
  all = ap joined (each_map piece (cursor_slot col rows) 0 xs)

  -- every row is passed
  pub move_end : length now ≤ r → Wrote (joined (map piece (cursor_slots col rows xs))) at₀ out₀ out at × (now ≡ nexts_at col rows xs)
  move_end h =
      let e = turns_end here (length xs) out₀ at₀ out at r t.wrote (omega arith) in
      (record { place = e.0 ∙ ap (λ (l : List ℕ). at₀ + length l) all; bytes = e.1 ∙ ap (sets out₀ at₀) all }, fill_end t.moved h)

  module _ (h : r < length now) where
    abbrev p : ℕ
    p = get_or now r 0

    -- the cursor of row r has not moved yet
    pub still : p ≡ get_or xs r 0
    still = fill_at t.moved h

    pub move_readable : Readable col rows xs → Good (cursor_field col rows p)
    move_readable such = subst (λ (q : ℕ). Good (cursor_field col rows q)) (sym still) (such r (omega arith))

    -- there is room for its piece
    pub move_room : at₀ + length (joined (map piece (cursor_slots col rows xs))) ≤ length out₀ → at + length (piece (cursor_slot col rows p)) ≤ length out
    move_room fits = rw still (turns_room here (length xs) out₀ at₀ out at r t.wrote (omega arith) (omega (arith, ap length all)))

    -- which is written, and the cursor moved
    pub move_more : (w v : ℕ) → length (piece (cursor_slot col rows p)) ≡ w → v ≡ next_at col rows p
        → Moving col rows piece xs out₀ at₀ (set now r v) (sets out at (piece (cursor_slot col rows p))) (at + w) (r + 1)
    move_more w v l e = record {
      wrote = rw still (turns_more here (length xs) out₀ at₀ out at r t.wrote w (omega arith) (rw still at l));
      moved = fill_more t.moved h v (e ∙ ap (next_at col rows) still ∙ sym (at_map (next_at col rows) xs r 0 0 (omega arith)));
    }
