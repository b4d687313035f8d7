-- Ends and bytes of variable values, written in one pass: the ends alone give the sheet that the bytes are written over.
-- Assumes nothing.
use Prim.Native.Nat.{ℕ, suc, ◌+◌, ◌*◌, ◌<◌, ◌≤◌}
use mathlib.Core.Path.{◌≡◌, refl, sym, ap, ◌∙◌, subst}
use mathlib.Core.List.{List, [], ◌∷◌, ◌++◌, map}
use native.Mathlib.Omega.{arith}
use lib.ListN.{length, get_or, set, drop, length-map, length-append}
use lib.Seq.{sets, set_comm, length-sets}
use Rattle.format.specs.declared.SortOptions.{SortOptions}
use Rattle.format.specs.Kinds.{Slot}
use Rattle.format.specs.Limits.{max_slot}
use Rattle.format.specs.Lists.{ends_from, low_bytes}
use Rattle.format.specs.Cleared.{variable_slot}
use Rattle.basics.specs.Wrote.{Wrote}
use Rattle.basics.proofs.Append.{Walk}
use Rattle.basics.proofs.Bytes.{bytes_of, bytes_drop}
use Rattle.basics.proofs.Lists.{length_joined, length_ends}
use Rattle.laws.proofs.Room.{all_four}
use Rattle.cursors.specs.Cursors.{Readable, cursor_slot, next_at, nexts_at}
use Rattle.end_mover.specs.Ends.{variable_column, ends_at, data_at}
use Rattle.cursors.proofs.Lead.{inside, variable_short}
use Rattle.cursors.proofs.Moving.{Moving, still, move_readable, move_room, move_more, move_end}
use Rattle.end_mover.proofs.Running.{Running, end_bytes, run_room, run_more, run_end}
use Rattle.cursors.proofs.Wrotes.{wrote_both}

-- ---- runs of bytes apart from each other

set_apart : (xs l : List ℕ) (i j x : ℕ) → j < i → sets (set l j x) i xs ≡ set (sets l i xs) j x
set_apart [] l i j x h = refl
set_apart (y ∷ ys) l i j x h =
    ap (λ (m : List ℕ). sets m (suc i) ys) (set_comm l j i x y (λ e. absurd (omega (arith, e)))) ∙ set_apart ys (set l i y) (suc i) j x (omega arith)

sets_apart : (v xs l : List ℕ) (j i : ℕ) → j + length v ≤ i → sets (sets l j v) i xs ≡ sets (sets l i xs) j v
sets_apart [] xs l j i h = refl
sets_apart (x ∷ v) xs l j i h =
    sets_apart v xs (set l j x) (suc j) i (omega arith) ∙ ap (λ (m : List ℕ). sets m (suc j) v) (set_apart xs l i j x (omega arith))

-- a walk goes on where bytes before it change, in what it started from as in what it has
beside : {whole rest out₀ : List ℕ} {at₀ : ℕ} {out : List ℕ} {at : ℕ} (j : ℕ) (v : List ℕ) → j + length v ≤ at₀ → at₀ ≤ at
    → Walk whole rest out₀ at₀ out at → Walk whole rest (sets out₀ j v) at₀ (sets out j v) at
beside {whole} {rest} {out₀} {at₀} {out} {at} j v h k t = record {
  long = t.long;
  same = length-sets out j v ∙ t.same ∙ sym (length-sets out₀ j v);
  says =
      sets_apart v rest out j at (omega arith)
      ∙ ap (λ (l : List ℕ). sets l j v) t.says
      ∙ sym (sets_apart v whole out₀ j at₀ h);
}

-- ---- the pass

-- the ends take four bytes each
ends_long : (slot : ℕ → Slot) (k : ℕ) (xs : List ℕ) → length (end_bytes slot k xs) ≡ 4 * (length xs + 1)
ends_long slot k xs =
    let values = map variable_slot (map slot xs) in
    let ends = ends_from k values in
    omega (
      arith,
      length_joined 4 (map (low_bytes 4) ends) (all_four ends),
      length-map ends (low_bytes 4),
      length_ends k values,
      length-map (map slot xs) variable_slot,
      length-map xs slot,
    )

-- every value is short
pub value_short : (o : SortOptions) (rows : List ℕ) → ((i : ℕ) → get_or rows i 0 < 256) → (p : ℕ)
    → length (variable_slot (cursor_slot (variable_column o) rows p)) ≤ max_slot
value_short o rows known p = variable_short o (drop p rows) (bytes_drop p rows (bytes_of rows known))

-- r of the values are copied, from `from` on, and counted; `mid` has the ends before k alone
pub record Ended (o : SortOptions) (rows xs out₀ : List ℕ) (at₀ from : ℕ) (now out : List ℕ) (end k r : ℕ) : Type 0 where
  pub mid : List ℕ
  pub place : from ≡ at₀ + 4 * (length xs + 1)
  pub ends : Running (cursor_slot (variable_column o) rows) xs out₀ at₀ mid end k r
  pub copied : Moving (variable_column o) rows variable_slot xs mid from now out (from + k) r

module _ {o : SortOptions} {rows xs out₀ : List ℕ} {at₀ from : ℕ} {now out : List ℕ} {end k r : ℕ}
    (t : Ended o rows xs out₀ at₀ from now out end k r) where
  abbrev slot : ℕ → Slot
  slot = cursor_slot (variable_column o) rows

  abbrev next : List ℕ
  next = low_bytes 4 k

  -- the next end stands before the bytes
  before : end + 4 ≤ from
  before = omega (arith, t.place, t.ends.wrote.long, ends_long slot k (drop r xs), ends_long slot 0 xs)

  -- it is written
  pub marked : Moving (variable_column o) rows variable_slot xs (sets t.mid end next) from now (sets out end next) (from + k) r
  marked = record {
    wrote = (t.copied.wrote.0, beside end next before (omega arith) t.copied.wrote.1);
    moved = t.copied.moved;
  }

  module _ (fits : at₀ + length (ends_at o rows xs ++ data_at o rows xs) ≤ length out₀) where
    both_long : length (ends_at o rows xs ++ data_at o rows xs) ≡ 4 * (length xs + 1) + length (data_at o rows xs)
    both_long = length-append (ends_at o rows xs) (data_at o rows xs) ∙ ap (λ (n : ℕ). n + length (data_at o rows xs)) (ends_long slot 0 xs)

    -- there is room for it, and for all bytes
    pub end_room : end + 4 ≤ length out
    end_room = omega (arith, run_room t.ends (omega (arith, both_long, ends_long slot 0 xs)), t.copied.wrote.1.same)

    pub data_room : from + length (data_at o rows xs) ≤ length (sets t.mid end next)
    data_room = omega (arith, both_long, t.place, length-sets t.mid end next, t.ends.wrote.same)

  -- the cursor of row r stands within the rows, and there is room for its value
  module _ (h : r < length now) where
    pub row_there : Readable (variable_column o) rows xs → get_or now r 0 < length rows
    row_there all = inside (variable_column o) rows (get_or now r 0) (move_readable t.copied h all)

    pub value_room : at₀ + length (ends_at o rows xs ++ data_at o rows xs) ≤ length out₀
        → from + k + length (variable_slot (slot (get_or now r 0))) ≤ length out
    value_room fits = let m = move_room marked h (data_room fits) in omega (arith, m, length-sets out end next)

  -- value r is copied and counted
  pub ended_more : (h : r < length now) (n v : ℕ) → n ≡ length (variable_slot (slot (get_or now r 0))) → n ≤ max_slot
      → v ≡ next_at (variable_column o) rows (get_or now r 0)
      → Ended o rows xs out₀ at₀ from (set now r v) (sets (sets out end next) (from + k) (variable_slot (slot (get_or now r 0)))) (end + 4) (k + n) (r + 1)
  ended_more h n v e l q = record {
    mid = sets t.mid end next;
    place = t.place;
    ends = run_more t.ends n (omega (arith, t.copied.moved.long)) (e ∙ ap (λ (p : ℕ). length (variable_slot (slot p))) (still t.copied h)) l;
    copied = subst (λ (at : ℕ). Moving (variable_column o) rows variable_slot xs (sets t.mid end next) from (set now r v)
        (sets (sets out end next) (from + k) (variable_slot (slot (get_or now r 0)))) at (r + 1))
        {x = from + k + n} {y = from + (k + n)} (omega arith) (move_more marked h n v (sym e) q);
  }

  -- every value is, and the last end is written
  pub ended_end : length now ≤ r
      → Wrote (ends_at o rows xs ++ data_at o rows xs) at₀ out₀ (sets out end next) (from + k) × (now ≡ nexts_at (variable_column o) rows xs)
  ended_end h =
      let ends = run_end t.ends (omega (arith, t.copied.moved.long)) in
      let bytes = move_end marked h in
      let at : from ≡ end + 4 = omega (arith, ends.place, t.place, ends_long slot 0 xs) in
      (wrote_both ends (subst (λ (place : ℕ). Wrote (data_at o rows xs) place (sets t.mid end next) (sets out end next) (from + k)) at bytes.0), bytes.1)
