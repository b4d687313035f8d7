-- The walks over a piece: the bytes read so far leave this state, and the ends that they complete stand in front of the list. Assumes
-- nothing.
use Prim.Native.Nat.{ℕ, suc, ◌+◌, ◌<◌, ◌≤◌}
use mathlib.Core.Path.{◌≡◌, refl, sym, ap, subst, ◌∙◌}
use mathlib.Core.Bool.{true}
use mathlib.Core.Logic.{⊎_elim}
use mathlib.Core.List.{List, [], ◌∷◌, ◌++◌, append-nil, append_assoc}
use native.Mathlib.Numerals.{add-one}
use native.Mathlib.Omega.{arith}
use lib.ListN.{length, get_or, take, drop, set, length-append, length-set}
use lib.Seq.{drop-cons, set_at}
use Rattle.format.specs.declared.Column.{Column}
use Rattle.format.specs.declared.Schema.{Schema}
use Rattle.format.specs.declared.Refusal.{Refusal}
use Rattle.format.specs.Check.{Check}
use Rattle.std.specs.declared.result.Result.TheVariants.{Ok, Err}
use Rattle.format.specs.declared.Cutter.{Cutter}
use Rattle.format.specs.Limits.{max_columns}
use Rattle.format.specs.Lists.{Bytes, over}
use Rattle.format.specs.Schemas.{no_column}
use Rattle.format.specs.CutterRule.{keeps}
use Rattle.format.specs.Cutter.{fed, new_end, ends_in}
use Rattle.basics.proofs.Compare.{choose}
use Rattle.basics.proofs.Bytes.{bytes_take, bytes_drop}
use Rattle.cutter_laws.specs.Calls.{Kept}
use Rattle.cutter_laws.proofs.RuleKept.{stands_of, rows_most, fed_keeps}
use Rattle.cutter_laws.proofs.Piece.{Upto, upto_more, upto_end, upto_refused}
use Rattle.cutter_step.specs.declared.Place.{Place}
use Rattle.cutter_step.specs.declared.Stepped.{Stepped}
use Rattle.cutter_step.specs.declared.Stepped.TheVariants.{Going, Ended, Stopped}
use Rattle.cutter_walk.specs.declared.Walked.{Walked}
use Rattle.cutter_step.specs.Places.{state_at, Standing, Steps, after, shown, Advance, Advances}
use Rattle.cutter_walk.specs.Walks.{Walking, walked_to, WalkedOn, Walks, Goes}

-- ---- a byte

-- what it does is what one byte of the piece does
pub one_byte : (column : Column) (count : ℕ) (p : Place) (piece : List ℕ) (i : ℕ) (r : Stepped) → i < length piece
    → Steps column count p (get_or piece i 0) r → Advances column count p piece i (record { turn = r; by = 1 })
one_byte column count p piece i r l t = record {
  state = λ schema c e. ap (fed (state_at schema p)) first ∙ t.state schema c e;
  ends = λ schema c e.
      ap (ends_in (state_at schema p)) first
      ∙ append-nil _
      ∙ ap (new_end (state_at schema p)) (t.state schema c e)
      ∙ t.end schema;
  some = omega arith;
  inside = omega arith;
}
  where
    first : take 1 (drop i piece) ≡ get_or piece i 0 ∷ []
    first = ap (take 1) (drop-cons piece i 0 l)

-- ---- the list: an end more after those found
over_one : (found ends : List ℕ) (n x : ℕ) → length found ≡ n → n < length ends → set (over found ends) n x ≡ over (found ++ (x ∷ [])) ends
over_one found ends n x e l =
    ap (λ (d : List ℕ). set (found ++ d) n x) (drop-cons ends (length found) 0 (omega arith))
    ∙ set_at found (get_or ends (length found) 0) rest x n e
    ∙ sym (append_assoc found (x ∷ []) rest)
    ∙ ap (λ (k : ℕ). (found ++ (x ∷ [])) ++ drop k ends) (sym (length-append found (x ∷ []) ∙ add-one (length found)))
  where
    rest : List ℕ
    rest = drop (suc (length found)) ends

-- ---- the walk

walk_begins : (schema : Schema) (p : Place) (piece ends : List ℕ) → Walking schema p piece ends p 0 0 ends
walk_begins schema p piece ends = record {
  found = [];
  state = refl;
  rows = refl;
  within = omega arith;
  few = omega arith;
  many = refl;
  list = refl;
  long = refl;
}

-- some bytes more
module _ {schema : Schema} {p : Place} {piece ends₀ : List ℕ} {at : Place} {n i : ℕ} {ends : List ℕ} (w : Walking schema p piece ends₀ at n i ends) (r : Advance)
    (a : Advances (get_or schema.columns at.column no_column) schema.count at piece i r) where
  more : (t : Stepped) → r.turn ≡ t → Upto (state_at schema p) piece (i + r.by) (after schema t) (w.found ++ shown t)
  more t e =
      subst (λ (x : Stepped). Upto (state_at schema p) piece (i + r.by) (after schema x) (w.found ++ shown x)) e
      (subst (λ (x : List ℕ). Upto (state_at schema p) piece (i + r.by) (after schema r.turn) (w.found ++ x)) (a.ends schema refl refl)
      (subst (λ (s : Cutter). Upto (state_at schema p) piece (i + r.by) s (w.found ++ ends_in (state_at schema at) (take r.by (drop i piece))))
      (a.state schema refl refl) (upto_more upto r.by)))
    where
      upto : Upto (state_at schema p) piece i (state_at schema at) w.found
      upto = record { state = w.state; ends = w.rows }

  walk_goes : (q : Place) → r.turn ≡ Going q → Walking schema p piece ends₀ q n (i + r.by) ends
  walk_goes q e =
      let u = more (Going q) e in
      record {
        found = w.found;
        state = u.state;
        rows = u.ends ∙ append-nil w.found;
        within = a.inside;
        few = omega (arith, w.few);
        many = w.many;
        list = w.list;
        long = w.long;
      }

  walk_ends : (q : Place) → r.turn ≡ Ended q → n < length ends → Walking schema p piece ends₀ q (n + 1) (i + r.by) (set ends n q.bytes)
  walk_ends q e l =
      let u = more (Ended q) e in
      record {
        found = w.found ++ (q.bytes ∷ []);
        state = u.state;
        rows = u.ends;
        within = a.inside;
        few = omega (arith, w.few, a.some);
        many = length-append w.found (q.bytes ∷ []) ∙ ap (λ (k : ℕ). k + 1) w.many;
        list = ap (λ (x : List ℕ). set x n q.bytes) w.list ∙ over_one w.found ends₀ n q.bytes w.many (omega (arith, w.long));
        long = length-set ends n q.bytes ∙ w.long;
      }

  walk_stops : (x : Refusal) (k : ℕ) (t : Place) → r.turn ≡ Stopped x → Walks schema p piece ends₀ (record { check = Err x; place = t; ends = n; read = k }) ends
  walk_stops x k t e =
      let s = upto_refused (more (Stopped x) e) x refl in
      let all : ends_in (state_at schema p) piece ≡ w.found = s.1 ∙ append-nil w.found in
      record {
        state = s.0;
        many = sym (ap length all ∙ w.many);
        list = w.list ∙ ap (λ (f : List ℕ). over f ends₀) (sym all);
        long = w.long;
      }

-- ---- one part of it, which began at a place of the piece with some ends in the list

-- the walk stands here, in a state that keeps the rule
pub record Turning (schema : Schema) (at₀ : Place) (piece : List ℕ) (i₀ n₀ : ℕ) (ends₀ : List ℕ) (at : Place) (n i : ℕ) (ends : List ℕ) : Type 0 where
  pub kept : Kept (state_at schema at)
  pub within : i ≤ length piece
  pub few : n ≤ i
  pub long : length ends ≡ length ends₀
  pub goes : (p : Place) (list : List ℕ) → Walking schema p piece list at₀ n₀ i₀ ends₀ → Walking schema p piece list at n i ends

pub turn_begins : (schema : Schema) (at : Place) (piece : List ℕ) (i n : ℕ) (ends : List ℕ) → length schema.columns ≡ max_columns → keeps (state_at schema at) ≡ true
    → n ≤ i → i ≤ length piece → Turning schema at piece i n ends at n i ends
turn_begins schema at piece i n ends held kept few within = record {
  kept = (held, kept);
  within = within;
  few = few;
  long = refl;
  goes = λ p list w. w;
}

-- what a byte or a field may count on
pub standing : (schema : Schema) (at : Place) → Kept (state_at schema at) → Standing (get_or schema.columns at.column no_column) schema.count at
unfolding keeps
standing schema at k =
    let t = stands_of (state_at schema at) k.1 in
    let rows = rows_most (state_at schema at) k.0 t in
    record {
      stood = record { kept = t.spot; seen = omega (arith, t.row_low); most = omega (arith, t.bytes_low, t.bytes_high) };
      rows = omega (arith, rows);
      row = t.bytes_low;
      bytes = t.bytes_high;
      here = t.column;
      few = t.count;
    }

module _ {schema : Schema} {at₀ : Place} {piece : List ℕ} {i₀ n₀ : ℕ} {ends₀ : List ℕ} {at : Place} {n i : ℕ} {ends : List ℕ}
    (t : Turning schema at₀ piece i₀ n₀ ends₀ at n i ends) where
  -- it may end here
  pub turn_leaves : (r : Walked) → r ≡ record { check = Ok tt; place = at; ends = n; read = i } → Goes schema at₀ piece i₀ n₀ ends₀ r ends
  turn_leaves r e p list w = rw e (t.goes p list w)

  module _ (bytes : Bytes piece) (r : Advance) (a : Advances (get_or schema.columns at.column no_column) schema.count at piece i r) where
    next_kept : Kept (after schema r.turn)
    next_kept =
        subst Kept (a.state schema refl refl)
        (fed_keeps (state_at schema at) (take r.by (drop i piece)) (bytes_take r.by (drop i piece) (bytes_drop i piece bytes)) t.kept)

    pub turn_goes : {at' : Place} {n' : ℕ} {ends' : List ℕ} (q : Place) → r.turn ≡ Going q → ends' ≡ ends → at' ≡ q → n' ≡ n
        → Turning schema at₀ piece i₀ n₀ ends₀ at' n' (i + r.by) ends'
    turn_goes q e x y z = rw (x, y, z) (record {
      kept = subst (λ (u : Stepped). Kept (after schema u)) e next_kept;
      within = a.inside;
      few = omega (arith, t.few);
      long = t.long;
      goes = λ p list w. walk_goes (t.goes p list w) r a q e;
    })

    pub turn_ends : {at' : Place} {n' : ℕ} {ends' : List ℕ} (q : Place) → n < length ends → r.turn ≡ Ended q → ends' ≡ set ends n q.bytes → at' ≡ q → n' ≡ n + 1
        → Turning schema at₀ piece i₀ n₀ ends₀ at' n' (i + r.by) ends'
    turn_ends q l e x y z = rw (x, y, z) (record {
      kept = subst (λ (u : Stepped). Kept (after schema u)) e next_kept;
      within = a.inside;
      few = omega (arith, t.few, a.some);
      long = length-set ends n q.bytes ∙ t.long;
      goes = λ p list w. walk_ends (t.goes p list w) r a q e l;
    })

    pub turn_stops : (x : Refusal) (k : ℕ) (place : Place) → r.turn ≡ Stopped x → Goes schema at₀ piece i₀ n₀ ends₀ (record { check = Err x; place = place; ends = n; read = k }) ends
    turn_stops x k place e p list w = walk_stops (t.goes p list w) r a x k place e

-- ---- the whole of it

-- a part that went on stands in a state that keeps the rule
pub walking_kept : {schema : Schema} {p : Place} {piece ends₀ : List ℕ} {at : Place} {n i : ℕ} {ends : List ℕ} → Bytes piece → length schema.columns ≡ max_columns
    → keeps (state_at schema p) ≡ true → Walking schema p piece ends₀ at n i ends → keeps (state_at schema at) ≡ true
walking_kept {schema} {p} {piece} {ends₀} {at} {n} {i} {ends} bytes held kept w =
    (subst Kept w.state (fed_keeps (state_at schema p) (take i piece) (bytes_take i piece bytes) (held, kept))).1

-- the first part
pub first_part : (schema : Schema) (p : Place) (piece ends : List ℕ) (r : Walked) (ends' : List ℕ) → Goes schema p piece 0 0 ends r ends' → WalkedOn r.check schema p piece ends r ends'
first_part schema p piece ends r ends' g = g p ends (walk_begins schema p piece ends)

pub part_passed : (c : Check) (schema : Schema) (p : Place) (piece ends : List ℕ) (r : Walked) (ends' : List ℕ) → c ≡ Ok tt → WalkedOn c schema p piece ends r ends'
    → Walking schema p piece ends r.place r.ends r.read ends'
part_passed c schema p piece ends r ends' e w = subst (λ (y : Check). WalkedOn y schema p piece ends r ends') e w

-- the list is as long as it was
pub walked_long : (c : Check) (schema : Schema) (p : Place) (piece ends : List ℕ) (r : Walked) (ends' : List ℕ) → WalkedOn c schema p piece ends r
    ends' → length ends' ≡ length ends
walked_long (Ok tt) schema p piece ends r ends' w = w.long
walked_long (Err x) schema p piece ends r ends' w = w.long

-- at the end of the piece
walk_done : {schema : Schema} {p : Place} {piece ends : List ℕ} {r : Walked} {ends' : List ℕ} → Walking schema p piece ends r.place r.ends r.read ends'
    → r.check ≡ Ok tt → length piece ≤ r.read → Walks schema p piece ends r ends'
walk_done {schema} {p} {piece} {ends} {r} {ends'} w e l =
    let s = upto_end {s₀ = state_at schema p} {piece = piece} (record { state = w.state; ends = w.rows }) l in
    record {
      state = s.0 ∙ sym (ap (λ (c : Check). walked_to c schema r.place) e);
      many = sym (ap length s.1 ∙ w.many);
      list = w.list ∙ ap (λ (f : List ℕ). over f ends) (sym s.1);
      long = w.long;
    }

-- a list with room for an end of every byte: the walk goes to the end of the piece
pub whole_walk : (schema : Schema) (p : Place) (piece ends : List ℕ) (r : Walked) (ends' : List ℕ) → length piece ≤ length ends
    → WalkedOn r.check schema p piece ends r ends' → (r.check ≡ Ok tt → r.read < length piece → length ends ≤ r.ends) → Walks schema p piece ends r ends'
whole_walk schema p piece ends r ends' room w h = go r.check refl w
  where
    go : (c : Check) → r.check ≡ c → WalkedOn c schema p piece ends r ends' → Walks schema p piece ends r ends'
    go (Ok tt) e w = walk_done w e (⊎_elim (λ l. omega (arith, h e l, w.few)) (λ l. l) (choose r.read (length piece)))
    go (Err x) e w = w
