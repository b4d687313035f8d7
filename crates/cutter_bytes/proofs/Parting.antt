-- A piece walked in parts: what the loop holds, and what each way out of a turn gives. Assumes nothing.
use Prim.Native.Nat.{ℕ, ◌+◌, ◌-◌, ◌*◌, ◌/◌, ◌<◌, ◌≤◌}
use mathlib.Core.Path.{◌≡◌, refl, sym, ap, subst, ◌∙◌}
use mathlib.Core.Bool.{true}
use mathlib.Core.Logic.{⊎_elim}
use mathlib.Core.List.{List, ◌++◌, append-nil}
use native.Mathlib.Omega.{arith}
use lib.ListN.{length, take, drop, length-append, length-drop, take-append-drop}
use lib.Seq.{sets, length-sets, take-add, take_at, take_all, take-take, length-take-le}
use borrow.Rule.Slice.PartMut.{mid_of, put_mid}
use Rattle.format.specs.declared.Schema.{Schema}
use Rattle.format.specs.declared.Refusal.{Refusal}
use Rattle.format.specs.Check.{Check}
use Rattle.std.specs.declared.result.Result.TheVariants.{Ok, Err}
use Rattle.format.specs.declared.Cutter.{Cutter}
use Rattle.format.specs.Lists.{Bytes, over}
use Rattle.format.specs.Lent.{eight_bytes}
use Rattle.format.specs.CutterRule.{keeps}
use Rattle.format.specs.Cutter.{refused, fed, ends_in}
use Rattle.basics.proofs.Compare.{choose}
use Rattle.basics.proofs.Append.{over_sets}
use Rattle.basics.proofs.Bytes.{bytes_take}
use Rattle.laws.proofs.InUse.{Held, columns_room}
use Rattle.lent_bytes.proofs.NumberBytes.{length_eights, eights_append}
use Rattle.cutter_laws.proofs.Cutting.{fed_append, ends_append, fed_refused, ends_refused}
use Rattle.cutter_laws.proofs.Piece.{ends_few}
use Rattle.cutter_laws.proofs.RuleKept.{fed_keeps}
use Rattle.cutter_step.specs.declared.Place.{Place}
use Rattle.cutter_walk.specs.declared.Walked.{Walked}
use Rattle.cutter_step.specs.Places.{state_at}
use Rattle.cutter_walk.specs.Walks.{walked_to, Walking, WalkedOn, Walks}
use Rattle.cutter_bytes.specs.Calls.{WalksLent}
use Rattle.state_bytes.proofs.Writing.{then_sets, part_put}

-- the bytes that a walk took, of so many: where it is refused, all
abbrev pub took : Check → ℕ → ℕ → ℕ
took (Ok tt) read all = read
took (Err r) read all = all

module _ (schema : Schema) (p : Place) (piece ends₀ : List ℕ) where
  abbrev s : Cutter
  s = state_at schema p

  -- the ends in the first `to` bytes
  abbrev found : ℕ → List ℕ
  found to = ends_in s (take to piece)

  -- the first `to` bytes are walked, and the ends in them stored
  pub record Stored (to : ℕ) (t : Cutter) (n : ℕ) (ends : List ℕ) : Type 0 where
    pub state : fed s (take to piece) ≡ t
    pub many : n ≡ length (found to)
    pub list : ends ≡ over (eight_bytes (found to)) ends₀
    pub long : length ends ≡ length ends₀

  pub stored_begin : Stored 0 s 0 ends₀
  stored_begin = record { state = refl; many = refl; list = refl; long = refl }

  -- the place and the state, by other names
  pub stored_is : (to to' : ℕ) (t t' : Cutter) (n : ℕ) (ends : List ℕ) → to ≡ to' → t ≡ t' → Stored to t n ends → Stored to' t' n ends
  stored_is to to' t t' n ends p e st =
      subst (λ (k : ℕ). Stored k t' n ends) p
      (record { state = st.state ∙ e; many = st.many; list = st.list; long = st.long })

  -- ends are no more than bytes
  pub stored_few : (to : ℕ) (t : Cutter) (n : ℕ) (ends : List ℕ) → to ≤ length piece → Stored to t n ends → n ≤ to
  stored_few to t n ends h st = omega (arith, st.many, ends_few s (take to piece), length-take-le to piece h)

  -- the state keeps the rule still
  pub stored_keeps : Held schema → Bytes piece → keeps s ≡ true → (to : ℕ) (t : Cutter) (n : ℕ) (ends : List ℕ) → Stored to t n ends → keeps t ≡ true
  stored_keeps held bs k to t n ends st =
      ap keeps (sym st.state) ∙ (fed_keeps s (take to piece) (bytes_take to piece bs) (columns_room schema held, k)).1

  -- ---- the walk from byte i on
  module _ (i : ℕ) (at : Place) (numbers : List ℕ) (w : Walked) (numbers' : List ℕ)
      (on : WalkedOn w.check schema at (take (length piece - i) (drop i piece)) numbers w numbers') where
    abbrev rest : List ℕ
    rest = take (length piece - i) (drop i piece)

    abbrev pub taken : ℕ
    taken = took w.check w.read (length piece - i)

    length_rest : length rest ≡ length piece - i
    length_rest = length-take-le (length piece - i) (drop i piece) (omega (arith, length-drop i piece))

    taken_within : taken ≤ length piece - i
    taken_within = go w.check on
      where
        go : (c : Check) → WalkedOn c schema at rest numbers w numbers' → took c w.read (length piece - i) ≤ length piece - i
        go (Ok tt) x = omega (arith, x.within, length_rest)
        go (Err r) x = omega arith

    -- what is left is no less after it
    taken_some : 1 ≤ length numbers → i < length piece → w.check ≡ Ok tt → (w.check ≡ Ok tt → w.read < length rest → length numbers ≤ w.ends)
        → 1 ≤ w.read
    taken_some least more e full =
        let x : Walking schema at rest numbers w.place w.ends w.read numbers' = subst
        (λ (c : Check). WalkedOn c schema at rest numbers w numbers') e on in
        ⊎_elim (λ l. omega (arith, full e l, x.few)) (λ l. omega (arith, length_rest)) (choose w.read (length rest))

    -- the walk of these bytes alone
    taken_walks : Walks schema at (take taken (drop i piece)) numbers w numbers'
    taken_walks =
        subst (λ (l : List ℕ). Walks schema at l numbers w numbers') (take-take taken (length piece - i) (drop i piece) taken_within) (go w.check refl on)
      where
        go : (c : Check) → w.check ≡ c → WalkedOn c schema at rest numbers w numbers' → Walks schema at
            (take (took c w.read (length piece - i)) rest) numbers w numbers'
        go (Ok tt) e x = record {
          state = x.state ∙ sym (ap (λ (c : Check). walked_to c schema w.place) e);
          many = sym (ap length x.rows ∙ x.many);
          list = x.list ∙ ap (λ (f : List ℕ). over f numbers) (sym x.rows);
          long = x.long;
        }
        go (Err r) e x = subst (λ (l : List ℕ). Walks schema at l numbers w numbers') (sym (take_all (length piece - i) rest (omega (arith, length_rest)))) x

  -- ---- k bytes more
  module _ (i k n : ℕ) (at : Place) (ends numbers numbers' : List ℕ) (w : Walked) (high : i + k ≤ length piece)
      (room : length piece ≤ length ends₀ / 8) (st : Stored i (state_at schema at) n ends)
      (walks : Walks schema at (take k (drop i piece)) numbers w numbers') where
    abbrev part : List ℕ
    part = take k (drop i piece)

    abbrev new : List ℕ
    new = ends_in (state_at schema at) part

    length_part : length part ≡ k
    length_part = length-take-le k (drop i piece) (omega (arith, length-drop i piece))

    -- no more ends than bytes, and they lie within the lent bytes
    part_few : w.ends ≤ k
    part_few = omega (arith, walks.many, ends_few (state_at schema at) part, length_part)

    part_room : 8 * n + 8 * w.ends ≤ length ends
    part_room = omega (arith, part_few, stored_few i (state_at schema at) n ends (omega arith) st, st.long)

    -- the list of numbers has room for them
    numbers_fit : w.ends ≤ length numbers'
    numbers_fit = omega (arith, walks.many, ap length walks.list, length-append new (drop (length new) numbers))

    joined : take (i + k) piece ≡ take i piece ++ part
    joined = take-add i k piece

    more : found (i + k) ≡ found i ++ new
    more = ap (ends_in s) joined ∙ ends_append s (take i piece) part ∙ ap (λ (t : Cutter). found i ++ ends_in t part) st.state

    numbers_new : take w.ends numbers' ≡ new
    numbers_new = ap (take w.ends) walks.list ∙ take_at new (drop (length new) numbers) w.ends (sym walks.many)

    module _ (q : List ℕ) (put : q ≡ over (eight_bytes (take w.ends numbers')) (mid_of (8 * n) (length ends - 8 * n) ends)) where
      size : 8 * n + length (eight_bytes new) ≤ length ends
      size = omega (arith, length_eights new, walks.many, part_room)

      abbrev after : List ℕ
      after = put_mid (8 * n) (length ends - 8 * n) ends q

      set_after : after ≡ sets ends (8 * n) (eight_bytes new)
      set_after =
          ap (put_mid (8 * n) (length ends - 8 * n) ends)
          (put ∙ ap (λ (z : List ℕ). over (eight_bytes z) (mid_of (8 * n) (length ends - 8 * n) ends)) numbers_new)
          ∙ part_put (8 * n) (eight_bytes new) ends size

      before_set : ends ≡ sets ends₀ 0 (eight_bytes (found i))
      before_set = st.list ∙ over_sets (eight_bytes (found i)) ends₀ (omega (arith, length_eights (found i), st.many, st.long, part_room))

      stored_more : Stored (i + k) (walked_to w.check schema w.place) (n + w.ends) after
      stored_more = record {
        state = ap (fed s) joined ∙ fed_append s (take i piece) part ∙ ap (λ (t : Cutter). fed t part) st.state ∙ walks.state;
        many = sym (ap length more ∙ length-append (found i) new ∙ omega (arith, st.many, walks.many));
        list =
            set_after
            ∙ then_sets (eight_bytes (found i)) (eight_bytes new) ends₀ ends 0 (8 * n) before_set (omega (arith, length_eights (found i), st.many))
            ∙ sym (over_sets (eight_bytes (found i) ++ eight_bytes new) ends₀
            (omega (arith, length-append (eight_bytes (found i)) (eight_bytes new), length_eights (found i), st.many, st.long, size)))
            ∙ ap (λ (z : List ℕ). over z ends₀) (sym (eights_append (found i) new) ∙ ap eight_bytes (sym more));
        long = ap length set_after ∙ length-sets ends (8 * n) (eight_bytes new) ∙ st.long;
      }

  -- ---- a turn of the loop, from byte i on
  pub record Turn (i n : ℕ) (at : Place) (ends numbers : List ℕ) (w : Walked) (numbers' : List ℕ) : Type 0 where
    pub within : i + took w.check w.read (length piece - i) ≤ length piece
    pub some : 1 ≤ length numbers → i < length piece → w.check ≡ Ok tt
        → (w.check ≡ Ok tt → w.read < length (take (length piece - i) (drop i piece)) → length numbers ≤ w.ends) → 1 ≤ w.read
    pub room : 8 * n + 8 * w.ends ≤ length ends
    pub fit : w.ends ≤ length numbers'
    pub stored : (q : List ℕ) → q ≡ over (eight_bytes (take w.ends numbers')) (mid_of (8 * n) (length ends - 8 * n) ends)
        → Stored (i + took w.check w.read (length piece - i)) (walked_to w.check schema w.place) (n + w.ends) (put_mid (8 * n) (length ends - 8 * n) ends q)

  pub turn : {i n : ℕ} {ends : List ℕ} (at : Place) (numbers : List ℕ) (w : Walked) (numbers' : List ℕ) → i ≤ length piece → length piece ≤ length ends₀ / 8
      → Stored i (state_at schema at) n ends → WalkedOn w.check schema at (take (length piece - i) (drop i piece)) numbers w numbers'
      → Turn i n at ends numbers w numbers'
  turn {i} {n} {ends} at numbers w numbers' short room st on =
      let walks = taken_walks i at numbers w numbers' on in
      let k = took w.check w.read (length piece - i) in
      let within : i + k ≤ length piece = omega (arith, taken_within i at numbers w numbers' on) in
      record {
        within = within;
        some = taken_some i at numbers w numbers' on;
        room = part_room i k n at ends numbers numbers' w within room st walks;
        fit = numbers_fit i k n at ends numbers numbers' w within room st walks;
        stored = λ q put. stored_more i k n at ends numbers numbers' w within room st walks q put;
      }

  -- all bytes
  pub walks_whole : (to n : ℕ) (ends : List ℕ) (at : Place) → Stored to (state_at schema at) n ends → length piece ≤ to
      → WalksLent schema p piece ends₀ (record { check = Ok tt; place = at; ends = n; read = to }) ends
  walks_whole to n ends at st h =
      let e = take_all to piece h in
      record {
        state = ap (fed s) (sym e) ∙ st.state;
        many = st.many ∙ ap (λ (z : List ℕ). length (ends_in s z)) e;
        list = st.list ∙ ap (λ (z : List ℕ). over (eight_bytes (ends_in s z)) ends₀) e;
      }

  -- a refusal: the bytes after it change nothing
  pub walks_refused : (to n read : ℕ) (ends : List ℕ) (at : Place) (r : Refusal) (t : Cutter) → Stored to t n ends → t ≡ refused r
      → WalksLent schema p piece ends₀ (record { check = Err r; place = at; ends = n; read = read }) ends
  walks_refused to n read ends at r t st e =
      let split = sym (take-append-drop to piece) in
      let after = st.state ∙ e in
      let same_ends : ends_in s piece ≡ found to =
      ap (ends_in s) split
      ∙ ends_append s (take to piece) (drop to piece)
      ∙ ap (λ (x : Cutter). found to ++ ends_in x (drop to piece)) after
      ∙ ap (λ (z : List ℕ). found to ++ z) (ends_refused (refused r) r refl (drop to piece))
      ∙ append-nil (found to) in
      record {
        state =
            ap (fed s) split
            ∙ fed_append s (take to piece) (drop to piece)
            ∙ ap (λ (x : Cutter). fed x (drop to piece)) after
            ∙ fed_refused (refused r) r refl (drop to piece);
        many = st.many ∙ ap length (sym same_ends);
        list = st.list ∙ ap (λ (z : List ℕ). over (eight_bytes z) ends₀) (sym same_ends);
      }
