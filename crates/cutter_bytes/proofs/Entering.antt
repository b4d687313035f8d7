-- What a start, a call and the finish promise on lent bytes, from what their parts say. Assumes nothing.
use Prim.Native.Nat.{ℕ, ◌/◌, ◌<◌, ◌≤◌}
use mathlib.Core.Path.{◌≡◌, refl, sym, ap, ap₂, subst, ◌∙◌}
use mathlib.Core.Bool.{Bool, true, false, cond, not, ◌&&◌}
use mathlib.Core.List.{List, [], ◌++◌, append_assoc}
use native.Mathlib.Omega.{arith}
use lib.Dec.{ltb, leb}
use lib.ListN.{length, take, drop, length-append, take-append-drop}
use lib.Seq.{drop_at, length-take-le}
use borrow.Author.Tests.{lt-ltb, le-ltb, le-leb, lt-leb}
use Rattle.format.specs.declared.Schema.{Schema}
use Rattle.format.specs.declared.Refusal.{Refusal}
use Rattle.format.specs.declared.Refusal.TheVariants.{OffsetRoom, BrokenState}
use Rattle.format.specs.Check.{Check, both, fail_if}
use Rattle.std.specs.declared.result.Result.TheVariants.{Ok, Err}
use Rattle.format.specs.Numbers.{Answer, numbers_of}
use Rattle.format.specs.declared.Cutter.{Cutter}
use Rattle.format.specs.Limits.{max_columns}
use Rattle.format.specs.Lists.{Bytes, over}
use Rattle.format.specs.Described.{ColumnList}
use Rattle.format.specs.Entries.{answer}
use Rattle.format.specs.Lent.{eights, eight_bytes}
use Rattle.format.specs.CutterRule.{keeps}
use Rattle.format.specs.Cutter.{begun, refused, fed, ends_in, start_answer, start_state, cut_fault, cut_answer, cut_state, cut_ends, finish_fault, finish_answer}
use Rattle.format.specs.CutterBytes.{numbers_size, state_bytes, state_size, state_of, same, lent_keeps, lent_state}
use Rattle.format.specs.Promises.{Started, Finished}
use Rattle.basics.proofs.Lists.{length_each}
use Rattle.lent_bytes.specs.Offsets.{eight_at}
use Rattle.lent_bytes.proofs.NumberBytes.{stored_back}
use Rattle.cutter_laws.proofs.Calls.{cut_refused, cut_passed}
use Rattle.cutter_laws.proofs.LentStates.{read_listed}
use Rattle.cutter_laws.proofs.Piece.{ends_few}
use Rattle.cutter_laws.proofs.RuleMoves.{true_and}
use Rattle.cutter_laws.proofs.Streams.{start_listed}
use Rattle.cutter_step.specs.declared.Place.{Place}
use Rattle.cutter_walk.specs.declared.Walked.{Walked}
use Rattle.cutter_step.specs.Places.{state_at, place_of}
use Rattle.cutter_walk.specs.Walks.{walked_to}
use Rattle.state_bytes.specs.Written.{state_with, place_numbers, column_bytes}
use Rattle.cutter_bytes.specs.Calls.{WalksLent, StartedLent, PieceCutLent, FinishedLent}
use Rattle.state_bytes.proofs.Writing.{length_numbers, state_parts}
use Rattle.state_bytes.proofs.Reading.{same_eq}

-- ---- a start

pub start_short : (list : ColumnList) (state : List ℕ) → length state < state_size → StartedLent list state (Err BrokenState) state
start_short list state h = let e = lt-ltb (length state) state_size h in record { answers = rw e; states = rw e }

pub start_few : (list : ColumnList) (s : Cutter) → s ≡ start_state list → s.schema.count ≤ max_columns
start_few list s e = let l = start_listed list in omega (arith, ap (λ (t : Cutter). t.schema.count) e, ap (λ (x : Schema). x.count) l.schema, l.few)

pub start_long : (list : ColumnList) (state : List ℕ) (r : Answer) (s : Cutter) (p : Place) (state' : List ℕ) → state_size ≤ length state → Started list r s
    → p ≡ place_of s → state' ≡ over (state_bytes (state_with s.refusal p s.schema)) state → StartedLent list state r state'
start_long list state r s p state' h started at put =
    let e = le-ltb (length state) state_size h in
    record {
      answers = started.answers ∙ sym (ap (λ (t : Bool). numbers_of (cond t (Err BrokenState) (start_answer list))) e);
      states =
          put
          ∙ ap (λ (q : Place). over (state_bytes (state_with s.refusal q s.schema)) state) at
          ∙ ap (λ (t : Cutter). over (state_bytes t) state) started.state
          ∙ sym (ap (λ (t : Bool). cond t state (over (state_bytes (start_state list)) state)) e);
    }

-- ---- a state in which no refusal stands, by its columns and its numbers
pub open_keeps : (t : Cutter) (p : Place) → p ≡ place_of t → t.refusal ≡ Ok tt → keeps t ≡ true → keeps (state_at t.schema p) ≡ true
open_keeps t p at e k =
    ap (λ (q : Place). keeps (state_at t.schema q)) at ∙ ap (λ (c : Check). keeps (state_with c (place_of t) t.schema)) (sym e) ∙ k

-- ---- lent bytes that break the rule

and_false : (a b : Bool) → b ≡ false → (a && b) ≡ false
and_false true b e = e
and_false false b e = refl

false_and : (a b : Bool) → a ≡ false → (a && b) ≡ false
false_and a b e = ap (λ (t : Bool). t && b) e

none_kept : keeps (begun []) ≡ false
unfolding keeps
none_kept = refl

module _ (state : List ℕ) where
  abbrev x : List ℕ
  x = take state_size state

  abbrev s : Cutter
  s = state_of x

  pub short_broken : length state < state_size → lent_keeps state ≡ false
  unfolding lent_keeps
  short_broken h =
      false_and (leb state_size (length state) && same (state_bytes s) x) (keeps s)
      (false_and (leb state_size (length state)) (same (state_bytes s) x) (lt-leb state_size (length state) h))

  pub other_broken : same (state_bytes s) x ≡ false → lent_keeps state ≡ false
  unfolding lent_keeps
  other_broken h =
      false_and (leb state_size (length state) && same (state_bytes s) x) (keeps s) (and_false (leb state_size (length state)) (same (state_bytes s) x) h)

  pub unkept_broken : keeps s ≡ false → lent_keeps state ≡ false
  unfolding lent_keeps
  unkept_broken h = and_false (leb state_size (length state) && same (state_bytes s) x) (keeps s) h

  pub all_kept : state_size ≤ length state → same (state_bytes s) x ≡ true → keeps s ≡ true → lent_keeps state ≡ true
  unfolding lent_keeps
  all_kept room h k = true_and (true_and (le-leb state_size (length state) room) h) k

  broken_is : lent_keeps state ≡ false → lent_state state ≡ begun []
  unfolding lent_state
  broken_is h = ap (λ (t : Bool). cond t s (begun [])) h

  kept_is : lent_keeps state ≡ true → lent_state state ≡ s
  unfolding lent_state
  kept_is h = ap (λ (t : Bool). cond t s (begun [])) h

  -- ---- what is read of it, by the state t that is read
  module _ (t : Cutter) (is : t ≡ s) where
    pub read_few : t.schema.count ≤ max_columns
    read_few =
        let l = read_listed state in
        omega (arith, ap (λ (u : Cutter). u.schema.count) is, ap (λ (y : Schema). y.count) l.schema, l.few)

    pub read_keeps : (b : Bool) → b ≡ keeps t → keeps s ≡ b
    read_keeps b e = ap keeps (sym is) ∙ sym e

    pub read_written : (p : Place) (b : Bool) → p ≡ place_of t → b ≡ same (state_bytes (state_with t.refusal p t.schema)) x → same (state_bytes s) x ≡ b
    read_written p b at e =
        sym (e ∙ ap (λ (q : Place). same (state_bytes (state_with t.refusal q t.schema)) x) at ∙ ap (λ (u : Cutter). same (state_bytes u) x) is)

    pub read_refusal : (c : Check) → t.refusal ≡ c → s.refusal ≡ c
    read_refusal c e = ap (λ (u : Cutter). u.refusal) (sym is) ∙ e

  -- they keep the rule, and are written as they stand
  pub record LentKept : Type 0 where
    pub long : state_size ≤ length state
    pub canon : same (state_bytes s) x ≡ true
    pub keeps : keeps s ≡ true

  pub kept_of : (t : Cutter) → t ≡ s → (p : Place) → p ≡ place_of t → {b k : Bool} → state_size ≤ length state
      → b ≡ same (state_bytes (state_with t.refusal p t.schema)) x → b ≡ true → k ≡ keeps t → k ≡ true → LentKept
  kept_of t is p at long e f g h = record { long = long; canon = read_written t is p _ at e ∙ f; keeps = read_keeps t is _ g ∙ h }

  -- ---- a call that is refused before a byte is read: nothing changes
  module _ (piece ends : List ℕ) (b : Bytes ends) where
    abbrev room : ℕ
    room = length ends / 8

    numbers_room : length (eights ends) ≡ room
    numbers_room = length_each 0 room (eight_at ends)

    stays : (t : Cutter) (r : Refusal) → lent_state state ≡ t → cut_fault t (length piece) room ≡ Err r
        → state ≡ cond (lent_keeps state) (over (state_bytes t) state) state → PieceCutLent state piece ends (Err r) state ends
    stays t r is e same-state =
        let c = cut_refused t piece (eights ends) r (ap (cut_fault t (length piece)) numbers_room ∙ e) in
        record {
          answers =
              sym (ap₂ (λ (u : Cutter) (k : ℕ). numbers_of (cut_answer u piece k)) is (sym numbers_room) ∙ ap numbers_of c.0);
          states =
              same-state
              ∙ ap (λ (u : Cutter). cond (lent_keeps state) (over (state_bytes u) state) state)
              (sym (ap₂ (λ (u : Cutter) (k : ℕ). cut_state u piece k) is (sym numbers_room) ∙ c.1));
          row_ends =
              sym (stored_back ends b [] room (omega arith) (omega arith))
              ∙ ap (λ (z : List ℕ). over (eight_bytes z) ends) (sym (ap (λ (u : Cutter). cut_ends u piece (eights ends)) is ∙ c.2));
        }

    pub cut_broken : lent_keeps state ≡ false → PieceCutLent state piece ends (Err BrokenState) state ends
    cut_broken h =
        stays (begun []) BrokenState (broken_is h)
        (ap (λ (t : Bool). fail_if (not t) BrokenState (fail_if (ltb room (length piece)) (OffsetRoom (length piece)) (Ok tt))) none_kept)
        (sym (ap (λ (t : Bool). cond t (over (state_bytes (begun [])) state) state) h))

    -- ---- bytes that keep the rule
    module _ (q : LentKept) where
      kept : lent_keeps state ≡ true
      kept = all_kept q.long q.canon q.keeps

      is_x : state_bytes s ≡ x
      is_x = same_eq (state_bytes s) x q.canon

      size_x : length (state_bytes s) ≡ state_size
      size_x = ap length is_x ∙ length-take-le state_size state q.long

      -- written as it stands
      again : state ≡ cond (lent_keeps state) (over (state_bytes s) state) state
      again =
          sym (take-append-drop state_size state)
          ∙ ap₂ {C = List ℕ} (λ y n. y ++ drop n state) (sym is_x) (sym size_x)
          ∙ sym (ap (λ (t : Bool). cond t (over (state_bytes s) state) state) kept)

      fault : cut_fault s (length piece) room ≡ both s.refusal (fail_if (ltb room (length piece)) (OffsetRoom (length piece)) (Ok tt))
      fault = ap (λ (t : Bool). fail_if (not t) BrokenState (both s.refusal (fail_if (ltb room (length piece)) (OffsetRoom (length piece)) (Ok tt)))) q.keeps

      pub cut_stands : (r : Refusal) → s.refusal ≡ Err r → PieceCutLent state piece ends (Err r) state ends
      cut_stands r e =
          stays s r (kept_is kept) (fault ∙ ap (λ (c : Check). both c (fail_if (ltb room (length piece)) (OffsetRoom (length piece)) (Ok tt))) e) again

      module _ (e : s.refusal ≡ Ok tt) where
        open_fault : cut_fault s (length piece) room ≡ fail_if (ltb room (length piece)) (OffsetRoom (length piece)) (Ok tt)
        open_fault = fault ∙ ap (λ (c : Check). both c (fail_if (ltb room (length piece)) (OffsetRoom (length piece)) (Ok tt))) e

        pub cut_short : room < length piece → PieceCutLent state piece ends (Err (OffsetRoom (length piece))) state ends
        cut_short l =
            stays s (OffsetRoom (length piece)) (kept_is kept)
            (open_fault ∙ ap (λ (t : Bool). fail_if t (OffsetRoom (length piece)) (Ok tt)) (lt-ltb room (length piece) l)) again

        -- the state is its columns and its numbers
        state_is : state_at s.schema (place_of s) ≡ s
        state_is = ap (λ (c : Check). state_with c (place_of s) s.schema) (sym e)

        module _ (enough : length piece ≤ room) (t : Cutter) (is : t ≡ s) (p : Place) (at : p ≡ place_of t) (w : Walked) (ends' state' : List ℕ)
            (walked : WalksLent t.schema p piece ends w ends') where
          walks : WalksLent s.schema p piece ends w ends'
          walks = subst (λ (u : Cutter). WalksLent u.schema p piece ends w ends') is walked

          begins : state_at s.schema p ≡ s
          begins = ap (state_at s.schema) (at ∙ ap place_of is) ∙ state_is

          abbrev found : List ℕ
          found = ends_in s piece

          same_found : ends_in (state_at s.schema p) piece ≡ found
          same_found = ap (λ (t : Cutter). ends_in t piece) begins

          -- what the walk leaves, by what stopped it
          left : (c : Check) → w.check ≡ c → state' ≡ over (state_bytes (walked_to c s.schema w.place)) state
              → PieceCutLent state piece ends (answer (walked_to c s.schema w.place).refusal w.ends 0) state' ends'
          left c q put =
              let next = walked_to c s.schema w.place in
              let after : fed s piece ≡ next =
              ap (λ (u : Cutter). fed u piece) (sym begins) ∙ walks.state ∙ ap (λ (d : Check). walked_to d s.schema w.place) q in
              let passes : cut_fault s (length piece) (length (eights ends)) ≡ Ok tt =
              ap (cut_fault s (length piece)) numbers_room
              ∙ open_fault
              ∙ ap (λ (u : Bool). fail_if u (OffsetRoom (length piece)) (Ok tt)) (le-ltb room (length piece) enough) in
              let cut = cut_passed s piece (eights ends) next found passes after refl in
              let lent : lent_state state ≡ s = kept_is kept in
              record {
                answers =
                    ap (λ (n : ℕ). numbers_of (answer next.refusal n 0)) (walks.many ∙ ap length same_found)
                    ∙ ap numbers_of (sym cut.0)
                    ∙ ap₂ (λ (u : Cutter) (n : ℕ). numbers_of (cut_answer u piece n)) (sym lent) numbers_room;
                states =
                    put
                    ∙ ap (λ (u : Cutter). over (state_bytes u) state) (sym cut.1 ∙ ap₂ (λ (u : Cutter) (n : ℕ). cut_state u piece n) (sym lent) numbers_room)
                    ∙ sym (ap (λ (u : Bool). cond u (over (state_bytes (cut_state (lent_state state) piece room)) state) state) kept);
                row_ends =
                    walks.list
                    ∙ ap (λ (z : List ℕ). over (eight_bytes z) ends) same_found
                    ∙ sym (stored_back ends b found room (omega (arith, ends_few s piece, enough)) (omega arith))
                    ∙ ap (λ (z : List ℕ). over (eight_bytes z) ends) (sym cut.2 ∙ ap (λ (u : Cutter). cut_ends u piece (eights ends)) (sym lent));
              }

          pub cut_refuses : (r : Refusal) → w.check ≡ Err r → state' ≡ over (state_bytes (refused r)) state
              → PieceCutLent state piece ends (Err r) state' ends'
          cut_refuses r q put = left (Err r) q put

          -- the columns stay where they are
          pub cut_done : w.check ≡ Ok tt → state' ≡ over (eight_bytes (place_numbers (Ok tt) w.place t.schema.count)) state
              → PieceCutLent state piece ends (Ok (w.ends, 0)) state' ends'
          cut_done q put =
              left (Ok tt) q (put ∙ ap (λ (u : Cutter). over (eight_bytes (place_numbers (Ok tt) w.place u.schema.count)) state) is ∙ sym columns_stay)
            where
              old : List ℕ
              old = eight_bytes (place_numbers s.refusal (place_of s) s.schema.count)

              new : List ℕ
              new = eight_bytes (place_numbers (Ok tt) w.place s.schema.count)

              old_parts : state_bytes s ≡ old ++ column_bytes s.schema
              old_parts = state_parts s.refusal (place_of s) s.schema

              new_parts : state_bytes (state_at s.schema w.place) ≡ new ++ column_bytes s.schema
              new_parts = state_parts (Ok tt) w.place s.schema

              old_size : length old ≡ numbers_size
              old_size = length_numbers s.refusal (place_of s) s.schema.count

              new_size : length new ≡ numbers_size
              new_size = length_numbers (Ok tt) w.place s.schema.count

              whole_size : length (new ++ column_bytes s.schema) ≡ state_size
              whole_size =
                  length-append new (column_bytes s.schema)
                  ∙ omega (arith, new_size, old_size, size_x, ap length old_parts, length-append old (column_bytes s.schema))

              after_numbers : drop numbers_size state ≡ column_bytes s.schema ++ drop state_size state
              after_numbers =
                  ap (drop numbers_size)
                  (sym (take-append-drop state_size state)
                  ∙ ap (λ (z : List ℕ). z ++ drop state_size state) (sym is_x ∙ old_parts)
                  ∙ append_assoc old (column_bytes s.schema) (drop state_size state))
                  ∙ drop_at old (column_bytes s.schema ++ drop state_size state) numbers_size old_size

              columns_stay : over (state_bytes (state_at s.schema w.place)) state ≡ over new state
              columns_stay =
                  ap (λ (z : List ℕ). over z state) new_parts
                  ∙ ap (λ (n : ℕ). (new ++ column_bytes s.schema) ++ drop n state) whole_size
                  ∙ append_assoc new (column_bytes s.schema) (drop state_size state)
                  ∙ ap (λ (z : List ℕ). new ++ z) (sym after_numbers ∙ ap (λ (n : ℕ). drop n state) (sym new_size))

  -- ---- the finish

  broken_finish : (t : Cutter) → keeps t ≡ false → finish_answer t ≡ Err BrokenState
  unfolding finish_answer
  broken_finish t e = ap (λ (u : Bool). answer (fail_if (not u) BrokenState (finish_fault t)) t.rows 0) e

  pub finish_broken : lent_keeps state ≡ false → FinishedLent state (Err BrokenState)
  finish_broken h = record { answers = sym (ap (λ (t : Cutter). numbers_of (finish_answer t)) (broken_is h) ∙ ap numbers_of (broken_finish (begun []) none_kept)) }

  pub finish_read : state_size ≤ length state → same (state_bytes s) x ≡ true → (r : Answer) → Finished s r → FinishedLent state r
  finish_read room h r f = record { answers = f.answers ∙ go (keeps s) refl }
    where
      go : (t : Bool) → keeps s ≡ t → numbers_of (finish_answer s) ≡ numbers_of (finish_answer (lent_state state))
      go true k = ap (λ (t : Cutter). numbers_of (finish_answer t)) (sym (kept_is (all_kept room h k)))
      go false k = ap numbers_of (broken_finish s k) ∙ (finish_broken (unkept_broken k)).answers
