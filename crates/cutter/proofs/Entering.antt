-- What a start, a call and the finish promise, from what the walk and the rule say. Assumes nothing.
use Prim.Native.Nat.{ℕ, ◌<◌, ◌≤◌}
use mathlib.Core.Path.{◌≡◌, refl, sym, ap, subst, ◌∙◌}
use mathlib.Core.Bool.{Bool, true, false, not}
use mathlib.Core.List.{List}
use native.Mathlib.Omega.{arith}
use lib.Dec.{ltb}
use lib.ListN.{length}
use borrow.Author.Tests.{lt-ltb, le-ltb}
use Rattle.format.specs.declared.Schema.{Schema}
use Rattle.format.specs.declared.RowFault.TheVariants.{Cut}
use Rattle.format.specs.declared.Refusal.{Refusal}
use Rattle.format.specs.declared.Refusal.TheVariants.{OffsetRoom, Row, BrokenState}
use Rattle.format.specs.Check.{Check, both, fail_if}
use Rattle.std.specs.declared.result.Result.TheVariants.{Ok, Err}
use Rattle.format.specs.Numbers.{Answer, numbers_of}
use Rattle.format.specs.declared.Spot.TheVariants.{Start}
use Rattle.format.specs.declared.Cutter.{Cutter}
use Rattle.format.specs.Lists.{over}
use Rattle.format.specs.Described.{ColumnList, list_fault, columns}
use Rattle.format.specs.Entries.{answer, written}
use Rattle.format.specs.CutterRule.{keeps}
use Rattle.format.specs.Cutter.{begun, refused, unless, fed, ends_in, started_with, start_answer, start_state, cut_fault, cut_answer, cut_state, cut_ends, finish_fault, finish_answer}
use Rattle.format.specs.Promises.{Started, PieceCut, Finished}
use Rattle.list_reader.specs.Listing.{Listed, ListedAs}
use Rattle.list_reader.proofs.Schemas.{list_refused, list_passed}
use Rattle.cutter_step.specs.declared.Place.{Place}
use Rattle.cutter.specs.declared.Left.{Left}
use Rattle.cutter.specs.declared.Left.TheVariants.{Moved, Stopped}
use Rattle.cutter.specs.declared.Counted.{Counted}
use Rattle.cutter_walk.specs.declared.Walked.{Walked}
use Rattle.cutter_step.specs.Places.{state_at, place_of}
use Rattle.cutter_walk.specs.Walks.{walked_to, Walks}
use Rattle.cutter.specs.Calls.{kept_back, leaves, unless_refused, CutIn}

-- ---- start

module _ (list : ColumnList) (l : Listed) (is : ListedAs list l) (s : Cutter) where
  pub start_refused : (r : Refusal) → l ≡ Err r → s ≡ refused r → Started list (Err r) s
  unfolding start_answer start_state
  start_refused r e q =
      let f = list_refused list l r is e in
      record {
        answers = sym (ap (λ (c : Check). numbers_of (answer c (length (columns list)) 0)) f);
        state = q ∙ sym (ap (λ (c : Check). started_with c (columns list)) f);
      }

  pub start_begun : (read : Schema) → l ≡ Ok read → s ≡ state_at read (record { rows = 0; bytes = 0; row = 0; column = 0; spot = Start })
      → Started list (Ok (read.count, 0)) s
  unfolding start_answer start_state
  start_begun read e q =
      let p = list_passed list l read is e in
      let f = p.0 in
      let is-schema = p.1 in
      record {
        answers = ap (λ (schema : Schema). numbers_of (Ok (schema.count, 0))) is-schema ∙ sym (ap (λ (c : Check). numbers_of (answer c (length (columns list)) 0)) f);
        state =
            q
            ∙ ap (λ (schema : Schema). state_at schema (record { rows = 0; bytes = 0; row = 0; column = 0; spot = Start })) is-schema
            ∙ sym (ap (λ (c : Check). started_with c (columns list)) f);
      }

-- ---- a call

-- before the piece is read
broken_fault : (s : Cutter) (size room : ℕ) → keeps s ≡ false → cut_fault s size room ≡ Err BrokenState
broken_fault s size room e = ap (λ (t : Bool). fail_if (not t) BrokenState (both s.refusal (fail_if (ltb room size) (OffsetRoom size) (Ok tt)))) e

module _ (s : Cutter) (size room : ℕ) (k : keeps s ≡ true) where
  kept_fault : cut_fault s size room ≡ both s.refusal (fail_if (ltb room size) (OffsetRoom size) (Ok tt))
  kept_fault = ap (λ (t : Bool). fail_if (not t) BrokenState (both s.refusal (fail_if (ltb room size) (OffsetRoom size) (Ok tt)))) k

  standing_fault : (r : Refusal) → s.refusal ≡ Err r → cut_fault s size room ≡ Err r
  standing_fault r e = kept_fault ∙ ap (λ (c : Check). both c (fail_if (ltb room size) (OffsetRoom size) (Ok tt))) e

  module _ (e : s.refusal ≡ Ok tt) where
    open_fault : cut_fault s size room ≡ fail_if (ltb room size) (OffsetRoom size) (Ok tt)
    open_fault = kept_fault ∙ ap (λ (c : Check). both c (fail_if (ltb room size) (OffsetRoom size) (Ok tt))) e

    short_fault : room < size → cut_fault s size room ≡ Err (OffsetRoom size)
    short_fault l = open_fault ∙ ap (λ (t : Bool). fail_if t (OffsetRoom size) (Ok tt)) (lt-ltb room size l)

    no_fault : size ≤ room → cut_fault s size room ≡ Ok tt
    no_fault l = open_fault ∙ ap (λ (t : Bool). fail_if t (OffsetRoom size) (Ok tt)) (le-ltb room size l)

module _ (s : Cutter) (piece ends : List ℕ) where
  -- refused before it is read: state and list stay
  stays : (r : Refusal) (c : Counted) → cut_fault s (length piece) (length ends) ≡ Err r → c ≡ kept_back r → CutIn s piece ends c ends
  unfolding cut_answer cut_state cut_ends
  stays r c e q = rw q (record {
    cut = record {
      answers = sym (ap (λ (x : Check). numbers_of (answer (both x (fed s piece).refusal) (length (ends_in s piece)) 0)) e);
      state = sym (ap (λ (x : Check). unless x s (fed s piece)) e);
      row_ends = sym (ap (λ (x : Check). written x (ends_in s piece) ends) e);
    };
    many = sym (ap (λ (x : Check). length (unless_refused x (ends_in s piece))) e);
    list = sym (ap (λ (x : Check). over (unless_refused x (ends_in s piece)) ends) e);
  })

  pub cut_broken : (c : Counted) → keeps s ≡ false → c ≡ kept_back BrokenState → CutIn s piece ends c ends
  cut_broken c e q = stays BrokenState c (broken_fault s (length piece) (length ends) e) q

  module _ (k : keeps s ≡ true) where
    pub cut_stands : (r : Refusal) (c : Counted) → s.refusal ≡ Err r → c ≡ kept_back r → CutIn s piece ends c ends
    cut_stands r c e q = stays r c (standing_fault s (length piece) (length ends) k r e) q

    module _ (e : s.refusal ≡ Ok tt) where
      -- the state is its columns and its numbers
      pub cut_state_lem : state_at s.schema (place_of s) ≡ s
      cut_state_lem = ap
          (λ (c : Check). record { schema = s.schema; refusal = c; rows = s.rows; bytes = s.bytes; row = s.row; column = s.column; spot = s.spot })
          (sym e)

      pub cut_kept : keeps (state_at s.schema (place_of s)) ≡ true
      cut_kept = ap keeps cut_state_lem ∙ k

      pub cut_short : (c : Counted) → length ends < length piece → c ≡ kept_back (OffsetRoom (length piece)) → CutIn s piece ends c ends
      cut_short c l q = stays (OffsetRoom (length piece)) c (short_fault s (length piece) (length ends) k e l) q

      module _ (enough : length piece ≤ length ends) (p₀ : Place) (at : p₀ ≡ place_of s) (w : Walked) (ends' : List ℕ)
          (walks : Walks s.schema p₀ piece ends w ends') where
        is : Walks s.schema (place_of s) piece ends w ends'
        is = subst (λ (p : Place). Walks s.schema p piece ends w ends') at walks

        fault : cut_fault s (length piece) (length ends) ≡ Ok tt
        fault = no_fault s (length piece) (length ends) k e enough

        after : fed s piece ≡ walked_to w.check s.schema w.place
        after = ap (λ (t : Cutter). fed t piece) (sym cut_state_lem) ∙ is.state

        found : ends_in (state_at s.schema (place_of s)) piece ≡ ends_in s piece
        found = ap (λ (t : Cutter). ends_in t piece) cut_state_lem

        walked : (c : Check) (a : Answer) (left : Left) → w.check ≡ c → leaves s left ≡ walked_to c s.schema w.place
            → a ≡ answer (walked_to c s.schema w.place).refusal w.ends 0 → CutIn s piece ends (record { answer = a; left = left; ends = w.ends }) ends'
        unfolding cut_answer cut_state cut_ends
        walked c a left q p t =
            let state : fed s piece ≡ walked_to c s.schema w.place = after ∙ ap (λ (x : Check). walked_to x s.schema w.place) q in
            let many : w.ends ≡ length (ends_in s piece) = is.many ∙ ap length found in
            let listed : ends' ≡ over (ends_in s piece) ends = is.list ∙ ap (λ (f : List ℕ). over f ends) found in
            record {
              cut = record {
                answers =
                    ap numbers_of t
                    ∙ ap (λ (n : ℕ). numbers_of (answer (walked_to c s.schema w.place).refusal n 0)) many
                    ∙ ap (λ (x : Cutter). numbers_of (answer x.refusal (length (ends_in s piece)) 0)) (sym state)
                    ∙ ap (λ (x : Check). numbers_of (answer (both x (fed s piece).refusal) (length (ends_in s piece)) 0)) (sym fault);
                state = p ∙ sym state ∙ ap (λ (x : Check). unless x s (fed s piece)) (sym fault);
                row_ends = listed ∙ ap (λ (x : Check). written x (ends_in s piece) ends) (sym fault);
              };
              many = many ∙ ap (λ (x : Check). length (unless_refused x (ends_in s piece))) (sym fault);
              list = listed ∙ ap (λ (x : Check). over (unless_refused x (ends_in s piece)) ends) (sym fault);
            }

        pub cut_refused : (r : Refusal) → w.check ≡ Err r → CutIn s piece ends (record { answer = Err r; left = Stopped r; ends = w.ends }) ends'
        cut_refused r q = walked (Err r) (Err r) (Stopped r) q refl refl

        pub cut_done : w.check ≡ Ok tt → CutIn s piece ends (record { answer = Ok (w.ends, 0); left = Moved w.place; ends = w.ends }) ends'
        cut_done q = walked (Ok tt) (Ok (w.ends, 0)) (Moved w.place) q refl refl

-- what was counted, with the state after it
pub cut_left : {s : Cutter} {piece ends : List ℕ} {r : Counted} {ends' : List ℕ} (last : Cutter) → CutIn s piece ends r ends' → last ≡ leaves s r.left
    → PieceCut s piece ends r.answer last ends'
cut_left last is e = record { answers = is.cut.answers; state = e ∙ is.cut.state; row_ends = is.cut.row_ends }

-- ---- the finish

module _ (s : Cutter) where
  finishes : (c : Check) (a : Answer) → fail_if (not (keeps s)) BrokenState (finish_fault s) ≡ c → a ≡ answer c s.rows 0 → Finished s a
  unfolding finish_answer
  finishes c a e p = record { answers = ap numbers_of p ∙ sym (ap (λ (x : Check). numbers_of (answer x s.rows 0)) e) }

  pub finish_broken : keeps s ≡ false → Finished s (Err BrokenState)
  finish_broken e = finishes (Err BrokenState) (Err BrokenState) (ap (λ (t : Bool). fail_if (not t) BrokenState (finish_fault s)) e) refl

  module _ (k : keeps s ≡ true) where
    kept_finish : fail_if (not (keeps s)) BrokenState (finish_fault s) ≡ finish_fault s
    kept_finish = ap (λ (t : Bool). fail_if (not t) BrokenState (finish_fault s)) k

    pub finish_stands : (r : Refusal) → s.refusal ≡ Err r → Finished s (Err r)
    finish_stands r e =
        finishes (Err r) (Err r) (kept_finish ∙ ap (λ (c : Check). both c (fail_if (ltb 0 s.row) (Row Cut s.rows s.column s.row) (Ok tt))) e) refl

    module _ (e : s.refusal ≡ Ok tt) where
      at_end : finish_fault s ≡ fail_if (ltb 0 s.row) (Row Cut s.rows s.column s.row) (Ok tt)
      at_end = ap (λ (c : Check). both c (fail_if (ltb 0 s.row) (Row Cut s.rows s.column s.row) (Ok tt))) e

      pub finish_within : 0 < s.row → Finished s (Err (Row Cut s.rows s.column s.row))
      finish_within l =
          finishes (Err (Row Cut s.rows s.column s.row)) (Err (Row Cut s.rows s.column s.row))
          (kept_finish ∙ at_end ∙ ap (λ (t : Bool). fail_if t (Row Cut s.rows s.column s.row) (Ok tt)) (lt-ltb 0 s.row l)) refl

      pub finish_done : s.row ≤ 0 → Finished s (Ok (s.rows, 0))
      finish_done l =
          finishes (Ok tt) (Ok (s.rows, 0))
          (kept_finish ∙ at_end ∙ ap (λ (t : Bool). fail_if t (Row Cut s.rows s.column s.row) (Ok tt)) (le-ltb 0 s.row l)) refl
