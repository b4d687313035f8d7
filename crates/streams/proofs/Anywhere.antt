-- A piece cut anywhere in two: its bytes are one stream. Assumes nothing.
use Prim.Native.Nat.{ℕ, ◌+◌, ◌-◌, ◌≤◌}
use mathlib.Core.Path.{◌≡◌, refl, sym, ap, subst, ◌∙◌}
use mathlib.Core.Bool.{Bool, true, false}
use mathlib.Core.List.{List, [], ◌++◌}
use native.Mathlib.Omega.{arith}
use lib.ListN.{length, take, drop, length-append, length-drop, length-take, take-append-drop}
use lib.Seq.{take_all}
use borrow.Author.Tests.{le-ltb}
use Rattle.format.specs.declared.Refusal.{Refusal}
use Rattle.format.specs.declared.Refusal.TheVariants.{BrokenState}
use Rattle.format.specs.Check.{Check, both}
use Rattle.std.specs.declared.result.Result.TheVariants.{Ok, Err}
use Rattle.format.specs.Numbers.{Answer}
use Rattle.format.specs.declared.Cutter.{Cutter}
use Rattle.format.specs.Lists.{Bytes, over}
use Rattle.format.specs.Entries.{answer}
use Rattle.format.specs.CutterRule.{keeps}
use Rattle.format.specs.Cutter.{fed, ends_in, cut_fault, cut_answer, cut_state, cut_ends}
use Rattle.format.specs.Promises.{PieceCut}
use Rattle.basics.proofs.Bytes.{bytes_take}
use Rattle.cutter_laws.specs.Calls.{Whole}
use Rattle.cutter_laws.proofs.Cutting.{fed_append, ends_append, fed_refused}
use Rattle.cutter_laws.proofs.RuleKept.{fed_keeps}
use Rattle.cutter_laws.proofs.Calls.{call_fed, call_ends, cut_refused}
use Rattle.cutter_laws.proofs.Unique.{cut_unique}
use Rattle.streams.specs.declared.TwoWays.{TwoWays}
use Rattle.streams.specs.Anywhere.{place_in, Lent, refusal_in, rows_in, SameCut, Enough, CutTwice}

-- ---- one call

-- what it promises, as equations
pub record Said (s : Cutter) (piece ends : List ℕ) (a : Answer) (s' : Cutter) (ends' : List ℕ) : Type 0 where
  pub answers : a ≡ cut_answer s piece (length ends)
  pub state : s' ≡ cut_state s piece (length ends)
  pub list : ends' ≡ cut_ends s piece ends

said : {s : Cutter} {piece ends : List ℕ} {a : Answer} {s' : Cutter} {ends' : List ℕ} → PieceCut s piece ends a s' ends' → Said s piece ends a s' ends'
said c = let u = cut_unique c (record { answers = refl; state = refl; row_ends = refl }) in record { answers = u.0; state = u.1; list = u.2 }

-- on a state that breaks the rule nothing changes
broken : (s : Cutter) (size room : ℕ) → keeps s ≡ false → cut_fault s size room ≡ Err BrokenState
broken s size room e = rw e

-- on one that keeps it, with a list that is long enough, the answer is that of its bytes
call_answer : (s : Cutter) → keeps s ≡ true → (piece : List ℕ) (room : ℕ) → length piece ≤ room
    → cut_answer s piece room ≡ answer (fed s piece).refusal (length (ends_in s piece)) 0
unfolding cut_answer
call_answer s h piece room l = rw (h, le-ltb room (length piece) l) (go s.refusal refl)
  where
    go : (c : Check) → s.refusal ≡ c
        → answer (both (both c (Ok tt)) (fed s piece).refusal) (length (ends_in s piece)) 0 ≡ answer (fed s piece).refusal (length (ends_in s piece)) 0
    go (Ok tt) e = refl
    go (Err r) e =
        sym (ap (λ (t : Cutter). answer t.refusal (length (ends_in s piece)) 0) (fed_refused s r e piece) ∙ ap (λ (c : Check). answer c (length (ends_in s piece)) 0) e)

-- ---- what an answer says

answer_refusal : (c : Check) (a b : ℕ) → refusal_in (answer c a b) ≡ c
answer_refusal (Ok tt) a b = refl
answer_refusal (Err r) a b = refl

answer_rows : (c : Check) (a b : ℕ) → c ≡ Ok tt → rows_in (answer c a b) ≡ a
answer_rows c a b e = ap (λ (x : Check). rows_in (answer x a b)) e

-- a stream that is not refused was not refused before
unrefused : (s : Cutter) (q : List ℕ) → (fed s q).refusal ≡ Ok tt → s.refusal ≡ Ok tt
unrefused s q e = go s.refusal refl
  where
    go : (c : Check) → s.refusal ≡ c → s.refusal ≡ Ok tt
    go (Ok tt) h = h
    go (Err r) h = ap (λ (t : Cutter). t.refusal) (sym (fed_refused s r h q)) ∙ e

module _ (s : Cutter) (held : Whole s) (piece : List ℕ) (bytes : Bytes piece) (k : ℕ) (whole first second : Lent) (r : TwoWays)
    (one : PieceCut s piece whole.entry r.whole.answer r.whole.state whole.exit)
    (before : PieceCut s (take k piece) first.entry r.front.answer r.front.state first.exit)
    (after : PieceCut r.front.state (drop k piece) second.entry r.rest.answer r.rest.state second.exit)
    (enough : Enough piece whole first second) where
  abbrev p : List ℕ
  p = take k piece

  abbrev q : List ℕ
  q = drop k piece

  p_room : length p ≤ length first.entry
  p_room = omega (arith, length-take k piece, enough.front_room)

  q_room : length q ≤ length second.entry
  q_room = omega (arith, length-drop k piece, enough.rest_room)

  -- ---- the state breaks the rule
  module _ (e : keeps s ≡ false) where
    stays₀ : (x ends : List ℕ) → (cut_answer s x (length ends) ≡ Err BrokenState) × (cut_state s x (length ends) ≡ s) × (cut_ends s x ends ≡ ends)
    stays₀ x ends = cut_refused s x ends BrokenState (broken s (length x) (length ends) e)

    middle₀ : r.front.state ≡ s
    middle₀ = (said before).state ∙ (stays₀ p first.entry).1

    last₀ : Said s q second.entry r.rest.answer r.rest.state second.exit
    last₀ = subst (λ (t : Cutter). Said t q second.entry r.rest.answer r.rest.state second.exit) middle₀ (said after)

    same_answer₀ : r.whole.answer ≡ r.rest.answer
    same_answer₀ = (said one).answers ∙ (stays₀ piece whole.entry).0 ∙ sym (last₀.answers ∙ (stays₀ q second.entry).0)

    refused₀ : r.whole.answer ≡ Err BrokenState
    refused₀ = (said one).answers ∙ (stays₀ piece whole.entry).0

    not_passed₀ : refusal_in r.whole.answer ≡ Ok tt → ⊥
    not_passed₀ h = absurd (let z : ◌≡◌ {A = Check} (Err BrokenState) (Ok tt) = sym (ap refusal_in refused₀) ∙ h in let y : ◌≡◌ {A = ℕ} 0 1 = cc in omega arith)

    same_broken : SameCut whole first second r
    same_broken = record {
      front = [];
      rest = [];
      state = (said one).state ∙ (stays₀ piece whole.entry).1 ∙ sym (last₀.state ∙ (stays₀ q second.entry).1);
      refusal = ap refusal_in same_answer₀;
      rows = λ h. absurd (not_passed₀ h);
      counted = λ h. absurd (not_passed₀ h);
      whole_ends = (said one).list ∙ (stays₀ piece whole.entry).2;
      front_ends = (said before).list ∙ (stays₀ p first.entry).2;
      rest_ends = last₀.list ∙ (stays₀ q second.entry).2;
    }

  -- ---- it keeps the rule
  module _ (e : keeps s ≡ true) where
    abbrev t : Cutter
    t = fed s p

    kept : keeps t ≡ true
    kept = (fed_keeps s p (bytes_take k piece bytes) (held, e)).1

    middle : r.front.state ≡ t
    middle = (said before).state ∙ call_fed s e p (length first.entry) p_room

    last : Said t q second.entry r.rest.answer r.rest.state second.exit
    last = subst (λ (x : Cutter). Said x q second.entry r.rest.answer r.rest.state second.exit) middle (said after)

    -- the bytes are one stream
    all_fed : fed s piece ≡ fed t q
    all_fed = ap (fed s) (sym (take-append-drop k piece)) ∙ fed_append s p q

    all_ends : ends_in s piece ≡ ends_in s p ++ ends_in t q
    all_ends = ap (ends_in s) (sym (take-append-drop k piece)) ∙ ends_append s p q

    whole_answer : r.whole.answer ≡ answer (fed t q).refusal (length (ends_in s p ++ ends_in t q)) 0
    whole_answer =
        (said one).answers ∙ call_answer s e piece (length whole.entry) enough.whole_room
        ∙ ap (λ (x : Cutter). answer x.refusal (length (ends_in s piece)) 0) all_fed
        ∙ ap (λ (x : List ℕ). answer (fed t q).refusal (length x) 0) all_ends

    front_answer : r.front.answer ≡ answer t.refusal (length (ends_in s p)) 0
    front_answer = (said before).answers ∙ call_answer s e p (length first.entry) p_room

    rest_answer : r.rest.answer ≡ answer (fed t q).refusal (length (ends_in t q)) 0
    rest_answer = last.answers ∙ call_answer t kept q (length second.entry) q_room

    whole_refusal : refusal_in r.whole.answer ≡ (fed t q).refusal
    whole_refusal = ap refusal_in whole_answer ∙ answer_refusal (fed t q).refusal (length (ends_in s p ++ ends_in t q)) 0

    whole_rows : refusal_in r.whole.answer ≡ Ok tt → rows_in r.whole.answer ≡ length (ends_in s p ++ ends_in t q)
    whole_rows h = ap rows_in whole_answer ∙ answer_rows (fed t q).refusal (length (ends_in s p ++ ends_in t q)) 0 (sym whole_refusal ∙ h)

    front_rows : refusal_in r.whole.answer ≡ Ok tt → rows_in r.front.answer ≡ length (ends_in s p)
    front_rows h = ap rows_in front_answer ∙ answer_rows t.refusal (length (ends_in s p)) 0 (unrefused t q (sym whole_refusal ∙ h))

    rest_rows : refusal_in r.whole.answer ≡ Ok tt → rows_in r.rest.answer ≡ length (ends_in t q)
    rest_rows h = ap rows_in rest_answer ∙ answer_rows (fed t q).refusal (length (ends_in t q)) 0 (sym whole_refusal ∙ h)

    same_kept : SameCut whole first second r
    same_kept = record {
      front = ends_in s p;
      rest = ends_in t q;
      state =
          (said one).state ∙ call_fed s e piece (length whole.entry) enough.whole_room ∙ all_fed
          ∙ sym (last.state ∙ call_fed t kept q (length second.entry) q_room);
      refusal = whole_refusal ∙ sym (ap refusal_in rest_answer ∙ answer_refusal (fed t q).refusal (length (ends_in t q)) 0);
      rows = λ h. omega (arith, whole_rows h, front_rows h, rest_rows h, length-append (ends_in s p) (ends_in t q));
      counted = whole_rows;
      whole_ends =
          (said one).list ∙ call_ends s e piece whole.entry enough.whole_room ∙ ap (λ (x : List ℕ). over x whole.entry) all_ends;
      front_ends = (said before).list ∙ call_ends s e p first.entry p_room;
      rest_ends = last.list ∙ call_ends t kept q second.entry q_room;
    }

  same_cut : SameCut whole first second r
  same_cut = go (keeps s) refl
    where
      go : (b : Bool) → keeps s ≡ b → SameCut whole first second r
      go true e = same_kept e
      go false e = same_broken e

-- all of it, where the front and the rest are the parts of the piece up to that place and from it on
pub cut_twice : (s : Cutter) → Whole s → (piece : List ℕ) → Bytes piece → (at k : ℕ) → k ≡ place_in at (length piece) → (whole first second : Lent) (r : TwoWays)
    → PieceCut s piece whole.entry r.whole.answer r.whole.state whole.exit
    → PieceCut s (take (k - 0) piece) first.entry r.front.answer r.front.state first.exit
    → PieceCut r.front.state (take (length piece - k) (drop k piece)) second.entry r.rest.answer r.rest.state second.exit
    → CutTwice s piece at whole first second r
cut_twice s held piece bytes at k is whole first second r one before after =
    let none : k - 0 ≡ k = omega arith in
    let front : take (k - 0) piece ≡ take (place_in at (length piece)) piece = ap (λ (n : ℕ). take n piece) (none ∙ is) in
    let rest : take (length piece - k) (drop k piece) ≡ drop (place_in at (length piece)) piece =
    take_all (length piece - k) (drop k piece) (omega (arith, length-drop k piece)) ∙ ap (λ (n : ℕ). drop n piece) is
    in
    let first-call = subst (λ (x : List ℕ). PieceCut s x first.entry r.front.answer r.front.state first.exit) front before in
    let second_call = subst (λ (x : List ℕ). PieceCut r.front.state x second.entry r.rest.answer r.rest.state second.exit) rest after in
    record {
      one = one;
      before = first-call;
      after = second_call;
      same = same_cut s held piece bytes (place_in at (length piece)) whole first second r one first-call second_call;
    }
