-- Calls on states that keep the rule: a run of them, each list long enough, is one call with all the bytes, so that any two runs with one
-- stream leave one state and write the same ends; and a run from a start cuts its stream as decode reads it. Assumes nothing.
use Prim.Native.Nat.{ℕ, ◌≤◌}
use mathlib.Core.Path.{◌≡◌, refl, ap, ap₂, sym, ◌∙◌}
use mathlib.Core.Bool.{Bool, true, not}
use mathlib.Core.List.{List, [], ◌∷◌, ◌++◌}
use lib.ListN.{length}
use borrow.Author.Tests.{le-ltb}
use Rattle.format.specs.declared.Refusal.{Refusal}
use Rattle.format.specs.declared.Refusal.TheVariants.{BrokenState}
use Rattle.std.specs.declared.result.Result.TheVariants.{Err, Ok}
use Rattle.format.specs.Check.{Check, both, fail_if}
use Rattle.format.specs.declared.Cutter.{Cutter}
use Rattle.format.specs.Limits.{max_total}
use Rattle.format.specs.Lists.{Bytes, over}
use Rattle.format.specs.Described.{ColumnList, list_fault, columns}
use Rattle.format.specs.Entries.{answer, written}
use Rattle.format.specs.CutterRule.{keeps}
use Rattle.format.specs.Cutter.{unless, fed, ends_in, begun, started_with, start_state, cut_fault, cut_answer, cut_state, cut_ends, finish_fault, finish_answer}
use Rattle.basics.proofs.Bytes.{bytes_append}
use Rattle.laws.proofs.Described.{columns_few}
use Rattle.cutter_laws.specs.Calls.{Kept, Lending, stream, calls, calls_ends}
use Rattle.cutter_laws.specs.Streams.{streamEnds, CutAsRead}
use Rattle.cutter_laws.proofs.Cutting.{fed_append, ends_append, fed_refused, ends_refused}
use Rattle.cutter_laws.proofs.RuleKept.{fed_keeps}
use Rattle.cutter_laws.proofs.StartKept.{start_keeps}
use Rattle.cutter_laws.proofs.StreamCut.{stream_cut}

module _ (s : Cutter) (h : keeps s ≡ true) where
  -- before the piece is read, nothing is refused but for what stands
  stands : (size room : ℕ) → size ≤ room → cut_fault s size room ≡ s.refusal
  stands size room l = rw (h, le-ltb room size l) (go s.refusal)
    where
      go : (c : Check) → both c (Ok tt) ≡ c
      go (Ok tt) = refl
      go (Err r) = refl

  -- a call on a state that keeps the rule, with a list that is long enough: the state of its bytes
  pub call_fed : (piece : List ℕ) (room : ℕ) → length piece ≤ room → cut_state s piece room ≡ fed s piece
  unfolding cut_state
  call_fed piece room l = ap (λ (c : Check). unless c s (fed s piece)) (stands (length piece) room l) ∙ go s.refusal refl
    where
      go : (c : Check) → s.refusal ≡ c → unless c s (fed s piece) ≡ fed s piece
      go (Ok tt) e = refl
      go (Err r) e = sym (fed_refused s r e piece)

  -- its list: the ends that its bytes complete, before what was there
  pub call_ends : (piece ends : List ℕ) → length piece ≤ length ends → cut_ends s piece ends ≡ over (ends_in s piece) ends
  unfolding cut_ends
  call_ends piece ends l = ap (λ (c : Check). written c (ends_in s piece) ends) (stands (length piece) (length ends) l) ∙ go s.refusal refl
    where
      go : (c : Check) → s.refusal ≡ c → written c (ends_in s piece) ends ≡ over (ends_in s piece) ends
      go (Ok tt) e = refl
      go (Err r) e = sym (ap (λ (z : List ℕ). over z ends) (ends_refused s r e piece))

  -- the finish: what stands, or 16 within a row
  pub finish_kept : finish_answer s ≡ answer (finish_fault s) s.rows 0
  unfolding finish_answer
  finish_kept = ap (λ (t : Bool). answer (fail_if (not t) BrokenState (finish_fault s)) s.rows 0) h

-- what a call comes to: refused before the piece is read, nothing changes; and else what its bytes leave
module _ (s : Cutter) (piece ends : List ℕ) where
  pub cut_refused : (r : Refusal) → cut_fault s (length piece) (length ends) ≡ Err r
      → (cut_answer s piece (length ends) ≡ Err r) × (cut_state s piece (length ends) ≡ s) × (cut_ends s piece ends ≡ ends)
  unfolding cut_answer cut_state cut_ends
  cut_refused r e = (rw e, rw e, rw e)

  pub cut_passed : (s' : Cutter) (found : List ℕ) → cut_fault s (length piece) (length ends) ≡ Ok tt → fed s piece ≡ s' → ends_in s piece ≡ found
      → (cut_answer s piece (length ends) ≡ answer s'.refusal (length found) 0)
      × (cut_state s piece (length ends) ≡ s')
      × (cut_ends s piece ends ≡ over found ends)
  unfolding cut_answer cut_state cut_ends
  cut_passed s' found e a b = (
    ap (λ (c : Check). answer (both c (fed s piece).refusal) (length (ends_in s piece)) 0) e
        ∙ ap₂ (λ (t : Cutter) (z : List ℕ). answer t.refusal (length z) 0) a b,
    ap (λ (c : Check). unless c s (fed s piece)) e ∙ a,
    ap (λ (c : Check). written c (ends_in s piece) ends) e ∙ ap (λ (z : List ℕ). over z ends) b,
  )

-- every state from a call keeps the rule
pub cut_keeps : (s : Cutter) (piece : List ℕ) (room : ℕ) → Bytes piece → Kept s → Kept (cut_state s piece room)
unfolding cut_state
cut_keeps s piece room bs h = go (cut_fault s (length piece) room)
  where
    go : (c : Check) → Kept (unless c s (fed s piece))
    go (Ok tt) = fed_keeps s piece bs h
    go (Err r) = h

-- ---- a run of calls leaves the state of one call with all the bytes, and writes its ends
calls_fed : (s : Cutter) (cs : List Lending) → Kept s → (calls s cs ≡ fed s (stream cs)) × (calls_ends s cs ≡ ends_in s (stream cs))
calls_fed s [] h = (refl, refl)
calls_fed s (c ∷ cs) h =
    let e = call_fed s h.1 c.piece (length c.ends) c.enough in
    let ih = calls_fed (fed s c.piece) cs (fed_keeps s c.piece c.bytes h) in (
      ap (λ (t : Cutter). calls t cs) e ∙ ih.0 ∙ sym (fed_append s c.piece (stream cs)),
      ap (λ (t : Cutter). ends_in s c.piece ++ calls_ends t cs) e
          ∙ ap (λ (z : List ℕ). ends_in s c.piece ++ z) ih.1
          ∙ sym (ends_append s c.piece (stream cs)),
    )

-- any two runs with one stream leave one state, and the same refusal with it, and write the same ends
pub any_calls : (s : Cutter) (cs ds : List Lending) → Kept s → stream cs ≡ stream ds → (calls s cs ≡ calls s ds) × (calls_ends s cs ≡ calls_ends s ds)
any_calls s cs ds h e =
    let c = calls_fed s cs h in
    let d = calls_fed s ds h in
    (c.0 ∙ ap (fed s) e ∙ sym d.0, c.1 ∙ ap (ends_in s) e ∙ sym d.1)

-- ---- from a start
stream_bytes : (cs : List Lending) → Bytes (stream cs)
stream_bytes [] = tt
stream_bytes (c ∷ cs) = bytes_append c.piece (stream cs) c.bytes (stream_bytes cs)

-- a run of calls from a start writes the ends of its stream, which cut it as decode reads it, and the finish says what is left
pub record PipeCut (list : ColumnList) (cs : List Lending) : Type 0 where
  pub ends : calls_ends (start_state list) cs ≡ streamEnds (columns list) (stream cs)
  pub cut_as_read : CutAsRead (columns list) (stream cs)
  pub finish : finish_answer (calls (start_state list) cs)
      ≡ answer (finish_fault (fed (begun (columns list)) (stream cs))) (fed (begun (columns list)) (stream cs)).rows 0

pub pipe_cut : (list : ColumnList) (cs : List Lending) → list_fault list ≡ Ok tt → length (stream cs) ≤ max_total → PipeCut list cs
unfolding start_state
pipe_cut list cs e l = record {
  ends = c.1 ∙ ap (λ (t : Cutter). ends_in t (stream cs)) begins;
  cut_as_read = stream_cut (columns list) (columns_few list e).0 (stream cs) (stream_bytes cs) l;
  finish =
      ap finish_answer after
      ∙ finish_kept (fed (begun (columns list)) (stream cs))
      (ap (λ (t : Cutter). keeps (fed t (stream cs))) (sym begins) ∙ (fed_keeps (start_state list) (stream cs) (stream_bytes cs) k).1);
}
  where
    k : Kept (start_state list)
    k = start_keeps list

    begins : start_state list ≡ begun (columns list)
    begins = ap (λ (c : Check). started_with c (columns list)) e

    c : (calls (start_state list) cs ≡ fed (start_state list) (stream cs)) × (calls_ends (start_state list) cs ≡ ends_in (start_state list) (stream cs))
    c = calls_fed (start_state list) cs k

    after : calls (start_state list) cs ≡ fed (begun (columns list)) (stream cs)
    after = c.0 ∙ ap (λ (t : Cutter). fed t (stream cs)) begins
