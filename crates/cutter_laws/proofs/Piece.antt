-- A piece, read up to byte i: a byte more, a whole field more, a fault. What a loop over a piece cites. Assumes nothing.
use Prim.Native.Nat.{ℕ, suc, ◌+◌, ◌-◌, ◌<◌, ◌≤◌}
use mathlib.Core.Path.{◌≡◌, refl, ap, ap₂, sym, subst, ◌∙◌}
use mathlib.Core.Bool.{Bool, true, false, cond}
use mathlib.Core.Logic.{inl, inr}
use mathlib.Core.Option.{none, some}
use mathlib.Core.List.{List, [], ◌∷◌, ◌++◌, append-nil}
use native.Mathlib.Omega.{arith}
use lib.Dec.{ltb}
use lib.ListN.{length, get_or, take, drop, length-append, length-take, take-append-drop}
use lib.Seq.{drop-cons, take-add, take_all, take-take, take_at, length-take-le}
use borrow.Author.Tests.{lt-ltb, le-ltb}
use Rattle.format.specs.declared.RowFault.{RowFault}
use Rattle.format.specs.declared.RowFault.TheVariants.{Cut}
use Rattle.format.specs.declared.Refusal.{Refusal}
use Rattle.format.specs.declared.Refusal.TheVariants.{Row, ManyBytes}
use Rattle.std.specs.declared.result.Result.TheVariants.{Ok, Err}
use Rattle.format.specs.declared.Spot.{Spot}
use Rattle.format.specs.declared.Spot.TheVariants.{Start}
use Rattle.format.specs.declared.Cutter.{Cutter}
use Rattle.format.specs.Limits.{max_total}
use Rattle.format.specs.Lists.{Bytes}
use Rattle.format.specs.Kinds.{Slot}
use Rattle.format.specs.Read.{Parsed, got, fault, field_read}
use Rattle.format.specs.Cutter.{on, whole, bad, move_in, moved, refused, further, row_ended, field_ended, step, fed, new_end, ends_in}
use Rattle.basics.proofs.Bytes.{bytes_take, bytes_drop}
use Rattle.cutter_laws.proofs.Cutting.{fed_append, ends_append, fed_refused, ends_refused, step_full}
use Rattle.cutter_laws.proofs.FieldFed.{no_end, step_room, Ended, Ready, FieldFed, field_in, field_fed}

-- the end that the last byte of a field completes: one, if the column is the last
pub new_end_lem : (s : Cutter) (n : ℕ) → new_end s (field_ended s n) ≡ cond (ltb (suc s.column) s.schema.count) [] ((s.bytes + n) ∷ [])
new_end_lem s n = go (ltb (suc s.column) s.schema.count)
  where
    go : (t : Bool) → new_end s (cond t (further s n (suc s.column) Start) (row_ended s n)) ≡ cond t [] ((s.bytes + n) ∷ [])
    go true = rw (le-ltb s.rows s.rows (omega arith))
    go false = rw (lt-ltb s.rows (suc s.rows) (omega arith))

-- after a field that is whole the next begins
pub ended_ready : (s : Cutter) (n : ℕ) → s.refusal ≡ Ok tt → Ready (field_ended s n)
ended_ready s n e = go (ltb (suc s.column) s.schema.count)
  where
    go : (t : Bool) → Ready (cond t (further s n (suc s.column) Start) (row_ended s n))
    go true = record { standing = e; start = refl }
    go false = record { standing = e; start = refl }

-- no byte completes more than one row
pub ends_few : (s : Cutter) (xs : List ℕ) → length (ends_in s xs) ≤ length xs
ends_few s [] = omega arith
ends_few s (b ∷ xs) =
    omega (arith, length-append (new_end s (step s b)) (ends_in (step s b) xs), one (ltb s.rows (step s b).rows), ends_few (step s b) xs)
  where
    one : (t : Bool) → length (cond t ((step s b).bytes ∷ []) []) ≤ 1
    one true = omega arith
    one false = omega arith

-- ---- up to byte i of a piece the state is s, and these ends were found
pub record Upto (s₀ : Cutter) (piece : List ℕ) (i : ℕ) (s : Cutter) (found : List ℕ) : Type 0 where
  pub state : fed s₀ (take i piece) ≡ s
  pub ends : ends_in s₀ (take i piece) ≡ found

pub upto_none : (s : Cutter) (piece : List ℕ) → Upto s piece 0 s []
upto_none s piece = record { state = refl; ends = refl }

module _ {s₀ : Cutter} {piece : List ℕ} {i : ℕ} {s : Cutter} {found : List ℕ} (u : Upto s₀ piece i s found) where
  -- n bytes more, whatever they do
  pub upto_more : (n : ℕ) → Upto s₀ piece (i + n) (fed s (take n (drop i piece))) (found ++ ends_in s (take n (drop i piece)))
  upto_more n = record {
    state = ap (fed s₀) (take-add i n piece) ∙ fed_append s₀ (take i piece) more ∙ ap (λ (t : Cutter). fed t more) u.state;
    ends =
        ap (ends_in s₀) (take-add i n piece)
        ∙ ends_append s₀ (take i piece) more
        ∙ ap₂ {C = List ℕ} (λ (x : List ℕ) (t : Cutter). x ++ ends_in t more) u.ends u.state;
  }
    where
      more : List ℕ
      more = take n (drop i piece)

  -- no more ends than bytes
  pub upto_few : i ≤ length piece → length found ≤ i
  upto_few l = omega (arith, ap length u.ends, ends_few s₀ (take i piece), length-take-le i piece l)

  -- all bytes
  pub upto_end : length piece ≤ i → (fed s₀ piece ≡ s) × (ends_in s₀ piece ≡ found)
  upto_end l = let e = take_all i piece l in (ap (fed s₀) (sym e) ∙ u.state, ap (ends_in s₀) (sym e) ∙ u.ends)

  -- a refusal stands: the rest makes no difference
  pub upto_refused : (r : Refusal) → s.refusal ≡ Err r → (fed s₀ piece ≡ s) × (ends_in s₀ piece ≡ found)
  upto_refused r e = (
    ap (fed s₀) split ∙ fed_append s₀ (take i piece) rest ∙ ap (λ (t : Cutter). fed t rest) u.state ∙ fed_refused s r e rest,
    ap (ends_in s₀) split ∙ ends_append s₀ (take i piece) rest ∙ ap₂ {C = List ℕ} (λ (x : List ℕ) (t : Cutter). x ++ ends_in t rest) u.ends u.state
        ∙ ap (λ (x : List ℕ). found ++ x) (ends_refused s r e rest) ∙ append-nil found,
  )
    where
      rest : List ℕ
      rest = drop i piece

      split : piece ≡ take i piece ++ rest
      split = sym (take-append-drop i piece)

module _ {s₀ : Cutter} {piece : List ℕ} {i : ℕ} {s : Cutter} {found : List ℕ} (u : Upto s₀ piece i s found) where
  -- a byte more
  pub upto_byte : i < length piece → Upto s₀ piece (i + 1) (step s (get_or piece i 0)) (found ++ new_end s (step s (get_or piece i 0)))
  upto_byte l =
      subst (λ (x : List ℕ). Upto s₀ piece (i + 1) (step s (get_or piece i 0)) (found ++ x)) (append-nil (new_end s (step s (get_or piece i 0))))
      (subst (λ (x : List ℕ). Upto s₀ piece (i + 1) (fed s x) (found ++ ends_in s x)) (ap (take 1) (drop-cons piece i 0 l)) (upto_more u 1))

  -- a byte that is refused
  refused_byte : i < length piece → (q : Refusal) → step s (get_or piece i 0) ≡ refused q → (fed s₀ piece ≡ refused q) × (ends_in s₀ piece ≡ found)
  refused_byte l q a =
      let v : Upto s₀ piece (i + 1) (refused q) (found ++ new_end s (refused q))
      = subst (λ (t : Cutter). Upto s₀ piece (i + 1) t (found ++ new_end s t)) a (upto_byte l) in
      let w = upto_refused v q refl in
      (w.0, w.1 ∙ ap (λ (x : List ℕ). found ++ x) (no_end s (refused q) (omega arith)) ∙ append-nil found)

  -- ---- a byte, by what it does to the field
  module _ (l : i < length piece) (e : s.refusal ≡ Ok tt) where
    abbrev b : ℕ
    b = get_or piece i 0

    -- the 16,777,217th: 12
    pub upto_many : s.bytes ≡ max_total → (fed s₀ piece ≡ refused (ManyBytes (suc max_total) s.rows)) × (ends_in s₀ piece ≡ found)
    upto_many full = refused_byte l (ManyBytes (suc max_total) s.rows) (step_full s b e full)

    module _ (room : s.bytes < max_total) where
      -- the field goes on
      pub upto_on : (spot : Spot) → move_in s b ≡ on spot → Upto s₀ piece (i + 1) (further s 1 s.column spot) found
      upto_on spot q =
          subst (λ (x : List ℕ). Upto s₀ piece (i + 1) (further s 1 s.column spot) x)
          (ap (λ (x : List ℕ). found ++ x) (no_end s (further s 1 s.column spot) (omega arith)) ∙ append-nil found)
          (subst (λ (t : Cutter). Upto s₀ piece (i + 1) t (found ++ new_end s t)) (step_room s b e room ∙ ap (moved s) q) (upto_byte l))

      -- it is whole
      pub upto_whole : move_in s b ≡ whole → Upto s₀ piece (i + 1) (field_ended s 1) (found ++ new_end s (field_ended s 1))
      upto_whole q = subst (λ (t : Cutter). Upto s₀ piece (i + 1) t (found ++ new_end s t)) (step_room s b e room ∙ ap (moved s) q) (upto_byte l)

      -- a fault shows
      pub upto_bad : (f : RowFault) (place : ℕ) → move_in s b ≡ bad f place
          → (fed s₀ piece ≡ refused (Row f s.rows s.column place)) × (ends_in s₀ piece ≡ found)
      upto_bad f place q = refused_byte l (Row f s.rows s.column place) (step_room s b e room ∙ ap (moved s) q)
