-- What a state comes to: a stream past the limit is 12; every state from a start or a call holds its columns as a list has them. Assumes
-- nothing.
use Prim.Native.Nat.{ℕ, suc, ◌+◌, ◌<◌, ◌≤◌}
use mathlib.Core.Path.{◌≡◌, refl, ap, ap₂, sym, ◌∙◌}
use mathlib.Core.Bool.{Bool, true, false, cond}
use mathlib.Core.List.{List, [], ◌∷◌, ◌++◌, append-nil}
use native.Mathlib.Nat.{add-zero}
use native.Mathlib.Omega.{arith}
use lib.Dec.{ltb}
use lib.ListN.{length}
use borrow.Author.Tests.{ltb-true}
use Rattle.format.specs.declared.Column.{Column}
use Rattle.format.specs.declared.Refusal.{Refusal}
use Rattle.format.specs.declared.Refusal.TheVariants.{ManyBytes, Row}
use Rattle.format.specs.Check.{Check}
use Rattle.std.specs.declared.result.Result.TheVariants.{Ok, Err}
use Rattle.format.specs.declared.Spot.TheVariants.{Start}
use Rattle.format.specs.declared.Cutter.{Cutter}
use Rattle.format.specs.Limits.{max_columns, max_total}
use Rattle.format.specs.Described.{ColumnList, list_fault, columns}
use Rattle.format.specs.Schemas.{schema_of}
use Rattle.format.specs.Cutter.{Move, on, whole, bad, move_in, moved, refused, further, row_ended, field_ended, taken, unless, step, fed, ends_in, new_end, started_with, start_state, cut_fault, cut_state}
use Rattle.basics.proofs.Checks.{refuse_pass}
use Rattle.laws.proofs.Described.{columns_few}
use Rattle.cutter_laws.proofs.Cutting.{fed_append, ends_append, fed_refused, ends_refused, step_full}
use Rattle.cutter_laws.proofs.FieldFed.{no_end, step_room}

-- ---- how a byte changes a state, where none refused it

-- a refusal leaves no way back
fed_pass : (s : Cutter) (xs : List ℕ) → (fed s xs).refusal ≡ Ok tt → s.refusal ≡ Ok tt
fed_pass s xs h = go s.refusal refl
  where
    go : (c : Check) → s.refusal ≡ c → s.refusal ≡ Ok tt
    go (Ok tt) e = e
    go (Err r) e = absurd (refuse_pass (sym (ap (λ (t : Cutter). t.refusal) (fed_refused s r e xs) ∙ e) ∙ h))

ended_bytes : (s : Cutter) (n : ℕ) → (field_ended s n).bytes ≡ s.bytes + n
ended_bytes s n = go (ltb (suc s.column) s.schema.count)
  where
    go : (t : Bool) → (cond t (further s n (suc s.column) Start) (row_ended s n)).bytes ≡ s.bytes + n
    go true = refl
    go false = refl

moved_bytes : (s : Cutter) (m : Move) → (moved s m).refusal ≡ Ok tt → (moved s m).bytes ≡ s.bytes + 1
moved_bytes s (on spot) h = refl
moved_bytes s whole h = ended_bytes s 1
moved_bytes s (bad f place) h = absurd (refuse_pass h)

step_bytes : (s : Cutter) (b : ℕ) → s.refusal ≡ Ok tt → (step s b).refusal ≡ Ok tt → (step s b).bytes ≡ s.bytes + 1
step_bytes s b e h = go (ltb s.bytes max_total) refl
  where
    go : (t : Bool) → ltb s.bytes max_total ≡ t → (step s b).bytes ≡ s.bytes + 1
    go true q =
        let r = step_room s b e (ltb-true s.bytes max_total q) in
        ap (λ (t : Cutter). t.bytes) r ∙ moved_bytes s (move_in s b) (sym (ap (λ (t : Cutter). t.refusal) r) ∙ h)
    go false q =
        absurd (refuse_pass (sym (ap (λ (c : Check). (unless c s (taken s b)).refusal) e
        ∙ ap (λ (t : Bool). (cond t (moved s (move_in s b)) (refused (ManyBytes (suc max_total) s.rows))).refusal) q) ∙ h))

-- all bytes were counted
fed_bytes : (s : Cutter) (xs : List ℕ) → (fed s xs).refusal ≡ Ok tt → (fed s xs).bytes ≡ s.bytes + length xs
fed_bytes s [] h = sym (add-zero s.bytes)
fed_bytes s (b ∷ xs) h =
    let p = fed_pass (step s b) xs h in
    let e = fed_pass s (b ∷ []) p in
    fed_bytes (step s b) xs h ∙ omega (arith, step_bytes s b e p)

-- ---- a stream past the limit is judged by what it may hold: a refusal that this leaves stays, and else it is 12, with the rows that ended
module _ (s : Cutter) (xs ys : List ℕ) (full : s.bytes + length xs ≡ max_total) (more : 0 < length ys) where
  abbrev t : Cutter
  t = fed s xs

  abbrev many : Refusal
  many = ManyBytes (suc max_total) t.rows

  rest : (c : Check) → t.refusal ≡ c → (zs : List ℕ) → 0 < length zs → (fed t zs ≡ unless c t (refused many)) × (ends_in t zs ≡ [])
  rest (Err r) e zs l = (fed_refused t r e zs, ends_refused t r e zs)
  rest (Ok tt) e [] l = absurd (omega arith)
  rest (Ok tt) e (b ∷ zs) l =
      let q : step t b ≡ refused many = step_full t b e (fed_bytes s xs e ∙ full) in (
        ap (λ (u : Cutter). fed u zs) q ∙ fed_refused (refused many) many refl zs,
        ap (λ (u : Cutter). new_end t u ++ ends_in u zs) q
            ∙ ap₂ {C = List ℕ} (λ x y. x ++ y) (no_end t (refused many) (omega arith)) (ends_refused (refused many) many refl zs),
      )

  pub past_limit : (fed s (xs ++ ys) ≡ unless t.refusal t (refused many)) × (ends_in s (xs ++ ys) ≡ ends_in s xs)
  past_limit =
      let h = rest t.refusal refl ys more in
      (fed_append s xs ys ∙ h.0, ends_append s xs ys ∙ ap (λ (z : List ℕ). ends_in s xs ++ z) h.1 ∙ append-nil (ends_in s xs))

-- ---- the array of columns is as a list has it, also after a start and a call
pub record Listed (s : Cutter) : Type 0 where
  pub cols : List Column
  pub few : length cols ≤ max_columns
  pub schema : s.schema ≡ schema_of cols

refused_listed : (r : Refusal) → Listed (refused r)
refused_listed r = record { cols = []; few = omega arith; schema = refl }

moved_listed : (s : Cutter) (m : Move) → Listed s → Listed (moved s m)
moved_listed s (on spot) h = record { cols = h.cols; few = h.few; schema = h.schema }
moved_listed s whole h = go (ltb (suc s.column) s.schema.count)
  where
    go : (t : Bool) → Listed (cond t (further s 1 (suc s.column) Start) (row_ended s 1))
    go true = record { cols = h.cols; few = h.few; schema = h.schema }
    go false = record { cols = h.cols; few = h.few; schema = h.schema }
moved_listed s (bad f place) h = refused_listed (Row f s.rows s.column place)

step_listed : (s : Cutter) (b : ℕ) → Listed s → Listed (step s b)
step_listed s b h = go s.refusal (ltb s.bytes max_total)
  where
    go : (c : Check) (t : Bool) → Listed (unless c s (cond t (moved s (move_in s b)) (refused (ManyBytes (suc max_total) s.rows))))
    go (Ok tt) true = moved_listed s (move_in s b) h
    go (Ok tt) false = refused_listed (ManyBytes (suc max_total) s.rows)
    go (Err r) t = h

fed_listed : (s : Cutter) (xs : List ℕ) → Listed s → Listed (fed s xs)
fed_listed s [] h = h
fed_listed s (b ∷ xs) h = fed_listed (step s b) xs (step_listed s b h)

pub cut_listed : (s : Cutter) (piece : List ℕ) (room : ℕ) → Listed s → Listed (cut_state s piece room)
unfolding cut_state
cut_listed s piece room h = go (cut_fault s (length piece) room)
  where
    go : (c : Check) → Listed (unless c s (fed s piece))
    go (Ok tt) = fed_listed s piece h
    go (Err r) = h

pub start_listed : (list : ColumnList) → Listed (start_state list)
unfolding start_state
start_listed list = go (list_fault list) refl
  where
    go : (c : Check) → list_fault list ≡ c → Listed (started_with c (columns list))
    go (Ok tt) e = record { cols = columns list; few = (columns_few list e).1; schema = refl }
    go (Err r) e = refused_listed r
