-- A field, from its first byte on: what its bytes do to the state is what the field reader says of them. Assumes nothing.
use Prim.Native.Nat.{ℕ, suc, ◌+◌, ◌-◌, ◌<◌, ◌≤◌}
use mathlib.Core.Path.{◌≡◌, refl, ap, ap₂, sym, subst, ◌∙◌}
use mathlib.Core.Bool.{Bool, true, cond}
use mathlib.Core.Logic.{◌⊎◌, inl, inr}
use mathlib.Core.List.{List, [], ◌∷◌, ◌++◌, append-nil}
use native.Mathlib.Nat.{add-zero}
use native.Mathlib.Numerals.{add-one}
use native.Mathlib.Omega.{arith}
use lib.Dec.{ltb}
use lib.ListN.{length}
use borrow.Author.Tests.{lt-ltb, le-ltb}
use Rattle.format.specs.declared.SortOptions.{SortOptions}
use Rattle.format.specs.declared.RowFault.{RowFault}
use Rattle.format.specs.declared.RowFault.TheVariants.{Cut}
use Rattle.format.specs.declared.Refusal.TheVariants.{Row, ManyBytes}
use Rattle.format.specs.Check.{Check}
use Rattle.std.specs.declared.result.Result.TheVariants.{Ok}
use Rattle.format.specs.declared.Spot.{Spot}
use Rattle.format.specs.declared.Spot.TheVariants.{Start}
use Rattle.format.specs.declared.Cutter.{Cutter}
use Rattle.format.specs.Limits.{max_total}
use Rattle.format.specs.Lists.{Bytes}
use Rattle.format.specs.Kinds.{Shape, fixed, variable, Slot, column_shape}
use Rattle.format.specs.Read.{Parsed, got, fault, read_field}
use Rattle.format.specs.Numbers.{fault_number}
use Rattle.format.specs.CutterRule.{column_in, fault_kept}
use Rattle.format.specs.Cutter.{Move, on, whole, bad, move_in, moved, refused, further, field_ended, taken, unless, step, fed, new_end, ends_in}
use Rattle.cutter_laws.proofs.Cutting.{fed_refused, ends_refused}
use Rattle.cutter_laws.proofs.Walk.{Walk, still, ended, broken, walk_then, walk, Alike}
use Rattle.cutter_laws.proofs.FixedWalk.{fixed_walk}
use Rattle.cutter_laws.proofs.VariableWalk.{variable_walk}

-- a field's bytes, one by one, are read as the field reader reads them
pub field_walk : (sh : Shape) (o : SortOptions) (at : ℕ) (xs : List ℕ) → Bytes xs → Alike (at + length xs) (walk sh o Start at xs) (read_field sh o xs)
field_walk (fixed k) o at xs bs = fixed_walk k o at xs bs
field_walk variable o at xs bs = variable_walk o at xs bs

-- ---- what a walk does to the state

-- no byte more; one more, and others after it
further_none : (s : Cutter) → further s 0 s.column s.spot ≡ s
further_none s =
    ap₂ (λ (n m : ℕ). record { schema = s.schema; refusal = s.refusal; rows = s.rows; bytes = n; row = m; column = s.column; spot = s.spot })
    (add-zero s.bytes) (add-zero s.row)

one_more : (n m : ℕ) → n + 1 + m ≡ n + suc m
one_more n m = omega arith

module _ (s : Cutter) (spot : Spot) where
  further_more : (n c : ℕ) (last : Spot) → further (further s 1 s.column spot) n c last ≡ further s (suc n) c last
  further_more n c last =
      ap₂ (λ (b r : ℕ). record { schema = s.schema; refusal = s.refusal; rows = s.rows; bytes = b; row = r; column = c; spot = last })
      (one_more s.bytes n) (one_more s.row n)

  ended_more : (n : ℕ) → field_ended (further s 1 s.column spot) n ≡ field_ended s (suc n)
  ended_more n =
      ap₂ (λ (t u : Cutter). cond (ltb (suc s.column) s.schema.count) t u) (further_more n (suc s.column) Start)
      (ap (λ (b : ℕ). record { schema = s.schema; refusal = s.refusal; rows = suc s.rows; bytes = b; row = 0; column = 0; spot = Start })
      (one_more s.bytes n))

-- no row ends where the count of rows stays, or falls
pub no_end : (s t : Cutter) → t.rows ≤ s.rows → new_end s t ≡ []
no_end s t l = ap (λ (u : Bool). cond u (t.bytes ∷ []) []) (le-ltb s.rows t.rows l)

-- the bytes of xs before bs complete the field that is being read
pub record Ended (s : Cutter) (xs bs : List ℕ) : Type 0 where
  pub part : List ℕ
  pub splits : xs ≡ part ++ bs
  pub state : fed s part ≡ field_ended s (length part)
  pub ends : ends_in s part ≡ new_end s (field_ended s (length part))

-- by what the walk comes to
abbrev After : Cutter → List ℕ → Walk → Type 0
After s xs (still spot) = (fed s xs ≡ further s (length xs) s.column spot) × (ends_in s xs ≡ [])
After s xs (ended bs) = Ended s xs bs
After s xs (broken f place) = (fed s xs ≡ refused (Row f s.rows s.column place)) × (ends_in s xs ≡ [])

-- a byte that the stream may hold
pub step_room : (s : Cutter) (b : ℕ) → s.refusal ≡ Ok tt → s.bytes < max_total → step s b ≡ moved s (move_in s b)
step_room s b e l =
    ap (λ (c : Check). unless c s (taken s b)) e
    ∙ ap (λ (t : Bool). cond t (moved s (move_in s b)) (refused (ManyBytes (suc max_total) s.rows))) (lt-ltb s.bytes max_total l)

module _ (s : Cutter) (b : ℕ) (bs : List ℕ) where
  -- after a byte that goes on with the field
  on_after : (spot : Spot) → step s b ≡ further s 1 s.column spot → (w : Walk) → After (further s 1 s.column spot) bs w → After s (b ∷ bs) w
  on_after spot e (still last) h = (
    ap (λ (t : Cutter). fed t bs) e ∙ h.0 ∙ further_more s spot (length bs) s.column last,
    ap (λ (t : Cutter). new_end s t ++ ends_in t bs) e ∙ ap₂ {C = List ℕ} (λ x y. x ++ y) (no_end s (further s 1 s.column spot) (omega arith)) h.1,
  )
  on_after spot e (ended rest) h = record {
    part = b ∷ h.part;
    splits = ap (λ (z : List ℕ). b ∷ z) h.splits;
    state = ap (λ (t : Cutter). fed t h.part) e ∙ h.state ∙ ended_more s spot (length h.part);
    ends =
        ap (λ (t : Cutter). new_end s t ++ ends_in t h.part) e
        ∙ ap₂ {C = List ℕ} (λ x y. x ++ y) (no_end s (further s 1 s.column spot) (omega arith))
        (h.ends ∙ ap (new_end s) (ended_more s spot (length h.part)));
  }
  on_after spot e (broken f place) h = (
    ap (λ (t : Cutter). fed t bs) e ∙ h.0,
    ap (λ (t : Cutter). new_end s t ++ ends_in t bs) e ∙ ap₂ {C = List ℕ} (λ x y. x ++ y) (no_end s (further s 1 s.column spot) (omega arith)) h.1,
  )

-- the walk of the field that is being read
abbrev walk_in : Cutter → List ℕ → Walk
walk_in s xs = walk (column_shape (column_in s)) (column_in s).options s.spot s.row xs

walk_fed : (xs : List ℕ) (s : Cutter) → s.refusal ≡ Ok tt → s.bytes + length xs ≤ max_total → After s xs (walk_in s xs)
walk_fed [] s e l = (sym (further_none s), refl)
walk_fed (b ∷ bs) s e l = go (move_in s b) (step_room s b e (omega arith)) (λ spot. walk_fed bs (further s 1 s.column spot) e (omega arith))
  where
    sh : Shape
    sh = column_shape (column_in s)

    o : SortOptions
    o = (column_in s).options

    go : (m : Move) → step s b ≡ moved s m → ((spot : Spot) → After (further s 1 s.column spot) bs (walk sh o spot (s.row + 1) bs))
        → After s (b ∷ bs) (walk_then m bs (λ next. walk sh o next (suc s.row) bs))
    go (on spot) q ih =
        on_after s b bs spot q (walk sh o spot (suc s.row) bs)
        (subst (λ (at : ℕ). After (further s 1 s.column spot) bs (walk sh o spot at bs)) (add-one s.row) (ih spot))
    go whole q ih = record {
      part = b ∷ [];
      splits = refl;
      state = q;
      ends = ap (λ (t : Cutter). new_end s t ++ []) q ∙ append-nil (new_end s (field_ended s 1));
    }
    go (bad f place) q ih = (
      ap (λ (t : Cutter). fed t bs) q ∙ fed_refused (refused (Row f s.rows s.column place)) (Row f s.rows s.column place) refl bs,
      ap (λ (t : Cutter). new_end s t ++ ends_in t bs) q
          ∙ ap₂ {C = List ℕ} (λ x y. x ++ y) (no_end s (refused (Row f s.rows s.column place)) (omega arith))
          (ends_refused (refused (Row f s.rows s.column place)) (Row f s.rows s.column place) refl bs),
    )

-- ---- what the field reader says, and the state

-- before a field's first byte, with no refusal standing
pub record Ready (s : Cutter) : Type 0 where
  pub standing : s.refusal ≡ Ok tt
  pub start : s.spot ≡ Start

-- what is read of the field that begins here
abbrev pub field_in : Cutter → List ℕ → Parsed Slot
field_in s xs = read_field (column_shape (column_in s)) (column_in s).options xs

-- the field goes on past these bytes
pub record Open (s : Cutter) (xs : List ℕ) : Type 0 where
  pub spot : Spot
  pub state : fed s xs ≡ further s (length xs) s.column spot
  pub ends : ends_in s xs ≡ []

-- a fault shows in them, with l bytes left from the bad one on
pub record Broken (s : Cutter) (xs : List ℕ) (f : RowFault) (l : ℕ) : Type 0 where
  pub shows : fault_kept (fault_number f) ≡ true
  pub state : fed s xs ≡ refused (Row f s.rows s.column (s.row + length xs - l))
  pub ends : ends_in s xs ≡ []

-- the field is whole and the reader leaves what comes after it; or it is cut off; or its fault shows
abbrev pub FieldFed : Cutter → List ℕ → Parsed Slot → Type 0
FieldFed s xs (got v rest) = Ended s xs rest
FieldFed s xs (fault f l) = ((f ≡ Cut) × (l ≡ 0) × Open s xs) ⊎ Broken s xs f l

pub field_fed : (s : Cutter) (xs : List ℕ) → Ready s → Bytes xs → s.bytes + length xs ≤ max_total → FieldFed s xs (field_in s xs)
field_fed s xs r bs l =
    go (walk_in s xs) (field_in s xs) (walk_fed xs s r.standing l)
    (subst (λ (spot : Spot). Alike (s.row + length xs) (walk sh o spot s.row xs) (field_in s xs)) (sym r.start) (field_walk sh o s.row xs bs))
  where
    sh : Shape
    sh = column_shape (column_in s)

    o : SortOptions
    o = (column_in s).options

    go : (w : Walk) (p : Parsed Slot) → After s xs w → Alike (s.row + length xs) w p → FieldFed s xs p
    go (still spot) (got v rest) h a = absurd a
    go (still spot) (fault f l) h a = inl (a.0, a.1, record { spot = spot; state = h.0; ends = h.1 })
    go (ended left) (got v rest) h a = subst (Ended s xs) a h
    go (ended left) (fault f l) h a = absurd a
    go (broken f place) (got v rest) h a = absurd a
    go (broken f place) (fault g l) h a = inr (record {
      shows = subst (λ (x : RowFault). fault_kept (fault_number x) ≡ true) a.0 a.2;
      state = h.0 ∙ ap₂ (λ (x : RowFault) (n : ℕ). refused (Row x s.rows s.column n)) a.0 a.1;
      ends = h.1;
    })
