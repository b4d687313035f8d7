-- A start keeps the rule on a row cutter's state, on a list fault too. Assumes nothing.
use Prim.Native.Nat.{ℕ, zero, suc, ◌+◌, ◌-◌, ◌*◌, ◌/◌, ◌%◌, ◌<◌, ◌≤◌}
use mathlib.Core.Path.{◌≡◌, refl, ap, subst, ◌∙◌}
use mathlib.Core.Bool.{Bool, true, false, cond, not, ◌&&◌, ◌||◌}
use mathlib.Core.List.{List, [], ◌∷◌, map}
use native.Mathlib.Nat.{div-eq_of_lt}
use native.Mathlib.Omega.{arith}
use lib.Dec.{ltb, leb, eqb}
use lib.ListN.{length, get_or, replicate, length-append, length-replicate}
use lib.Seq.{take-append_seam}
use borrow.Author.Tests.{ltb-true, eqb-true, eqb-false, lt-ltb, le-leb}
use Rattle.format.specs.declared.Column.{Column}
use Rattle.format.specs.declared.Refusal.{Refusal}
use Rattle.format.specs.declared.Refusal.TheVariants.{ListCut, UnknownKind, OptionBits, Width, ManyColumns}
use Rattle.format.specs.Check.{Check, both, fail_if}
use Rattle.std.specs.declared.result.Result.TheVariants.{Ok, Err}
use Rattle.format.specs.Limits.{max_columns, max_width}
use Rattle.format.specs.Kinds.{last_kind, shape, column_shape, value_bytes}
use Rattle.format.specs.Columns.{kind_of, most_options, most_width, numbers_fault, description_bytes, width_at, column_at, description_fault, list_fault_from, columns_from, spelled_fault, spelled_columns}
use Rattle.format.specs.Described.{Description, held, column_of, descriptions_in, held_fault, descriptions_fault_from, descriptions_fault, ColumnList, spelled, described, coded, list_fault, columns}
use Rattle.format.specs.Schemas.{no_column, schema_of, cols_of}
use Rattle.format.specs.Numbers.{refusal_numbers}
use Rattle.format.specs.CutterRule.{may_fold, columns_kept, fewest, most, over_all, numbers_kept, keeps}
use Rattle.format.specs.Cutter.{begun, started_with, start_state}
use Rattle.basics.proofs.Lists.{Every}
use Rattle.basics.proofs.Checks.{fail_if_pass, both_pass}
use Rattle.laws.proofs.Columns.{fine, Narrow, bytes_least}
use Rattle.laws.proofs.Described.{AllFine, all_fine, columns_again, columns_narrow, columns_few}
use Rattle.cutter_laws.specs.Calls.{Kept}
use Rattle.cutter_laws.proofs.RuleMoves.{and_true, true_and, or_true, true_within}

-- ---- the columns of a list that passes: only floats fold

abbrev Folds : Column → Type 0
Folds col = (not col.options.fold || may_fold (column_shape col)) ≡ true

-- kinds 10 to 12
float_kind : (b w : ℕ) → 9 < b → b < 13 → may_fold (shape (kind_of b w)) ≡ true
float_kind b w low high = go (eqb b 10) (eqb b 11) refl refl
  where
    of : (n : ℕ) → b ≡ n → may_fold (shape (kind_of n w)) ≡ true → may_fold (shape (kind_of b w)) ≡ true
    of n e h = ap (λ (k : ℕ). may_fold (shape (kind_of k w))) e ∙ h

    go : (s t : Bool) → eqb b 10 ≡ s → eqb b 11 ≡ t → may_fold (shape (kind_of b w)) ≡ true
    go true t p q = of 10 (eqb-true b 10 p) refl
    go false true p q = of 11 (eqb-true b 11 q) refl
    go false false p q = let m = eqb-false b 10 p in let n = eqb-false b 11 q in of 12 (omega arith) refl

-- option bit 3 passes in these alone
fold_bit : (b o w : ℕ) → o ≤ most_options b → (not (eqb (o / 8 % 2) 1) || may_fold (shape (kind_of b w))) ≡ true
fold_bit b o w l = go (ltb 9 b && ltb b 13) refl l
  where
    go : (t : Bool) → (ltb 9 b && ltb b 13) ≡ t → o ≤ cond {A = ℕ} t 15 7 → (not (eqb (o / 8 % 2) 1) || may_fold (shape (kind_of b w))) ≡ true
    go true q h =
        let p = and_true q in
        or_true (not (eqb (o / 8 % 2) 1)) (float_kind b w (ltb-true 9 b p.0) (ltb-true b 13 p.1))
    go false q h = rw (div-eq_of_lt {n = o} {m = 8} (omega arith)) refl

description_folds : (s : List ℕ) (at : ℕ) → description_fault s at ≡ Ok tt → Folds (column_at s at)
description_folds s at e =
    let f = fine at (get_or s at 0) (ltb (length s - at) (description_bytes (get_or s at 0))) (get_or s (at + 1) 0) (width_at s at) e in
    fold_bit (get_or s at 0) (get_or s (at + 1) 0) (width_at s at) f.options

folds_from : (room : ℕ) (s : List ℕ) (at : ℕ) → list_fault_from room s at ≡ Ok tt → Every Folds (columns_from room s at)
folds_from zero s at e = tt
folds_from (suc room) s at e = go (folds_from room s next) (ltb at (length s)) e
  where
    next : ℕ
    next = at + description_bytes (get_or s at 0)

    go : (list_fault_from room s next ≡ Ok tt → Every Folds (columns_from room s next)) → (t : Bool)
        → cond t (both (description_fault s at) (list_fault_from room s next)) (Ok tt) ≡ Ok tt
        → Every Folds (cond t (column_at s at ∷ columns_from room s next) [])
    go rest true e = let p = both_pass (description_fault s at) _ e in (description_folds s at p.0, rest p.1)
    go rest false e = tt

descriptions_fold : (ds : List Description) → AllFine ds → Every Folds (map column_of ds)
descriptions_fold [] h = tt
descriptions_fold (d ∷ ds) h = (fold_bit d.kind d.options d.width h.0.options, descriptions_fold ds h.1)

columns_fold : (list : ColumnList) → list_fault list ≡ Ok tt → Every Folds (columns list)
unfolding spelled_fault spelled_columns
columns_fold (spelled s) e = folds_from max_columns s 0 (fail_if_pass (eqb (length s) 0) _ _ e).1
columns_fold (described cols) e = subst (Every Folds) (columns_again cols) (descriptions_fold (map held cols) (all_fine (map held cols) e))
columns_fold (coded s) e = descriptions_fold (descriptions_in s) (all_fine (descriptions_in s) e)

columns_kept_lem : (cols : List Column) → Narrow cols → Every Folds cols → columns_kept cols ≡ true
columns_kept_lem [] n f = refl
columns_kept_lem (col ∷ cols) n f = true_and (true_and (le-leb (value_bytes col.kind) max_width n.0) f.0) (columns_kept_lem cols n.1 f.1)

-- ---- before the first byte

-- columns such as a list may have
begun_keeps : (cols : List Column) → 1 ≤ length cols → length cols ≤ max_columns → columns_kept cols ≡ true → Kept (begun cols)
unfolding keeps
begun_keeps cols some few kept = (
  length-append cols (replicate (max_columns - length cols) no_column) ∙ omega (arith, length-replicate {A = Column} (max_columns - length cols) no_column),
  true_and (true_and (true_and (true_and
      (true_and (le-leb (length cols) max_columns few) (ap columns_kept (take-append_seam cols (replicate (max_columns - length cols) no_column)) ∙ kept))
      (lt-ltb 0 (length cols) some)) refl) refl)
      (true_and refl (true_within (0 * over_all fewest (cols_of (schema_of cols))) (0 * over_all most (cols_of (schema_of cols))) 0 (omega arith) (omega arith))),
)

-- ---- a list fault

-- a check that refuses for nothing but what a state may hold
abbrev allows : Check → Bool
allows (Ok tt) = true
allows (Err r) = numbers_kept (refusal_numbers r)

allows_fail : (b : Bool) (r : Refusal) (x : Check) → numbers_kept (refusal_numbers r) ≡ true → allows x ≡ true → allows (fail_if b r x) ≡ true
allows_fail true r x p q = p
allows_fail false r x p q = q

allows_both : (x y : Check) → allows x ≡ true → allows y ≡ true → allows (both x y) ≡ true
allows_both (Ok tt) y p q = q
allows_both (Err r) y p q = p

-- a place that a column may have
module _ (place : ℕ) (l : place ≤ 4 * max_columns) where
  here : leb place (4 * max_columns) ≡ true
  here = le-leb place (4 * max_columns) l

  list_cut : numbers_kept (refusal_numbers (ListCut place)) ≡ true
  list_cut = rw here

  unknown_kind : numbers_kept (refusal_numbers (UnknownKind place)) ≡ true
  unknown_kind = rw here

  option_bits : numbers_kept (refusal_numbers (OptionBits place)) ≡ true
  option_bits = rw here

  too_wide : numbers_kept (refusal_numbers (Width place)) ≡ true
  too_wide = rw here

  many_columns : numbers_kept (refusal_numbers (ManyColumns place)) ≡ true
  many_columns = rw here

numbers_allow : (place b : ℕ) (cut : Bool) (o w : ℕ) → place ≤ 4 * max_columns → allows (numbers_fault place b cut o w) ≡ true
numbers_allow place b cut o w l =
    allows_fail (ltb b 1 || ltb last_kind b) _ _ (unknown_kind place l)
    (allows_fail cut _ _ (list_cut place l)
    (allows_fail (ltb (most_options b) o) _ _ (option_bits place l)
    (allows_fail (ltb (most_width b) w) _ _ (too_wide place l) refl)))

list_allows_from : (room : ℕ) (s : List ℕ) (at : ℕ) → at + 4 * room ≤ 4 * max_columns → allows (list_fault_from room s at) ≡ true
list_allows_from zero s at l = allows_fail (ltb at (length s)) _ _ (many_columns at (omega arith)) refl
list_allows_from (suc room) s at l =
    go (ltb at (length s)) (list_allows_from room s (at + description_bytes (get_or s at 0)) (omega (arith, (bytes_least (get_or s at 0)).1)))
  where
    go : (t : Bool) → allows (list_fault_from room s (at + description_bytes (get_or s at 0))) ≡ true
        → allows (cond t (both (description_fault s at) (list_fault_from room s (at + description_bytes (get_or s at 0)))) (Ok tt)) ≡ true
    go true ih =
        allows_both (description_fault s at) _
        (numbers_allow at (get_or s at 0) (ltb (length s - at) (description_bytes (get_or s at 0))) (get_or s (at + 1) 0) (width_at s at) (omega arith)) ih
    go false ih = refl

descriptions_allow_from : (room i : ℕ) (ds : List Description) → i + room ≤ max_columns → allows (descriptions_fault_from room i ds) ≡ true
descriptions_allow_from room i [] l = refl
descriptions_allow_from zero i (d ∷ ds) l = many_columns i (omega arith)
descriptions_allow_from (suc room) i (d ∷ ds) l =
    allows_both (held_fault i d) _ (numbers_allow i d.kind false d.options d.width (omega arith))
    (descriptions_allow_from room (suc i) ds (omega arith))

descriptions_allow : (ds : List Description) → allows (descriptions_fault ds) ≡ true
unfolding descriptions_fault
descriptions_allow ds = allows_fail (eqb (length ds) 0) _ _ (list_cut 0 (omega arith)) (descriptions_allow_from max_columns 0 ds (omega arith))

list_allows : (list : ColumnList) → allows (list_fault list) ≡ true
unfolding spelled_fault
list_allows (spelled s) = allows_fail (eqb (length s) 0) _ _ (list_cut 0 (omega arith)) (list_allows_from max_columns s 0 (omega arith))
list_allows (described cols) = descriptions_allow (map held cols)
list_allows (coded s) = descriptions_allow (descriptions_in s)

-- ---- a start

-- from what the list check says: columns such as a list may have, or a list fault
started_keeps : (c : Check) (cols : List Column) → (c ≡ Ok tt → Kept (begun cols)) → allows c ≡ true → Kept (started_with c cols)
unfolding keeps
started_keeps (Ok tt) cols p a = p refl
started_keeps (Err r) cols p a = (refl, a)

pub start_keeps : (list : ColumnList) → Kept (start_state list)
unfolding start_state
start_keeps list =
    started_keeps (list_fault list) (columns list)
    (λ e.
    let few = columns_few list e in
    begun_keeps (columns list) few.0 few.1 (columns_kept_lem (columns list) (columns_narrow list e) (columns_fold list e)))
    (list_allows list)
