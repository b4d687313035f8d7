-- The first k descriptions of a list that passes are a list that passes, and its columns are the first k. Assumes nothing.
use Prim.Native.Nat.{ℕ, zero, suc, ◌+◌, ◌-◌, ◌*◌, ◌≤◌}
use mathlib.Core.Path.{◌≡◌, refl, ap, ap₂, sym, subst, ◌∙◌}
use mathlib.Core.Bool.{Bool, true, false, cond}
use mathlib.Core.List.{List, [], ◌∷◌}
use native.Mathlib.Omega.{arith}
use lib.Dec.{ltb, eqb}
use lib.ListN.{length, get_or, take}
use lib.Seq.{get_or-take, length-take-le}
use borrow.Author.Tests.{lt-ltb, le-ltb, ltb-true, ne_eqb, eqb-true}
use Rattle.std.specs.declared.result.Result.TheVariants.{Ok}
use Rattle.format.specs.declared.Column.{Column}
use Rattle.format.specs.declared.Refusal.TheVariants.{ListCut}
use Rattle.format.specs.Limits.{max_columns}
use Rattle.format.specs.Check.{both, fail_if}
use Rattle.format.specs.Columns.{description_bytes, width_at, column_at, description_fault, list_fault_from, columns_from, spelled_fault, spelled_columns}
use Rattle.basics.proofs.Checks.{fail_if_pass, both_pass, pass_both}
use Rattle.laws.proofs.Columns.{bytes_wide, bytes_least, description_passed}
use Rattle.plates.specs.Prefix.{list_end, first_list}

-- ---- one description, within the first p bytes
module _ (s : List ℕ) (at p : ℕ) (whole : at + description_bytes (get_or s at 0) ≤ p) (there : p ≤ length s) where
  kind_same : get_or (take p s) at 0 ≡ get_or s at 0
  kind_same = get_or-take p s at 0 (omega (arith, (bytes_least (get_or s at 0)).0))

  options_same : get_or (take p s) (at + 1) 0 ≡ get_or s (at + 1) 0
  options_same = get_or-take p s (at + 1) 0 (omega (arith, (bytes_least (get_or s at 0)).0))

  width_same : width_at (take p s) at ≡ width_at s at
  width_same = ap (λ (b : ℕ). cond (eqb b 15) (get_or (take p s) (at + 2) 0 + 256 * get_or (take p s) (at + 3) 0) 0) kind_same ∙ go (eqb (get_or s at 0) 15) refl
    where
      go : (t : Bool) → eqb (get_or s at 0) 15 ≡ t
          → cond t (get_or (take p s) (at + 2) 0 + 256 * get_or (take p s) (at + 3) 0) 0 ≡ cond t (get_or s (at + 2) 0 + 256 * get_or s (at + 3) 0) 0
      go true e =
          let four = bytes_wide (get_or s at 0) (eqb-true (get_or s at 0) 15 e) in
          ap₂ (λ (a b : ℕ). a + 256 * b) (get_or-take p s (at + 2) 0 (omega arith)) (get_or-take p s (at + 3) 0 (omega arith))
      go false e = refl

  column_same : column_at (take p s) at ≡ column_at s at
  column_same = rw (width_same, kind_same, options_same)

  fault_same : description_fault s at ≡ Ok tt → description_fault (take p s) at ≡ Ok tt
  fault_same e = rw (width_same, kind_same, options_same, short) e
    where
      short : ltb (length (take p s) - at) (description_bytes (get_or s at 0)) ≡ ltb (length s - at) (description_bytes (get_or s at 0))
      short =
          le-ltb (length (take p s) - at) (description_bytes (get_or s at 0)) (omega (arith, length-take-le p s there))
          ∙ sym (le-ltb (length s - at) (description_bytes (get_or s at 0)) (omega arith))

-- ---- the descriptions from `at` on

-- the first k of them end within the list, and up to there are a list with the first k columns
record Front (room k : ℕ) (s : List ℕ) (at : ℕ) : Type 0 where
  after : at + k ≤ list_end k s at
  inside : list_end k s at ≤ length s
  passes : list_fault_from room (take (list_end k s at) s) at ≡ Ok tt
  first : columns_from room (take (list_end k s at) s) at ≡ take k (columns_from room s at)

-- where the bytes end at `at`, there is nothing more
ended : (s : List ℕ) (at : ℕ) → at ≤ length s → ltb at (length (take at s)) ≡ false
ended s at l = le-ltb at (length (take at s)) (omega (arith, length-take-le at s l))

front : (room k : ℕ) (s : List ℕ) (at : ℕ) → at ≤ length s → list_fault_from room s at ≡ Ok tt → k ≤ length (columns_from room s at) → Front room k s at
front zero zero s at l e few = record { after = omega arith; inside = l; passes = rw (ended s at l); first = refl }
front zero (suc k) s at l e few = absurd (omega arith)
front (suc room) zero s at l e few = record { after = omega arith; inside = l; passes = rw (ended s at l); first = rw (ended s at l) }
front (suc room) (suc k) s at l e few = go (ltb at (length s)) refl e few (front room k s next)
  where
    next : ℕ
    next = at + description_bytes (get_or s at 0)

    go : (t : Bool) → ltb at (length s) ≡ t → cond t (both (description_fault s at) (list_fault_from room s next)) (Ok tt) ≡ Ok tt
        → suc k ≤ length (cond t (column_at s at ∷ columns_from room s next) [])
        → (next ≤ length s → list_fault_from room s next ≡ Ok tt → k ≤ length (columns_from room s next) → Front room k s next) → Front (suc room) (suc k) s at
    go false q h m ih = absurd (omega arith)
    go true q h m ih =
        let d = both_pass (description_fault s at) _ h in
        let f = ih (omega (arith, (description_passed s at d.0).0, ltb-true at (length s) q)) d.1 (omega arith) in
        let p : ℕ = list_end k s next in
        let whole : next ≤ p = omega (arith, f.after) in
        let here : ltb at (length (take p s)) ≡ true
        = lt-ltb at (length (take p s)) (omega (arith, length-take-le p s f.inside, (bytes_least (get_or s at 0)).0)) in
        let kind = kind_same s at p whole f.inside in
        record {
          after = omega (arith, f.after, (bytes_least (get_or s at 0)).0);
          inside = f.inside;
          passes = rw here
              (pass_both (description_fault (take p s) at) _ (fault_same s at p whole f.inside d.0)
              (subst (λ (b : ℕ). list_fault_from room (take p s) (at + description_bytes b) ≡ Ok tt) (sym kind) f.passes));
          first = rw (here, q)
              (ap₂ {C = List Column} (λ c cs. c ∷ cs) (column_same s at p whole f.inside)
              (ap (λ (b : ℕ). columns_from room (take p s) (at + description_bytes b)) kind ∙ f.first));
        }

-- with room for any number of columns, so that nothing computes through all of them
first_within : (room : ℕ) (list : List ℕ) (k : ℕ) → fail_if (eqb (length list) 0) (ListCut 0) (list_fault_from room list 0) ≡ Ok tt → 1 ≤ k
    → k ≤ length (columns_from room list 0)
    → (fail_if (eqb (length (first_list k list)) 0) (ListCut 0) (list_fault_from room (first_list k list) 0) ≡ Ok tt)
    × (columns_from room (first_list k list) 0 ≡ take k (columns_from room list 0))
first_within room list zero e some few = absurd (omega arith)
first_within room list (suc k) e some few =
    let f = front room (suc k) list 0 (omega arith) (fail_if_pass (eqb (length list) 0) _ _ e).1 few in
    let p : ℕ = list_end (suc k) list 0 in
    let filled : eqb (length (take p list)) 0 ≡ false
    = ne_eqb (length (take p list)) 0 (λ z. omega (arith, z, length-take-le p list f.inside, f.after)) in
    (rw filled f.passes, f.first)

-- for every k from 1 to the column count
pub first_list_lem : (list : List ℕ) (k : ℕ) → spelled_fault list ≡ Ok tt → 1 ≤ k → k ≤ length (spelled_columns list)
    → (spelled_fault (first_list k list) ≡ Ok tt) × (spelled_columns (first_list k list) ≡ take k (spelled_columns list))
unfolding spelled_fault spelled_columns
first_list_lem list k e some few = first_within max_columns list k e some few
