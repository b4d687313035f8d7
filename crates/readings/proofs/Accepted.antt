-- What was read is accepted: the descriptions of a list that passes pass. Assumes nothing.
use Prim.Native.Nat.{ℕ, zero, suc, ◌+◌, ◌-◌, ◌≤◌}
use mathlib.Core.Path.{◌≡◌, refl, ap, subst, ◌∙◌}
use mathlib.Core.Bool.{Bool, true, false, cond}
use mathlib.Core.List.{List, [], ◌∷◌, map}
use native.Mathlib.Omega.{arith}
use lib.Dec.{ltb, eqb}
use lib.ListN.{length, get_or, length-map}
use borrow.Author.Tests.{ne_eqb}
use Rattle.std.specs.declared.result.Result.TheVariants.{Ok}
use Rattle.format.specs.declared.Refusal.TheVariants.{ListCut}
use Rattle.format.specs.Limits.{max_columns}
use Rattle.format.specs.Check.{both, fail_if}
use Rattle.format.specs.Columns.{description_bytes, width_at, column_at, description_fault, list_fault_from, columns_from, spelled_fault, spelled_columns}
use Rattle.format.specs.Described.{Description, held, held_fault, descriptions_fault_from, descriptions_fault}
use Rattle.basics.proofs.Checks.{fail_if_pass, both_pass, pass_both}
use Rattle.laws.proofs.Columns.{Fine, fine, fine_pass, spelled_few}
use Rattle.readings.proofs.Back.{held_back}

-- the description at a place, by its numbers
abbrev numbers_at : List ℕ → ℕ → Description
numbers_at s at = record { kind = get_or s at 0; options = get_or s (at + 1) 0; width = width_at s at }

held_pass : (s : List ℕ) (at i : ℕ) → description_fault s at ≡ Ok tt → held_fault i (held (column_at s at)) ≡ Ok tt
held_pass s at i e =
    let d : Description = numbers_at s at in
    let f = fine at d.kind (ltb (length s - at) (description_bytes d.kind)) d.options d.width e in
    let g : Fine d.kind false d.options d.width = subst (λ (t : Bool). Fine d.kind t d.options d.width) f.whole f in
    ap (held_fault i) (held_back d g) ∙ fine_pass i d.kind false d.options d.width g

-- from any place and index on
from_pass : (room : ℕ) (s : List ℕ) (at i : ℕ) → list_fault_from room s at ≡ Ok tt → descriptions_fault_from room i (map held (columns_from room s at)) ≡ Ok tt
from_pass zero s at i e = refl
from_pass (suc room) s at i e = go (ltb at (length s)) e (from_pass room s next (suc i))
  where
    next : ℕ
    next = at + description_bytes (get_or s at 0)

    go : (t : Bool) → cond t (both (description_fault s at) (list_fault_from room s next)) (Ok tt) ≡ Ok tt
        → (list_fault_from room s next ≡ Ok tt → descriptions_fault_from room (suc i) (map held (columns_from room s next)) ≡ Ok tt)
        → descriptions_fault_from (suc room) i (map held (cond t (column_at s at ∷ columns_from room s next) [])) ≡ Ok tt
    go true e ih = let p = both_pass (description_fault s at) _ e in pass_both (held_fault i (held (column_at s at))) _ (held_pass s at i p.0) (ih p.1)
    go false e ih = refl

-- descriptions of which there is one pass as those from index 0 on do
filled_pass : (ds : List Description) → 1 ≤ length ds → descriptions_fault_from max_columns 0 ds ≡ Ok tt → descriptions_fault ds ≡ Ok tt
unfolding descriptions_fault
filled_pass ds l e =
    ap (λ (t : Bool). fail_if t (ListCut 0) (descriptions_fault_from max_columns 0 ds)) (ne_eqb (length ds) 0 (λ z. omega arith)) ∙ e

read_from : (s : List ℕ) → spelled_fault s ≡ Ok tt → descriptions_fault_from max_columns 0 (map held (spelled_columns s)) ≡ Ok tt
unfolding spelled_fault spelled_columns
read_from s e = from_pass max_columns s 0 0 (fail_if_pass (eqb (length s) 0) _ _ e).1

pub read_accepted : (s : List ℕ) → spelled_fault s ≡ Ok tt → descriptions_fault (map held (spelled_columns s)) ≡ Ok tt
read_accepted s e =
    filled_pass (map held (spelled_columns s)) (omega (arith, length-map (spelled_columns s) held, (spelled_few s e).0)) (read_from s e)
