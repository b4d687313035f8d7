-- Descriptions that have list bytes are refused as these are: by the same number, with the index of the description in place of its place
-- in the list. Assumes nothing.
use Prim.Native.Nat.{ℕ, zero, suc, ◌+◌, ◌-◌}
use mathlib.Core.Path.{◌≡◌, refl, ap, sym, subst, ◌∙◌}
use mathlib.Core.Bool.{Bool, true, false, cond, ◌||◌}
use mathlib.Core.List.{List, [], ◌∷◌}
use native.Mathlib.Omega.{arith}
use native.Mathlib.Nat.{add-zero, zero-add}
use lib.Dec.{ltb, eqb}
use lib.ListN.{length, get_or, take, drop, length-append, length-drop}
use borrow.Author.Tests.{le-ltb, lt-ltb, ne_eqb}
use Rattle.format.specs.Check.{Check, both, fail_if}
use Rattle.std.specs.declared.result.Result.TheVariants.{Ok, Err}
use Rattle.format.specs.declared.Refusal.{Refusal}
use Rattle.format.specs.declared.Refusal.TheVariants.{ListCut, UnknownKind, OptionBits, Width, ManyColumns}
use Rattle.format.specs.declared.Returned.{Returned}
use Rattle.format.specs.Limits.{max_columns}
use Rattle.format.specs.Kinds.{last_kind}
use Rattle.format.specs.Columns.{most_options, most_width, description_bytes, description_fault, list_fault_from, spelled_fault}
use Rattle.format.specs.Described.{Description, held_fault, descriptions_fault_from, descriptions_fault}
use Rattle.format.specs.Numbers.{three, refusal_numbers}
use Rattle.basics.proofs.Lists.{Every}
use Rattle.basics.proofs.Checks.{refuse_pass}
use Rattle.readings.specs.Readings.{Spellable, spell, spell_all, refused_with, RefusedAlike}
use Rattle.readings.proofs.Spelled.{long, kind_at, fault_is, next_is, begins}

-- two checks, of descriptions from index i on and of a list from `at` on: both pass, or both refuse by one number, the first with the index
-- and the second with the place of description j
pub data Faults (i at : ℕ) (ds : List Description) : Check → Check → Type 0 where
  none : Faults i at ds (Ok tt) (Ok tt)
  one : (j k : ℕ) (x y : Refusal) → refusal_numbers x ≡ three k (i + j) 0 → refusal_numbers y ≡ three k (at + length (spell_all (take j ds))) 0
      → Faults i at ds (Err x) (Err y)

-- ---- one description
module _ (i at : ℕ) (ds : List Description) where
  first : (k : ℕ) (x y : Refusal) → refusal_numbers x ≡ three k i 0 → refusal_numbers y ≡ three k at 0 → Faults i at ds (Err x) (Err y)
  first k x y p q =
      one 0 k x y (p ∙ ap (λ (n : ℕ). three k n 0) (sym (add-zero i))) (q ∙ ap (λ (n : ℕ). three k n 0) (sym (add-zero at)))

  either : (t : Bool) (k : ℕ) (x y : Refusal) (c d : Check) → refusal_numbers x ≡ three k i 0 → refusal_numbers y ≡ three k at 0 → Faults i at ds c d
      → Faults i at ds (fail_if t x c) (fail_if t y d)
  either true k x y c d p q r = first k x y p q
  either false k x y c d p q r = r

  numbers_alike : (d : Description) → Faults i at ds (held_fault i d) (held_fault at d)
  numbers_alike d =
      either (ltb d.kind 1 || ltb last_kind d.kind) 2 (UnknownKind i) (UnknownKind at) _ _ refl refl
      (either (ltb (most_options d.kind) d.options) 3 (OptionBits i) (OptionBits at) _ _ refl refl
      (either (ltb (most_width d.kind) d.width) 4 (Width i) (Width at) _ _ refl refl none))

-- ---- one, and then the others
later : (i at : ℕ) (d : Description) (ds : List Description) {c e : Check} → Faults (suc i) (at + description_bytes d.kind) ds c e → Faults i at (d ∷ ds) c e
later i at d ds none = none
later i at d ds (one j k x y p q) =
    one (suc j) k x y
    (p ∙ ap (λ (n : ℕ). three k n 0) {x = suc i + j} {y = i + suc j} (omega arith))
    (q ∙ ap (λ (n : ℕ). three k n 0) (omega (arith, long d, length-append (spell d) (spell_all (take j ds)))))

both_alike : (i at : ℕ) (ds : List Description) {c e c' e' : Check} → Faults i at ds c e → Faults i at ds c' e' → Faults i at ds (both c c') (both e e')
both_alike i at ds none g = g
both_alike i at ds (one j k x y p q) g = one j k x y p q

pub faults_from : (room i at : ℕ) (s : List ℕ) (ds : List Description) → Every Spellable ds → drop at s ≡ spell_all ds
    → Faults i at ds (descriptions_fault_from room i ds) (list_fault_from room s at)
faults_from room i at s [] h e = subst (Faults i at [] (Ok tt)) (sym (go room (le-ltb at (length s) (omega (arith, sym (length-drop at s) ∙ ap length e))))) none
  where
    go : (room : ℕ) → ltb at (length s) ≡ false → list_fault_from room s at ≡ Ok tt
    go zero q = rw q
    go (suc room) q = rw q
faults_from zero i at s (d ∷ ds) h e =
    subst (λ (t : Bool). Faults i at (d ∷ ds) (Err (ManyColumns i)) (fail_if t (ManyColumns at) (Ok tt)))
    (sym (lt-ltb at (length s) (begins s at d (spell_all ds) e h.0)))
    (first i at (d ∷ ds) 5 (ManyColumns i) (ManyColumns at) refl refl)
faults_from (suc room) i at s (d ∷ ds) h e =
    let rest : Faults (suc i) (at + description_bytes d.kind) ds (descriptions_fault_from room (suc i) ds) (list_fault_from room s next)
    = subst (λ (b : ℕ). Faults (suc i) (at + description_bytes b) ds (descriptions_fault_from room (suc i) ds) (list_fault_from room s next))
    (kind_at s at d (spell_all ds) e h.0)
    (faults_from room (suc i) next s ds h.1 (next_is s at d (spell_all ds) e h.0)) in
    subst (λ (t : Bool). Faults i at (d ∷ ds) (both (held_fault i d) (descriptions_fault_from room (suc i) ds)) (cond t bytes (Ok tt)))
    (sym (lt-ltb at (length s) (begins s at d (spell_all ds) e h.0)))
    (both_alike i at (d ∷ ds)
    (subst (Faults i at (d ∷ ds) (held_fault i d)) (sym (fault_is s at d (spell_all ds) e h.0)) (numbers_alike i at (d ∷ ds) d))
    (later i at d ds rest))
  where
    next : ℕ
    next = at + description_bytes (get_or s at 0)

    bytes : Check
    bytes = both (description_fault s at) (list_fault_from room s next)

pub same_pass : (i at : ℕ) (ds : List Description) {c e : Check} → Faults i at ds c e → c ≡ Ok tt → e ≡ Ok tt
same_pass i at ds none h = refl
same_pass i at ds (one j k x y p q) h = absurd (refuse_pass h)

-- ---- from the first on

same_numbers : (ds : List Description) {c e : Check} → Faults 0 0 ds c e
    → ((refused_with c).0 ≡ (refused_with e).0) × ((refused_with e).1 ≡ length (spell_all (take (refused_with c).1 ds)))
same_numbers ds none = (refl, refl)
same_numbers ds (one j k x y p q) = (
  ap (λ (n : Returned). n.0) p ∙ sym (ap (λ (n : Returned). n.0) q),
  ap (λ (n : Returned). n.1) q
      ∙ zero-add (length (spell_all (take j ds)))
      ∙ ap (λ (n : ℕ). length (spell_all (take n ds))) {x = j} {y = (refusal_numbers x).1} (omega (arith, ap (λ (n : Returned). n.1) p)),
)

-- with room for any number of columns, so that nothing computes through all of them
faults_within : (room : ℕ) (ds : List Description) → Every Spellable ds
    → Faults 0 0 ds (fail_if (eqb (length ds) 0) (ListCut 0) (descriptions_fault_from room 0 ds))
    (fail_if (eqb (length (spell_all ds)) 0) (ListCut 0) (list_fault_from room (spell_all ds) 0))
faults_within room [] h = one 0 1 (ListCut 0) (ListCut 0) refl refl
faults_within room (d ∷ ds) h =
    subst (λ (t : Bool). Faults 0 0 (d ∷ ds) (fail_if t (ListCut 0) own) (fail_if (eqb (length s) 0) (ListCut 0) bytes))
    (sym (ne_eqb (length (d ∷ ds)) 0 (λ z. omega arith)))
    (subst (λ (t : Bool). Faults 0 0 (d ∷ ds) own (fail_if t (ListCut 0) bytes)) (sym (ne_eqb (length s) 0 (λ z. omega arith)))
    (faults_from room 0 0 s (d ∷ ds) h refl))
  where
    s : List ℕ
    s = spell_all (d ∷ ds)

    own : Check
    own = descriptions_fault_from room 0 (d ∷ ds)

    bytes : Check
    bytes = list_fault_from room s 0

pub faults : (ds : List Description) → Every Spellable ds → Faults 0 0 ds (descriptions_fault ds) (spelled_fault (spell_all ds))
unfolding descriptions_fault spelled_fault
faults ds h = faults_within max_columns ds h

pub refused_alike : (ds : List Description) → Every Spellable ds → RefusedAlike ds
refused_alike ds h = let p = same_numbers ds (faults ds h) in record { number = p.0; place = p.1 }
