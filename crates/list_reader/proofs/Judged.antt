-- Descriptions judged one after the other: k of them, number j is f j. What holds at the head of a turn, and what each way on from there
-- says of all of them. Assumes nothing.
use Prim.Native.Nat.{ℕ, zero, suc, ◌+◌, ◌-◌, ◌<◌, ◌≤◌}
use mathlib.Core.Path.{◌≡◌, refl, sym, ap, ◌∙◌}
use native.Mathlib.Numerals.{add-one}
use native.Mathlib.Omega.{arith}
use lib.ListN.{length}
use borrow.Author.Tests.{eq-eqb, ne_eqb}
use Rattle.format.specs.declared.Refusal.{Refusal}
use Rattle.format.specs.declared.Refusal.TheVariants.{ListCut, ManyColumns}
use Rattle.std.specs.declared.result.Result.TheVariants.{Ok, Err}
use Rattle.format.specs.Limits.{max_columns}
use Rattle.format.specs.Lists.{each}
use Rattle.format.specs.Described.{Description, held_fault, descriptions_fault_from, descriptions_fault}
use Rattle.basics.proofs.Append.{each_step, each_none}
use Rattle.basics.proofs.Lists.{length_each}

module _ (k : ℕ) (f : ℕ → Description) where
  -- i are judged, and there is room for so many more: what is wrong from here on is what is wrong with all of them
  pub record Judged (i : ℕ) : Type 0 where
    pub room : ℕ
    pub counts : i + room ≡ max_columns
    pub faults : descriptions_fault_from room i (each i (k - i) f) ≡ descriptions_fault_from max_columns 0 (each 0 k f)

  abbrev pub judged-begin : Judged 0
  judged-begin = record {
    room = max_columns;
    counts = refl;
    faults = ap (λ (m : ℕ). descriptions_fault_from max_columns 0 (each 0 m f)) {x = k - 0} {y = k} (omega arith);
  }

  -- none is lent
  pub judged_none : k ≡ 0 → descriptions_fault (each 0 k f) ≡ Err (ListCut 0)
  unfolding descriptions_fault
  judged_none e = rw (eq-eqb (length (each 0 k f)) 0 (length_each 0 k f ∙ e))

  -- some are
  all : 0 < k → descriptions_fault (each 0 k f) ≡ descriptions_fault_from max_columns 0 (each 0 k f)
  unfolding descriptions_fault
  all h = rw (ne_eqb (length (each 0 k f)) 0 (λ e. omega (arith, length_each 0 k f, e)))

  module _ (i : ℕ) (t : Judged i) where
    -- a 65th
    pub judged_full : i < k → i ≡ max_columns → descriptions_fault (each 0 k f) ≡ Err (ManyColumns i)
    judged_full h e =
        let none : t.room ≡ 0 = omega (arith, t.counts) in
        all (omega arith) ∙ sym t.faults ∙ rw (none, each_step f k i h) refl

    -- number i is refused
    pub judged_bad : (x : Refusal) → i < k → (i ≡ max_columns → ⊥) → held_fault i (f i) ≡ Err x → descriptions_fault (each 0 k f) ≡ Err x
    judged_bad x h left e = all (omega arith) ∙ sym t.faults ∙ step t.room t.counts
      where
        step : (room : ℕ) → i + room ≡ max_columns → descriptions_fault_from room i (each i (k - i) f) ≡ Err x
        step zero counts = absurd (left (omega arith))
        step (suc room) counts = rw (each_step f k i h, e) refl

    -- it passes
    pub judged_more : i < k → (i ≡ max_columns → ⊥) → held_fault i (f i) ≡ Ok tt → Judged (i + 1)
    judged_more h left e = step t.room t.counts t.faults
      where
        step : (room : ℕ) → i + room ≡ max_columns → descriptions_fault_from room i (each i (k - i) f) ≡ descriptions_fault_from max_columns 0 (each 0 k f) → Judged (i + 1)
        step zero counts faults = absurd (left (omega arith))
        step (suc room) counts faults = record {
          room = room;
          counts = omega arith;
          faults = rw (add-one i) (one ∙ faults);
        }
          where
            one : descriptions_fault_from room (suc i) (each (suc i) (k - suc i) f) ≡ descriptions_fault_from (suc room) i (each i (k - i) f)
            one = rw (each_step f k i h, e) refl

    -- all have passed
    pub judged_end : k ≤ i → 0 < k → descriptions_fault (each 0 k f) ≡ Ok tt
    judged_end h some = all some ∙ sym t.faults ∙ rw (each_none f k i h) refl
