-- The loop of `judge`: what holds at its head, and what each way out of a turn gives. Assumes nothing.
use Prim.Native.Nat.{ℕ, suc, ◌+◌, ◌-◌, ◌<◌, ◌≤◌}
use mathlib.Core.Path.{◌≡◌, refl, sym, ap, ap₂, ◌∙◌}
use mathlib.Core.List.{List, ◌++◌}
use native.Mathlib.Numerals.{add-one}
use native.Mathlib.Omega.{arith}
use lib.ListN.{length, get_or, take, set, replicate}
use lib.Seq.{set_at, append_snoc, take-suc, take_all, length-take-le}
use Rattle.format.specs.declared.Column.{Column}
use Rattle.format.specs.declared.Refusal.{Refusal}
use Rattle.format.specs.declared.Refusal.TheVariants.{ListCut, ManyColumns}
use Rattle.format.specs.Check.{Check}
use Rattle.std.specs.declared.result.Result.TheVariants.{Ok, Err}
use Rattle.format.specs.Limits.{max_columns}
use Rattle.format.specs.Lists.{each}
use Rattle.format.specs.Schemas.{no_column}
use Rattle.format.specs.Described.{Description, held, held_fault, descriptions_fault, described, list_fault}
use Rattle.basics.proofs.Lists.{map_is}
use Rattle.list_reader.specs.Listing.{ListedAs}
use Rattle.list_reader.proofs.Schemas.{refused, passed}
use Rattle.list_reader.proofs.Judged.{Judged, judged-begin, judged_none, judged_full, judged_bad, judged_more, judged_end}

module _ (cols : List Column) where
  abbrev at : ℕ → Description
  at j = held (get_or cols j no_column)

  -- as definitions have their faults
  faults : (x : Check) → descriptions_fault (each 0 (length cols) at) ≡ x → list_fault (described cols) ≡ x
  faults x e = ap descriptions_fault (map_is held cols no_column) ∙ e

  -- so many are judged and copied
  pub record Turn (array : List Column) (i : ℕ) : Type 0 where
    pub judged : Judged (length cols) at i
    pub most : i ≤ length cols
    pub made : array ≡ take i cols ++ replicate judged.room no_column

  pub start : (none : Column) → none ≡ no_column → Turn (replicate max_columns none) 0
  start none e = record { judged = judged-begin (length cols) at; most = omega arith; made = ap (replicate max_columns) e }

  pub more : (array : List Column) (i : ℕ) → Turn array i → i < length cols → (i ≡ max_columns → ⊥) → held_fault i (at i) ≡ Ok tt
      → Turn (set array i (get_or cols i no_column)) (i + 1)
  more array i t h left e =
      let col = get_or cols i no_column in
      let next = judged_more (length cols) at i t.judged h left e in
      let one : t.judged.room ≡ suc next.room = omega (arith, t.judged.counts, next.counts) in
      record {
        judged = next;
        most = omega arith;
        made = ap (λ (l : List Column). set l i col) (t.made ∙ ap (λ (m : ℕ). take i cols ++ replicate m no_column) one)
            ∙ set_at (take i cols) no_column (replicate next.room no_column) col i (length-take-le i cols t.most)
            ∙ sym (append_snoc (take i cols) col (replicate next.room no_column))
            ∙ ap (λ (l : List Column). l ++ replicate next.room no_column) (sym (rw (add-one i) (take-suc cols i no_column h)));
      }

  pub empty : length cols ≡ 0 → ListedAs (described cols) (Err (ListCut 0))
  empty e = refused (described cols) (ListCut 0) (faults _ (judged_none (length cols) at e))

  module _ (array : List Column) (i : ℕ) (t : Turn array i) where
    pub full : i < length cols → i ≡ max_columns → ListedAs (described cols) (Err (ManyColumns i))
    full h e = refused (described cols) (ManyColumns i) (faults _ (judged_full (length cols) at i t.judged h e))

    pub bad : (x : Refusal) → i < length cols → (i ≡ max_columns → ⊥) → held_fault i (at i) ≡ Err x → ListedAs (described cols) (Err x)
    bad x h left e = refused (described cols) x (faults _ (judged_bad (length cols) at i t.judged x h left e))

    pub good : length cols ≤ i → 0 < length cols → ListedAs (described cols) (Ok (record { columns = array; count = length cols }))
    good h some =
        let left : t.judged.room ≡ max_columns - length cols = omega (arith, t.judged.counts, t.most) in
        passed (described cols) array (length cols) (faults _ (judged_end (length cols) at i t.judged h some))
        (t.made ∙ ap₂ (λ (l : List Column) (m : ℕ). l ++ replicate m no_column) (take_all i cols h) left) refl
