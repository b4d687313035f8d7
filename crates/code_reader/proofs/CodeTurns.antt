-- The loop of `read_codes`: what holds at its head, and what each way out of a turn gives. Assumes nothing.
use Prim.Native.Nat.{ℕ, suc, ◌+◌, ◌-◌, ◌/◌, ◌<◌, ◌≤◌}
use mathlib.Core.Path.{◌≡◌, refl, sym, ap, ap₂, ◌∙◌}
use mathlib.Core.List.{List, [], ◌∷◌, ◌++◌, append-nil}
use native.Mathlib.Numerals.{add-one}
use native.Mathlib.Omega.{arith}
use lib.ListN.{length, set, replicate, length-append}
use lib.Seq.{set_at, append_snoc}
use Rattle.format.specs.declared.Column.{Column}
use Rattle.format.specs.declared.Refusal.{Refusal}
use Rattle.format.specs.declared.Refusal.TheVariants.{ListCut, ManyColumns}
use Rattle.std.specs.declared.result.Result.TheVariants.{Ok, Err}
use Rattle.format.specs.Limits.{max_columns}
use Rattle.format.specs.Lists.{each}
use Rattle.format.specs.Schemas.{no_column}
use Rattle.format.specs.Described.{code_at, column_of, held_fault, coded, columns}
use Rattle.basics.proofs.Append.{each_step, each_none}
use Rattle.basics.proofs.Lists.{map_each}
use Rattle.list_reader.specs.Listing.{ListedAs}
use Rattle.list_reader.proofs.Schemas.{refused, passed}
use Rattle.list_reader.proofs.Judged.{Judged, judged-begin, judged_none, judged_full, judged_bad, judged_more, judged_end}

module _ (s : List ℕ) where
  abbrev k : ℕ
  k = length s / 4

  -- so many are judged and read
  pub record Turn (array : List Column) (i : ℕ) : Type 0 where
    pub judged : Judged k (code_at s) i
    pub read : List Column
    pub long : length read ≡ i
    pub made : array ≡ read ++ replicate judged.room no_column
    pub says : read ++ each i (k - i) (λ j. column_of (code_at s j)) ≡ each 0 k (λ j. column_of (code_at s j))

  pub start : (none : Column) → none ≡ no_column → Turn (replicate max_columns none) 0
  start none e = record {
    judged = judged-begin k (code_at s);
    read = [];
    long = refl;
    made = ap (replicate max_columns) e;
    says = ap (λ (m : ℕ). each 0 m (λ j. column_of (code_at s j))) {x = k - 0} {y = k} (omega arith);
  }

  pub more : (array : List Column) (i : ℕ) (col : Column) → Turn array i → i < k → (i ≡ max_columns → ⊥) → held_fault i (code_at s i) ≡ Ok tt
      → col ≡ column_of (code_at s i) → Turn (set array i col) (i + 1)
  more array i col t h left e is =
      let next = judged_more k (code_at s) i t.judged h left e in
      let one : t.judged.room ≡ suc next.room = omega (arith, t.judged.counts, next.counts) in
      record {
        judged = next;
        read = t.read ++ (col ∷ []);
        long = simp length-append (omega (arith, t.long));
        made = ap (λ (l : List Column). set l i col) (t.made ∙ ap (λ (m : ℕ). t.read ++ replicate m no_column) one)
            ∙ set_at t.read no_column (replicate next.room no_column) col i t.long
            ∙ sym (append_snoc t.read col (replicate next.room no_column));
        says = append_snoc t.read col (each (i + 1) (k - (i + 1)) (λ j. column_of (code_at s j)))
            ∙ rw (is, add-one i, ← each_step (λ j. column_of (code_at s j)) k i h) t.says;
      }

  pub empty : k ≡ 0 → ListedAs (coded s) (Err (ListCut 0))
  empty e = refused (coded s) (ListCut 0) (judged_none k (code_at s) e)

  module _ (array : List Column) (i : ℕ) (t : Turn array i) where
    pub full : i < k → i ≡ max_columns → ListedAs (coded s) (Err (ManyColumns i))
    full h e = refused (coded s) (ManyColumns i) (judged_full k (code_at s) i t.judged h e)

    pub bad : (x : Refusal) → i < k → (i ≡ max_columns → ⊥) → held_fault i (code_at s i) ≡ Err x → ListedAs (coded s) (Err x)
    bad x h left e = refused (coded s) x (judged_bad k (code_at s) i t.judged x h left e)

    pub good : k ≤ i → 0 < k → (count : ℕ) → count ≡ i → ListedAs (coded s) (Ok (record { columns = array; count = count }))
    good h some count c =
        let whole : t.read ≡ columns (coded s) =
        sym (append-nil t.read) ∙ ap (λ (l : List Column). t.read ++ l) (sym (each_none (λ j. column_of (code_at s j)) k i h)) ∙ t.says
        ∙ sym (map_each column_of 0 k (code_at s)) in
        let left : t.judged.room ≡ max_columns - length (columns (coded s)) = omega (arith, t.judged.counts, t.long, ap length whole) in
        passed (coded s) array count (judged_end k (code_at s) i t.judged h some)
        (t.made ∙ ap₂ (λ (l : List Column) (m : ℕ). l ++ replicate m no_column) whole left) (c ∙ sym t.long ∙ ap length whole)
