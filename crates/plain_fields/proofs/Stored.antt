-- The lengths of plain fields, stored column by column. Assumes nothing.
use Prim.Native.Nat.{ℕ, ◌+◌, ◌<◌, ◌≤◌}
use mathlib.Core.Path.{◌≡◌, refl, sym, ◌∙◌, subst}
use mathlib.Core.Bool.{Bool, true, false}
use mathlib.Core.List.{List}
use native.Mathlib.Omega.{arith}
use lib.Dec.{eqb}
use lib.ListN.{length, get_or, set, length-set}
use lib.Seq.{get_or-set_same, get_or-set_other}
use borrow.Author.Tests.{eqb-true, eqb-false}
use Rattle.format.specs.declared.Column.{Column}
use Rattle.format.specs.Limits.{max_columns}
use Rattle.format.specs.Schemas.{no_column}
use Rattle.plain_fields.specs.Plain.{Lengthy}

-- those of the first c columns are
pub record Stored (columns : List Column) (lengths : List ℕ) (count c : ℕ) : Type 0 where
  pub within : c ≤ count
  pub room : length lengths ≡ max_columns
  pub says : (i : ℕ) → i < c → Lengthy (get_or columns i no_column) (get_or lengths i 0)

pub stored_more : {columns : List Column} {lengths : List ℕ} {count c : ℕ} → Stored columns lengths count c → c < count → c < max_columns
    → (len : ℕ) → Lengthy (get_or columns c no_column) len → Stored columns (set lengths c len) count (c + 1)
stored_more {columns} {lengths} {count} {c} t l few len h = record {
  within = omega arith;
  room = length-set lengths c len ∙ t.room;
  says = λ i k. go i k (eqb i c) refl;
}
  where
    go : (i : ℕ) → i < c + 1 → (b : Bool) → eqb i c ≡ b → Lengthy (get_or columns i no_column) (get_or (set lengths c len) i 0)
    go i k true e =
        let same = eqb-true i c e in
        subst (λ (j : ℕ). Lengthy (get_or columns j no_column) (get_or (set lengths c len) j 0)) (sym same)
        (subst (Lengthy (get_or columns c no_column)) (sym (get_or-set_same lengths c len 0 (omega (arith, t.room)))) h)
    go i k false e =
        let other = eqb-false i c e in
        subst (Lengthy (get_or columns i no_column)) (sym (get_or-set_other lengths c i len 0 other)) (t.says i (omega (arith, other)))
