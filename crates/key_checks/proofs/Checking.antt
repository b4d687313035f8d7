-- The checks of a look-up: the ways out of each. Assumes nothing.
use Prim.Native.Nat.{ℕ, zero, suc, ◌-◌, ◌<◌, ◌≤◌}
use mathlib.Core.Path.{◌≡◌, refl, ap, sym, ◌∙◌}
use mathlib.Core.List.{List, [], ◌∷◌}
use native.Mathlib.Nat.{sub-zero}
use native.Mathlib.Omega.{arith}
use lib.ListN.{length, take}
use lib.Seq.{take_all, take-take}
use borrow.Author.Tests.{lt-ltb, le-ltb, eq-eqb, ne_eqb}
use Rattle.format.specs.Check.{Check, both, verdict}
use Rattle.std.specs.declared.result.Result.TheVariants.{Ok, Err}
use Rattle.format.specs.declared.Column.{Column}
use Rattle.format.specs.declared.Refusal.{Refusal}
use Rattle.format.specs.declared.Refusal.TheVariants.{ManyRows, KeyColumns}
use Rattle.format.specs.declared.Schema.{Schema}
use Rattle.format.specs.Limits.{max_rows}
use Rattle.format.specs.Schemas.{Limited, cols_of}
use Rattle.format.specs.Passed.{Cuts, AllLie}
use Rattle.format.specs.Read.{row_fault, rows_fault}
use Rattle.format.specs.Entries.{cut_rows, offsets_fault}
use Rattle.format.specs.Batch.{order_fault, sorted_fault}
use Rattle.format.specs.Lookup.{key_columns_fault}
use Rattle.basics.proofs.Checks.{both_pass}
use Rattle.laws.proofs.Cuts.{offsets_passed}
use Rattle.laws.proofs.InUse.{Held, in_use}
use Rattle.checks.proofs.Begun.{both_grouped}
use Rattle.std.specs.declared.result.Result.{Result}
use Rattle.row_reader.specs.Walk.{Finds}
use Rattle.batch_reader.specs.Batch.{Checks}

-- ---- the key

-- a last check that passes
both_last : (x : Check) → both x (Ok tt) ≡ x
both_last (Ok tt) = refl
both_last (Err r) = refl

-- all of the key is the one row between 0 and its length
whole : (key : List ℕ) → take (length key - 0) key ≡ key
whole key = ap (λ (n : ℕ). take n key) (sub-zero (length key)) ∙ take_all (length key) key (omega arith)

module _ (schema : Schema) (held : Held schema) (limited : Limited schema) (k : ℕ) (key : List ℕ) where
  abbrev keyFault : Check
  keyFault = both (key_columns_fault k (cols_of schema)) (row_fault 0 (length key) 0 (take k (cols_of schema)) key)

  -- 31: k is 0
  pub no_columns : k ≡ 0 → Err (KeyColumns k) ≡ keyFault
  no_columns e = rw (eq-eqb k 0 e)

  module _ (some : k ≡ 0 → ⊥) where
    -- 31: k is past the columns
    pub past_columns : schema.count < k → Err (KeyColumns k) ≡ keyFault
    past_columns h = rw (ne_eqb k 0 some, in_use schema held limited.few, lt-ltb schema.count k h)

    module _ (h : k ≤ schema.count) where
      -- the first k columns
      abbrev first : Schema
      first = record { columns = schema.columns; count = k }

      pub first_limited : Limited first
      first_limited = record { few = omega (arith, limited.few); narrow = λ c l. limited.narrow c (omega arith) }

      pub key_lies : AllLie 1 key (0 ∷ length key ∷ [])
      key_lies zero l = record { there = omega arith; rises = omega arith; inside = omega arith }
      key_lies (suc r) l = absurd (omega arith)

      -- its fields are judged
      pub key_read : (x : Result ℕ Refusal) → Finds (cols_of first) (cut_rows 1 key (0 ∷ length key ∷ [])) x → verdict x ≡ keyFault
      key_read x f =
          f.check
          ∙ both_last (row_fault 0 (length (take (length key - 0) key)) 0 (take k schema.columns) (take (length key - 0) key))
          ∙ ap (λ (b : List ℕ). row_fault 0 (length b) 0 (take k schema.columns) b) (whole key)
          ∙ ap (λ (cols : List Column). row_fault 0 (length key) 0 cols key) (sym (take-take k schema.count schema.columns h))
          ∙ rw (ne_eqb k 0 some, in_use schema held limited.few, le-ltb schema.count k h) refl

-- ---- the batch
module _ (cols : List Column) (n : ℕ) (bytes offsets : List ℕ) where
  -- 6
  pub many : max_rows < n → Err (ManyRows n) ≡ sorted_fault cols n bytes offsets
  unfolding sorted_fault
  many h = rw (lt-ltb max_rows n h)

  module _ (h : n ≤ max_rows) (r : Result ℕ Refusal) (c : Checks n cols bytes offsets r) where
    abbrev rows : List (List ℕ)
    rows = cut_rows n bytes offsets

    grouped : sorted_fault cols n bytes offsets ≡ both (verdict r) (order_fault 0 rows)
    unfolding sorted_fault
    grouped = rw (le-ltb max_rows n h) (both_grouped (offsets_fault n bytes offsets) (rows_fault 0 cols rows) _ ∙ rw c.check)

    -- 14, 15, 12, row faults
    pub bad_rows : (x : Refusal) → r ≡ Err x → Err x ≡ sorted_fault cols n bytes offsets
    bad_rows x e = sym (grouped ∙ rw e)

    module _ (room : ℕ) (e : r ≡ Ok room) where
      pub cuts : Cuts n bytes offsets
      cuts = offsets_passed n bytes offsets (both_pass (offsets_fault n bytes offsets) _ (sym c.check ∙ ap verdict e)).0

      -- 26, or none of them
      pub by_order : (x : Check) → x ≡ order_fault 0 rows → x ≡ sorted_fault cols n bytes offsets
      by_order x q = q ∙ sym (grouped ∙ rw e)
