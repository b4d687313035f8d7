-- The ways out of `look_up_listed`: what each answers. Assumes nothing.
use Prim.Native.Nat.{ℕ}
use mathlib.Core.Path.{◌≡◌, refl, sym, ◌∙◌}
use mathlib.Core.List.{List}
use lib.ListN.{length, take}
use Rattle.format.specs.Check.{Check, both}
use Rattle.std.specs.declared.result.Result.TheVariants.{Ok, Err}
use Rattle.format.specs.declared.Refusal.{Refusal}
use Rattle.format.specs.declared.Refusal.TheVariants.{ManyRows}
use Rattle.format.specs.declared.Schema.{Schema}
use Rattle.format.specs.Limits.{max_rows}
use Rattle.format.specs.Described.{ColumnList, list_fault, columns}
use Rattle.format.specs.Schemas.{Limited, cols_of}
use Rattle.format.specs.Read.{row_fault, rows_fault}
use Rattle.format.specs.Entries.{row_count_fault, offsets_fault, cut_rows}
use Rattle.format.specs.Batch.{sorted_fault}
use Rattle.format.specs.Lookup.{key_columns_fault, lookup_check, lookup_answer}
use Rattle.format.specs.Promises.{LookedUp}
use Rattle.basics.proofs.Checks.{both_pass, enough}
use Rattle.laws.proofs.Cuts.{offsets_passed}
use Rattle.list_reader.specs.Listing.{Listed, ListedAs, Sound}
use Rattle.list_reader.proofs.Schemas.{list_refused, list_passed, list_sound}
use Rattle.checks.proofs.Begun.{both_grouped}
use Rattle.joiner.specs.Rows.{Sorted}
use Rattle.halves.specs.declared.Found.{Found}
use Rattle.halves.specs.Turns.{Finds}

-- a batch of which nothing is refused is sorted
pub sorted_passed : (schema : Schema) (n : ℕ) (rows offsets : List ℕ) → sorted_fault (cols_of schema) n rows offsets ≡ Ok tt → Sorted 0 n rows offsets
unfolding sorted_fault
sorted_passed schema n rows offsets e =
    let s = both_pass (row_count_fault n) _ e in
    let t = both_pass (offsets_fault n rows offsets) _ s.1 in
    let u = both_pass (rows_fault 0 (cols_of schema) (cut_rows n rows offsets)) _ t.1 in
    record { few = (enough max_rows n (ManyRows n) (Ok tt) s.0).0; cuts = offsets_passed n rows offsets t.0; rises = u.1 }

module _ (list : ColumnList) (k : ℕ) (key : List ℕ) (n : ℕ) (rows offsets : List ℕ) (b : Listed) (l : ListedAs list b) where
  refused : (x : Refusal) → lookup_check list k key n rows offsets ≡ Err x → LookedUp list k key n rows offsets (Err x)
  unfolding lookup_answer
  refused x e = record { answers = rw e }

  -- list
  pub bad_list : (x : Refusal) → b ≡ Err x → LookedUp list k key n rows offsets (Err x)
  unfolding lookup_check
  bad_list x e = refused x (rw (list_refused list b x l e))

  module _ (schema : Schema) (e : b ≡ Ok schema) where
    passes : list_fault list ≡ Ok tt
    passes = (list_passed list b schema l e).0

    says : Sound list schema
    says = list_sound list b schema l e

    pub limited : Limited schema
    limited = says.limited

    module _ (c : Check) (judged : c ≡ both (key_columns_fault k (cols_of schema)) (row_fault 0 (length key) 0 (take k (cols_of schema)) key)) where
      keyed : both (key_columns_fault k (columns list)) (row_fault 0 (length key) 0 (take k (columns list)) key) ≡ c
      keyed = rw (← says.cols) (sym judged)

      grouped : lookup_check list k key n rows offsets ≡ both c (sorted_fault (columns list) n rows offsets)
      unfolding lookup_check
      grouped = rw passes (both_grouped (key_columns_fault k (columns list)) (row_fault 0 (length key) 0 (take k (columns list)) key) _ ∙ rw keyed)

      -- 31, or the key
      pub bad_key : (x : Refusal) → c ≡ Err x → LookedUp list k key n rows offsets (Err x)
      bad_key x f = refused x (grouped ∙ rw f)

      module _ (f : c ≡ Ok tt) (d : Check) (ordered : d ≡ sorted_fault (cols_of schema) n rows offsets) where
        decided : lookup_check list k key n rows offsets ≡ d
        decided = grouped ∙ rw (f, ← says.cols) (sym ordered)

        -- 6, 14, 15, 12, row faults, 26
        pub bad_batch : (x : Refusal) → d ≡ Err x → LookedUp list k key n rows offsets (Err x)
        bad_batch x g = refused x (decided ∙ g)

        -- none of them
        pub looked_up : d ≡ Ok tt → (r : Found) → Finds key (cut_rows n rows offsets) r → LookedUp list k key n rows offsets (Ok (r.first, r.past))
        unfolding lookup_answer
        looked_up g r finds = record { answers = rw (decided, g, finds.first, finds.past) refl }
