-- What read_list is to write and answer. Assumes nothing.
use Prim.Native.Nat.{ℕ, ◌≤◌}
use mathlib.Core.Path.{◌≡◌, refl, sym, ap, ◌∙◌}
use mathlib.Core.List.{List, ◌++◌}
use native.Mathlib.Omega.{arith}
use lib.ListN.{length, take, drop}
use Rattle.format.specs.declared.Column.{Column}
use Rattle.format.specs.Limits.{max_columns}
use Rattle.format.specs.declared.Schema.{Schema}
use Rattle.format.specs.Schemas.{schema_of}
use Rattle.format.specs.declared.Refusal.{Refusal}
use Rattle.format.specs.declared.Refusal.TheVariants.{ColumnRoom}
use Rattle.std.specs.declared.result.Result.TheVariants.{Ok, Err}
use Rattle.format.specs.Columns.{spelled_fault, spelled_columns}
use Rattle.format.specs.Described.{spelled}
use Rattle.format.specs.Entries.{read_list_check, read_list_answer, read_list_columns}
use Rattle.format.specs.Promises.{ListRead}
use Rattle.basics.proofs.Checks.{given_ok, given_err, enough, both_pass}
use Rattle.list_reader.specs.Listing.{Listed, Sound}
use Rattle.list_reader.proofs.Schemas.{sound}
use Rattle.checks.specs.Begun.{ListedFor}

-- ---- what is answered and written
module _ (list : List ℕ) (lent : List Column) (r : Listed) (l : ListedFor list (length lent) r) where
  -- a refusal writes nothing
  pub none_filled : (x : Refusal) → r ≡ Err x → ListRead list lent (Err x) lent
  unfolding read_list_answer read_list_columns
  none_filled x e =
      let c : read_list_check list (length lent) ≡ Err x = given_err (read_list_check list (length lent)) _ (sym e ∙ l) in
      record { answers = rw c refl; descriptions = rw c refl }

  module _ (schema : Schema) (e : r ≡ Ok schema) where
    passes : (read_list_check list (length lent) ≡ Ok tt) × (schema ≡ schema_of (spelled_columns list))
    passes = given_ok (read_list_check list (length lent)) _ (sym e ∙ l)

    both_passed : (spelled_fault list ≡ Ok tt) × (length (spelled_columns list) ≤ length lent)
    unfolding read_list_check
    both_passed =
        let p = both_pass (spelled_fault list) _ passes.0 in
        (p.0, (enough (length lent) (length (spelled_columns list)) (ColumnRoom (length (spelled_columns list))) (Ok tt) p.1).0)

    is : Sound (spelled list) schema
    is = sound (spelled list) schema both_passed.0 passes.1

    -- as many are there, and have room
    pub room : schema.count ≤ length lent
    room = omega (arith, is.count, both_passed.1)

    pub few : schema.count ≤ max_columns
    few = is.limited.few

    pub there : length (take schema.count schema.columns) ≡ schema.count
    there = ap length is.cols ∙ sym is.count

    -- a success writes the columns
    pub all_filled : (lent' : List Column) → lent' ≡ take schema.count schema.columns ++ drop schema.count lent → ListRead list lent (Ok (schema.count, 0)) lent'
    unfolding read_list_answer read_list_columns
    all_filled lent' w = record {
      answers = rw (passes.0, is.count) refl;
      descriptions = w ∙ rw (passes.0, is.cols, is.count) refl;
    }
