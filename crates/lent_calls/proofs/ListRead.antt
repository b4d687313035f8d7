-- What `list_codes` answers and leaves in the lent codes. Assumes nothing.
use Prim.Native.Nat.{ℕ, ◌*◌, ◌≤◌}
use mathlib.Core.Path.{◌≡◌, refl, sym, ◌∙◌}
use mathlib.Core.List.{List}
use native.Mathlib.Omega.{arith}
use lib.ListN.{length}
use Rattle.format.specs.declared.Refusal.{Refusal}
use Rattle.format.specs.declared.Refusal.TheVariants.{ColumnRoom}
use Rattle.std.specs.declared.result.Result.TheVariants.{Ok, Err}
use Rattle.format.specs.Columns.{spelled_fault, spelled_columns}
use Rattle.format.specs.Described.{spelled, codes}
use Rattle.format.specs.Lists.{over}
use Rattle.format.specs.Limits.{max_columns}
use Rattle.format.specs.declared.Schema.{Schema}
use Rattle.format.specs.Schemas.{cols_of, schema_of}
use Rattle.format.specs.Entries.{read_list_check, read_list_answer}
use Rattle.format.specs.Lent.{code_room}
use Rattle.basics.proofs.Checks.{given_ok, given_err, enough, both_pass}
use Rattle.list_reader.specs.Listing.{Listed, Sound}
use Rattle.list_reader.proofs.Schemas.{sound}
use Rattle.checks.specs.Begun.{ListedFor}
use Rattle.lent_calls.specs.Stored.{ReadCodes}

module _ (list lent : List ℕ) (r : Listed) (l : ListedFor list (code_room lent) r) where
  -- a refusal writes nothing
  pub no_codes : (x : Refusal) → r ≡ Err x → ReadCodes list lent (Err x) lent
  unfolding read_list_answer
  no_codes x e =
      let c : read_list_check list (code_room lent) ≡ Err x = given_err (read_list_check list (code_room lent)) _ (sym e ∙ l) in
      record { answers = rw c; written_codes = rw c }

  module _ (schema : Schema) (e : r ≡ Ok schema) where
    passes : (read_list_check list (code_room lent) ≡ Ok tt) × (schema ≡ schema_of (spelled_columns list))
    passes = given_ok (read_list_check list (code_room lent)) _ (sym e ∙ l)

    passed : (spelled_fault list ≡ Ok tt) × (length (spelled_columns list) ≤ code_room lent)
    unfolding read_list_check
    passed =
        let p = both_pass (spelled_fault list) _ passes.0 in
        (p.0, (enough (code_room lent) (length (spelled_columns list)) (ColumnRoom (length (spelled_columns list))) (Ok tt) p.1).0)

    is : Sound (spelled list) schema
    is = sound (spelled list) schema passed.0 passes.1

    -- what writing them asks
    pub roomy : (schema.count ≤ max_columns) × (4 * schema.count ≤ length lent)
    roomy = (is.limited.few, omega (arith, is.count, passed.1))

    -- a success writes the codes in front
    pub codes_written : (lent' : List ℕ) → lent' ≡ over (codes (cols_of schema)) lent → ReadCodes list lent (Ok (schema.count, 0)) lent'
    unfolding read_list_answer
    codes_written lent' w = record { answers = rw (passes.0, is.count) refl; written_codes = w ∙ rw (passes.0, is.cols) refl }
