-- What reading a list of any case ends in; and for whoever goes on to `check_sheet`: what reading ensures of a list that passes meets
-- what that requires. Assumes nothing.
use Prim.Native.Nat.{ℕ, ◌-◌, ◌≤◌}
use mathlib.Core.Path.{◌≡◌, sym, ap, ap₂, subst, ◌∙◌}
use mathlib.Core.List.{List}
use lib.ListN.{length, replicate, get_or-append}
use lib.Seq.{take-append_seam}
use Rattle.format.specs.declared.Column.{Column}
use Rattle.format.specs.declared.Schema.{Schema}
use Rattle.format.specs.declared.Refusal.{Refusal}
use Rattle.std.specs.declared.result.Result.TheVariants.{Ok, Err}
use Rattle.format.specs.Limits.{max_columns, max_width}
use Rattle.format.specs.Described.{ColumnList, list_fault, columns}
use Rattle.format.specs.Kinds.{value_bytes}
use Rattle.basics.proofs.Checks.{given_ok, given_err}
use Rattle.basics.proofs.Lists.{every_at}
use Rattle.laws.proofs.Columns.{Narrow}
use Rattle.laws.proofs.Described.{columns_narrow, columns_few}
use Rattle.format.specs.Schemas.{no_column, schema_of, cols_of, Limited}
use Rattle.list_reader.specs.Listing.{Listed, ListedAs, Sound}

-- the columns in use of an array are those that it was made of
cols_schema : (cs : List Column) → cols_of (schema_of cs) ≡ cs
cols_schema cs = take-append_seam cs (replicate (max_columns - length cs) no_column)

-- the columns of a list within the ceilings make a schema within them
limited_schema : (cs : List Column) → length cs ≤ max_columns → Narrow cs → Limited (schema_of cs)
limited_schema cs few narrow = record {
  few = few;
  narrow = λ c l.
      subst (λ (col : Column). value_bytes col.kind ≤ max_width) (sym (get_or-append cs (replicate (max_columns - length cs) no_column) no_column c l))
      (every_at (λ col. value_bytes col.kind ≤ max_width) cs no_column c narrow l);
}

-- what a list that passes gives
pub sound : (list : ColumnList) (schema : Schema) → list_fault list ≡ Ok tt → schema ≡ schema_of (columns list) → Sound list schema
sound list schema e is =
    let cols : cols_of schema ≡ columns list = ap cols_of is ∙ cols_schema (columns list) in
    record {
      cols = cols;
      count = ap (λ (s : Schema). s.count) is;
      some = rw is (columns_few list e).0;
      limited = rw is (limited_schema (columns list) (columns_few list e).1 (columns_narrow list e));
    }

-- ---- what reading ends in

-- the refusal x is the first fault of the list, and so it is answered
pub refused : (list : ColumnList) (x : Refusal) → list_fault list ≡ Err x → ListedAs list (Err x)
refused list x f = rw f

-- the list passes, and its columns are answered
pub passed : (list : ColumnList) (array : List Column) (count : ℕ) → list_fault list ≡ Ok tt → array ≡ (schema_of (columns list)).columns
    → count ≡ length (columns list) → ListedAs list (Ok (record { columns = array; count = count }))
passed list array count f p q =
    rw f (ap₂ (λ (l : List Column) (n : ℕ). Ok (record { columns = l; count = n })) p q)

-- ---- what a list that was read says of its reading

-- it was refused
pub list_refused : (list : ColumnList) (r : Listed) (x : Refusal) → ListedAs list r → r ≡ Err x → list_fault list ≡ Err x
list_refused list r x l e = given_err (list_fault list) _ (sym e ∙ l)

-- it gave columns
pub list_passed : (list : ColumnList) (r : Listed) (schema : Schema) → ListedAs list r → r ≡ Ok schema → (list_fault list ≡ Ok tt) × (schema ≡ schema_of (columns list))
list_passed list r schema l e = given_ok (list_fault list) _ (sym e ∙ l)

-- which are sound
pub list_sound : (list : ColumnList) (r : Listed) (schema : Schema) → ListedAs list r → r ≡ Ok schema → Sound list schema
list_sound list r schema l e = let p = list_passed list r schema l e in sound list schema p.0 p.1
