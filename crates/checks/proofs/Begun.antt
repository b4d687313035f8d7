-- The ways out of `begin` and `column_room`: what each says of the list, and of the row count or the room; and checks grouped either way. Assumes nothing.
use Prim.Native.Nat.{ℕ, ◌<◌, ◌≤◌}
use mathlib.Core.Path.{◌≡◌, refl, sym, ap, ◌∙◌}
use mathlib.Core.List.{List}
use lib.ListN.{length}
use borrow.Author.Tests.{lt-ltb, le-ltb}
use Rattle.format.specs.declared.Refusal.{Refusal}
use Rattle.format.specs.declared.Refusal.TheVariants.{ManyRows, ColumnRoom}
use Rattle.format.specs.Check.{Check, both}
use Rattle.std.specs.declared.result.Result.TheVariants.{Ok, Err}
use Rattle.format.specs.declared.Schema.{Schema}
use Rattle.format.specs.Limits.{max_rows}
use Rattle.format.specs.Columns.{spelled_columns}
use Rattle.format.specs.Described.{ColumnList, spelled, list_fault}
use Rattle.format.specs.Entries.{row_count_fault, read_list_check}
use Rattle.basics.proofs.Checks.{given_ok, given_err, enough, both_pass}
use Rattle.list_reader.specs.Listing.{Listed, ListedAs, Sound}
use Rattle.list_reader.proofs.Schemas.{list_refused, list_passed, sound}
use Rattle.checks.specs.Begun.{Begun, ListedFor}

-- checks one after the other, grouped either way
pub both_grouped : (x y z : Check) → both x (both y z) ≡ both (both x y) z
both_grouped (Ok tt) y z = refl
both_grouped (Err r) y z = refl

module _ (list : ColumnList) (n : ℕ) (r : Listed) (l : ListedAs list r) where
  -- the list is refused
  pub bad_list : (x : Refusal) → r ≡ Err x → Begun list n (Err x)
  bad_list x e = rw (list_refused list r x l e)

  module _ (schema : Schema) (e : r ≡ Ok schema) where
    -- there are too many rows
    pub many_rows : max_rows < n → Begun list n (Err (ManyRows n))
    many_rows h = rw ((list_passed list r schema l e).0, lt-ltb max_rows n h)

    -- neither is refused
    pub begun : n ≤ max_rows → Begun list n (Ok schema)
    begun h = let p = list_passed list r schema l e in rw (p.0, le-ltb max_rows n h) (ap Ok p.1)

-- ---- what a beginning says
module _ (list : ColumnList) (n : ℕ) (r : Listed) (b : Begun list n r) where
  pub begun_refused : (x : Refusal) → r ≡ Err x → both (list_fault list) (row_count_fault n) ≡ Err x
  begun_refused x e = given_err (both (list_fault list) (row_count_fault n)) _ (sym e ∙ b)

  pub begun_passed : (schema : Schema) → r ≡ Ok schema → both (list_fault list) (row_count_fault n) ≡ Ok tt
  begun_passed schema e = (given_ok (both (list_fault list) (row_count_fault n)) _ (sym e ∙ b)).0

  pub begun_sound : (schema : Schema) → r ≡ Ok schema → Sound list schema × (n ≤ max_rows)
  begun_sound schema e =
      let p = given_ok (both (list_fault list) (row_count_fault n)) _ (sym e ∙ b) in
      let q = both_pass (list_fault list) (row_count_fault n) p.0 in
      (sound list schema q.0 p.1, (enough max_rows n (ManyRows n) (Ok tt) q.1).0)

-- ---- the list, then 29
module _ (list : List ℕ) (room : ℕ) (r : Listed) (l : ListedAs (spelled list) r) where
  pub bad_spelled : (x : Refusal) → r ≡ Err x → ListedFor list room (Err x)
  unfolding read_list_check
  bad_spelled x e = rw (list_refused (spelled list) r x l e)

  module _ (schema : Schema) (e : r ≡ Ok schema) where
    counted : schema.count ≡ length (spelled_columns list)
    counted = ap (λ (s : Schema). s.count) (list_passed (spelled list) r schema l e).1

    pub short_columns : room < schema.count → ListedFor list room (Err (ColumnRoom schema.count))
    unfolding read_list_check
    short_columns h = rw ((list_passed (spelled list) r schema l e).0, ← counted, lt-ltb room schema.count h) refl

    pub enough_columns : schema.count ≤ room → ListedFor list room (Ok schema)
    unfolding read_list_check
    enough_columns h =
        let p = list_passed (spelled list) r schema l e in
        let c : read_list_check list room ≡ Ok tt = rw (p.0, ← counted, le-ltb room schema.count h) refl in
        rw c (ap Ok p.1)
