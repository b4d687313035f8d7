-- A look-up that is not refused: the rows found share the key and no other does, by bytes, by fields and by values; and where there are
-- none, the place is where the key would stand. Assumes nothing.
use Prim.Native.Nat.{ℕ, ◌<◌, ◌≤◌}
use mathlib.Core.Path.{◌≡◌, ap, sym, subst, ◌∙◌}
use mathlib.Core.Bool.{true}
use mathlib.Core.Logic.{◌↔◌}
use mathlib.Core.List.{List, []}
use native.Mathlib.Omega.{arith}
use lib.ListN.{length, get_or, take}
use Rattle.format.specs.Numbers.{Answer}
use Rattle.std.specs.declared.result.Result.TheVariants.{Ok}
use Rattle.format.specs.declared.Column.{Column}
use Rattle.format.specs.Described.{ColumnList, list_fault, columns}
use Rattle.format.specs.Fits.{RowFits}
use Rattle.format.specs.Kinds.{Slot}
use Rattle.format.specs.Lists.{Bytes}
use Rattle.format.specs.Order.{Begins}
use Rattle.format.specs.Prefix.{first_fields}
use Rattle.format.specs.Read.{row_fault, row_slots, rows_fault}
use Rattle.format.specs.Row.{row}
use Rattle.format.specs.Entries.{row_bytes, cut_rows, row_count_fault, offsets_fault}
use Rattle.format.specs.Batch.{below, order_fault, sorted_fault}
use Rattle.format.specs.Lookup.{found_first, found_past, key_columns_fault, lookup_check, lookup_answer}
use Rattle.format.specs.Promises.{LookedUp}
use Rattle.basics.proofs.Checks.{both_pass, answer_done}
use Rattle.basics.proofs.Lists.{each_at, length_each}
use Rattle.laws.proofs.Numbers.{numbers_injective}
use Rattle.laws.proofs.ReadRow.{passed_row}
use Rattle.halves.specs.Shares.{Shares}
use Rattle.halves.proofs.Sharing.{shares}
use Rattle.plates.specs.Found.{Among, Found, Finds}
use Rattle.plates.proofs.FirstFields.{key_shared, key_begins}
use Rattle.plates.proofs.Plates.{accepted_values}

-- two steps in one
through : {A B C : Type 0} → A ↔ B → B ↔ C → A ↔ C
through p q = (λ a. q.0 (p.0 a), λ c. p.1 (q.1 c))

turn : {A B : Type 0} → A ↔ B → B ↔ A
turn p = (p.1, p.0)

-- what passed before the search
record Passed (list : ColumnList) (k : ℕ) (key : List ℕ) (n : ℕ) (bytes offsets : List ℕ) : Type 0 where
  key_good : row_fault 0 (length key) 0 (take k (columns list)) key ≡ Ok tt
  rows_good : rows_fault 0 (columns list) (cut_rows n bytes offsets) ≡ Ok tt
  sorted : order_fault 0 (cut_rows n bytes offsets) ≡ Ok tt

checks_passed : (list : ColumnList) (k : ℕ) (key : List ℕ) (n : ℕ) (bytes offsets : List ℕ) → lookup_check list k key n bytes offsets ≡ Ok tt
    → Passed list k key n bytes offsets
unfolding lookup_check sorted_fault
checks_passed list k key n bytes offsets e =
    let a = both_pass (list_fault list) _ e in
    let b = both_pass (key_columns_fault k (columns list)) _ a.1 in
    let c = both_pass (row_fault 0 (length key) 0 (take k (columns list)) key) _ b.1 in
    let d = both_pass (row_count_fault n) _ c.1 in
    let f = both_pass (offsets_fault n bytes offsets) _ d.1 in
    let g = both_pass (rows_fault 0 (columns list) (cut_rows n bytes offsets)) _ f.1 in
    record { key_good = c.0; rows_good = g.0; sorted = g.1 }

module _ (list : ColumnList) (k : ℕ) (key : List ℕ) (n : ℕ) (bytes offsets : List ℕ) (key-bytes : Bytes key) (rows_are_bytes : Bytes bytes)
    (p : Passed list k key n bytes offsets) where
  abbrev cols : List Column
  cols = columns list

  abbrev keyValues : List Slot
  keyValues = row_slots (take k cols) key

  -- the key is the row of its values under the first k columns
  key_is : (row (take k cols) keyValues ≡ key) × RowFits (take k cols) keyValues
  key_is = passed_row 0 (length key) 0 (take k cols) key key-bytes p.key_good

  abbrev row_values : ℕ → List Slot
  row_values r = row_slots cols (row_bytes bytes offsets r)

  -- row r has the key's values first exactly where it begins with the key
  agree : (r : ℕ) → r < n → take k (row_values r) ≡ keyValues ↔ Begins key (row_bytes bytes offsets r)
  agree r l =
      let v = accepted_values cols n bytes offsets rows_are_bytes p.rows_good r l in
      let b = key_begins k cols (row_values r) keyValues v.0 key_is.1 in
      (λ e. rw (key_is.0, v.1) at (b.0 e), λ g. b.1 (rw (key_is.0, v.1) g))

  -- and exactly where its first k fields are the key
  share : (r : ℕ) → r < n → take k (row_values r) ≡ keyValues ↔ first_fields k cols (row_bytes bytes offsets r) ≡ key
  share r l =
      let v = accepted_values cols n bytes offsets rows_are_bytes p.rows_good r l in
      let b = key_shared k cols (row_values r) keyValues v.0 key_is.1 in
      (λ e. rw (key_is.0, v.1) at (b.0 e), λ g. b.1 (rw (key_is.0, v.1) g))

  abbrev rows : List (List ℕ)
  rows = cut_rows n bytes offsets

  many : length rows ≡ n
  many = length_each 0 n (row_bytes bytes offsets)

  at : (r : ℕ) → r < n → get_or rows r [] ≡ row_bytes bytes offsets r
  at r l = each_at n (row_bytes bytes offsets) [] r l

  -- the two numbers
  module _ (first past : ℕ) (s : Shares key rows first past) where
    among : (r : ℕ) → r < n → Among first past r ↔ Begins key (row_bytes bytes offsets r)
    among r l = subst (λ (b : List ℕ). Among first past r ↔ Begins key b) (at r l) (s.found r (omega (arith, many)))

    found : Found list k key n bytes offsets first past
    found = record {
      ordered = s.ordered;
      inside = omega (arith, s.inside, many);
      begin = among;
      fields = λ r l. through (through (among r l) (turn (agree r l))) (share r l);
      values = λ r l. through (among r l) (turn (agree r l));
      lower = λ r l. subst (λ (b : List ℕ). below b key ≡ true) (at r (omega (arith, s.ordered, s.inside, many))) (s.lower r l);
      upper = λ r h l. subst (λ (b : List ℕ). below key b ≡ true) (at r l) (s.upper r h (omega (arith, many)));
      none = λ never. s.none (λ i l g. never i (omega (arith, many)) (subst (Begins key) (at i (omega (arith, many))) g));
    }

-- ---- what keeps the entry's promise, and is no refusal
pub looked_up : (list : ColumnList) (k : ℕ) (key : List ℕ) (n : ℕ) (bytes offsets : List ℕ) (r : Answer) → Bytes key → Bytes bytes
    → LookedUp list k key n bytes offsets r → Finds list k key n bytes offsets r
unfolding lookup_answer
looked_up list k key n bytes offsets r key-bytes rows_are_bytes l = record { found = says }
  where
    says : (first past : ℕ) → r ≡ Ok (first, past) → Found list k key n bytes offsets first past
    says first past e =
        let d = answer_done (lookup_check list k key n bytes offsets) _ _ first past
        (sym (numbers_injective r (lookup_answer list k key n bytes offsets) l.answers) ∙ e) in
        let p = checks_passed list k key n bytes offsets d.0 in
        found list k key n bytes offsets key-bytes rows_are_bytes p first past
        (subst (λ (m : ℕ). Shares key (cut_rows n bytes offsets) m past) d.1
        (subst (λ (m : ℕ). Shares key (cut_rows n bytes offsets) (found_first key (cut_rows n bytes offsets)) m) d.2
        (shares 0 key (cut_rows n bytes offsets) p.sorted)))
