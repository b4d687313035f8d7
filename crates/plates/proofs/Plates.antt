-- All rows of one plate, on what encode writes, cut out by the offsets that it writes: two rows agree on their first k values exactly
-- when the bytes of their first k fields agree, these are the row of the same values under the first k columns, and in a sorted batch
-- the rows that share them stand side by side. Assumes nothing.
use Prim.Native.Nat.{ℕ, ◌<◌, ◌≤◌, Ordering}
use mathlib.Core.Path.{◌≡◌, ap, ap₂, sym, subst, ◌∙◌}
use mathlib.Core.Bool.{◌&&◌}
use mathlib.Core.Logic.{◌↔◌}
use mathlib.Core.List.{List, []}
use native.Mathlib.Omega.{arith}
use lib.Dec.{ltb}
use lib.IntN.{ℤ}
use lib.ListN.{length, take, drop}
use borrow.Author.Tests.{lt-ltb, le-ltb}
use Rattle.format.specs.Check.{Check, both}
use Rattle.std.specs.declared.result.Result.TheVariants.{Ok, Err}
use Rattle.std.specs.declared.option.Option.TheVariants.{None, Some}
use Rattle.format.specs.declared.Column.{Column}
use Rattle.format.specs.declared.Refusal.{Refusal}
use Rattle.format.specs.Described.{ColumnList, columns}
use Rattle.format.specs.Fits.{RowFits, HasValues}
use Rattle.format.specs.Lists.{Bytes}
use Rattle.format.specs.Order.{Begins, cmp}
use Rattle.format.specs.Prefix.{first_fields}
use Rattle.format.specs.Read.{row_slots, rows_fault}
use Rattle.format.specs.Row.{row}
use Rattle.format.specs.Value.{row_order}
use Rattle.format.specs.Entries.{row_bytes, cut_rows, decode_check, sign, compare_answer}
use Rattle.basics.proofs.Checks.{refuse_pass}
use Rattle.basics.proofs.Lists.{each_at, length_each}
use Rattle.laws.proofs.Cuts.{cut_bytes}
use Rattle.laws.proofs.ReadRow.{rows_passed}
use Rattle.demands.specs.Order.{Batch, batch_fault, row_in, values_in, ordered, Ordered}
use Rattle.plates.specs.Prefix.{fields_in, first_values, Sorted, Together, Fields, FieldsAgree, key_order, KeyThere, KeyOrdered}
use Rattle.demands.proofs.Accept.{decoded}
use Rattle.demands.proofs.Exact.{row_valued}
use Rattle.demands.proofs.Demand3.{Written, row_is, values_fit}
use Rattle.plates.proofs.FirstFields.{fits_first, row_parts, length_first, first_fields_lem, key_shared, key_begins, fields_agree}
use Rattle.demands.proofs.RowOrder.{row_front}
use Rattle.plates.proofs.SideBySide.{side_by_side}

-- ---- one batch
module _ {list : ColumnList} {b : Batch} (w : Written list b) where
  -- its rows have values
  row_values : (r : ℕ) → r < b.n → HasValues (columns list) (row_in b r)
  row_values r l = record { values = values_in list b r; fit = values_fit w r l; spell = sym (row_is w r l) }

  -- the first k fields of row r are the row of its first k values under the first k columns
  pub written_fields : (k r : ℕ) → r < b.n → Fields list b k r
  written_fields k r l =
      let e : fields_in list b k r ≡ row (take k (columns list)) (first_values list b k r)
      = ap (first_fields k (columns list)) (row_is w r l) ∙ first_fields_lem k (columns list) (values_in list b r) (values_fit w r l) in
      record { spell = e; long = ap length e ∙ length_first k (columns list) (values_in list b r) (values_fit w r l) }

  -- if its rows are sorted, those that share them stand side by side
  pub written_together : Sorted b.n (row_in b) → (k : ℕ) → Together b.n (fields_in list b k)
  written_together s k = side_by_side (columns list) b.n (row_in b) row_values s k

-- ---- two batches
pub written_agree : {list : ColumnList} {b d : Batch} → Written list b → Written list d → (k r q : ℕ) → r < b.n → q < d.n
    → first_values list b k r ≡ first_values list d k q ↔ fields_in list b k r ≡ fields_in list d k q
written_agree {list} {b} {d} v w k r q lr lq =
    let p = fields_agree k (columns list) (values_in list b r) (values_in list d q) (values_fit v r lr) (values_fit w q lq) in
    let first : fields_in list b k r ≡ first_fields k (columns list) (row (columns list) (values_in list b r))
    = ap (first_fields k (columns list)) (row_is v r lr) in
    let second : fields_in list d k q ≡ first_fields k (columns list) (row (columns list) (values_in list d q))
    = ap (first_fields k (columns list)) (row_is w q lq) in
    (λ e. first ∙ p.0 e ∙ sym second, λ e. p.1 (sym first ∙ e ∙ second))

-- ---- a batch, and one of keys under the first k columns
module _ {list short : ColumnList} {b d : Batch} (v : Written list b) (w : Written short d) (k r q : ℕ) (lr : r < b.n) (lq : q < d.n)
    (first : columns short ≡ take k (columns list)) where
  abbrev cols : List Column
  cols = columns list

  -- the key is a row under the first k columns
  key_is : row_in d q ≡ row (take k cols) (values_in short d q)
  key_is = row_is w q lq ∙ ap (λ (c : List Column). row c (values_in short d q)) first

  key_fits : RowFits (take k cols) (values_in short d q)
  key_fits = subst (λ (c : List Column). RowFits c (values_in short d q)) first (values_fit w q lq)

  -- it stands to the row as to its first k values
  pub written_key_order : key_order b d r q ≡ sign (row_order (take k cols) (first_values list b k r) (values_in short d q))
  unfolding compare_answer
  written_key_order =
      ap sign (ap₂ {C = Ordering} (λ (f s : List ℕ). cmp (take (length f) s) f) key_is
      (row_is v r lr ∙ row_parts k cols (values_in list b r) (values_fit v r lr))
      ∙ row_front (take k cols) (first_values list b k r) (values_in short d q) (row (drop k cols) (drop k (values_in list b r)))
      (fits_first k cols (values_in list b r) (values_fit v r lr)) key_fits)

  -- it is the first k fields exactly where it has the first k values
  pub written_key_shares : first_values list b k r ≡ values_in short d q ↔ fields_in list b k r ≡ row_in d q
  written_key_shares =
      let p = key_shared k cols (values_in list b r) (values_in short d q) (values_fit v r lr) key_fits in
      let e : fields_in list b k r ≡ first_fields k cols (row cols (values_in list b r)) = ap (first_fields k cols) (row_is v r lr) in
      (λ h. e ∙ p.0 h ∙ sym key_is, λ h. p.1 (sym e ∙ h ∙ key_is))

  -- and begins the row exactly there
  pub written_key_begins : first_values list b k r ≡ values_in short d q ↔ Begins (row_in d q) (row_in b r)
  written_key_begins =
      let p = key_begins k cols (values_in list b r) (values_in short d q) (values_fit v r lr) key_fits in
      (λ h. rw (key_is, row_is v r lr) (p.0 h), λ h. p.1 (rw (key_is, row_is v r lr) at h))

-- ---- rows that are accepted have values
pub accepted_values : (cols : List Column) (n : ℕ) (bytes offsets : List ℕ) → Bytes bytes → rows_fault 0 cols (cut_rows n bytes offsets) ≡ Ok tt
    → (r : ℕ) → r < n → RowFits cols (row_slots cols (row_bytes bytes offsets r))
    × (row cols (row_slots cols (row_bytes bytes offsets r)) ≡ row_bytes bytes offsets r)
accepted_values cols n bytes offsets h e r l =
    let rs : List (List ℕ) = cut_rows n bytes offsets in
    let t = rows_passed 0 cols rs (cut_bytes n bytes offsets h) e in
    subst (λ (b : List ℕ). RowFits cols (row_slots cols b) × (row cols (row_slots cols b) ≡ b)) (each_at n (row_bytes bytes offsets) [] r l)
    (row_valued cols rs t.0 t.1 r (omega (arith, length_each 0 n (row_bytes bytes offsets))))

-- ---- rows that decode accepts, whoever sorted them
pub accepted_together : (list : ColumnList) (n : ℕ) (bytes offsets : List ℕ) (room : ℕ) → Bytes bytes → decode_check list n bytes offsets room ≡ Ok tt
    → Sorted n (row_bytes bytes offsets) → (k : ℕ) → Together n (λ r. first_fields k (columns list) (row_bytes bytes offsets r))
accepted_together list n bytes offsets room h e s k = side_by_side (columns list) n (row_bytes bytes offsets) values s k
  where
    values : (r : ℕ) → r < n → HasValues (columns list) (row_bytes bytes offsets r)
    values r l =
        let v = accepted_values (columns list) n bytes offsets h (decoded list n bytes offsets room e).1.passes r l in
        record { values = row_slots (columns list) (row_bytes bytes offsets r); fit = v.0; spell = v.1 }

-- ---- what the functions of this crate answer

-- what one of two checks refuses
pub first_refused : (x y : Check) {r : Refusal} → x ≡ Err r → both x y ≡ Err r
first_refused x y e = rw e

pub second_refused : (x y : Check) {r : Refusal} → x ≡ Ok tt → y ≡ Err r → both x y ≡ Err r
second_refused x y p e = rw (p, e)

module _ {list : ColumnList} {b d : Batch} where
  pub agree_refused : (x : Refusal) → both (batch_fault list b) (batch_fault list d) ≡ Err x → FieldsAgree list b d (Err x)
  agree_refused x e = record {
    answers = sym e;
    agree = λ p. absurd (refuse_pass p);
    fields = λ p. absurd (refuse_pass p);
    together = λ p. absurd (refuse_pass p);
  }

  pub agree_both : Written list b → Written list d → FieldsAgree list b d (Ok tt)
  agree_both v w = record {
    answers = rw (v.passes, w.passes);
    agree = λ p. written_agree v w;
    fields = λ p. written_fields v;
    together = λ p. written_together v;
  }

module _ {list short : ColumnList} {b d : Batch} (r q : ℕ) where
  -- where one of them is refused, or a row is not there, nothing is compared
  none : (x : Ordered) → x ≡ ordered (both (batch_fault list b) (batch_fault short d)) (ltb r b.n && ltb q d.n) (key_order b d r q)
      → ((k : ℕ) → KeyThere list short b d k r q → ⊥) → KeyOrdered list short b d r q x
  none x e never = record { answers = e; order = λ k t. absurd (never k t); shares = λ k t. absurd (never k t); begins = λ k t. absurd (never k t) }

  pub key_refused : (x : Refusal) → both (batch_fault list b) (batch_fault short d) ≡ Err x → KeyOrdered list short b d r q (Err x)
  key_refused x e = none (Err x) (rw e) (λ k t. refuse_pass (sym e ∙ t.passes))

  module _ (v : Written list b) (w : Written short d) where
    pub no_row : b.n ≤ r → KeyOrdered list short b d r q (Ok None)
    no_row l = none (Ok None) (rw (v.passes, w.passes, le-ltb r b.n l)) (λ k t. omega (arith, t.row))

    pub no_key : r < b.n → d.n ≤ q → KeyOrdered list short b d r q (Ok None)
    no_key h l = none (Ok None) (rw (v.passes, w.passes, lt-ltb r b.n h, le-ltb q d.n l)) (λ k t. omega (arith, t.key))

    pub key_ordered : r < b.n → q < d.n → (x y : ℤ) → x ≡ y → y ≡ key_order b d r q → KeyOrdered list short b d r q (Ok (Some x))
    key_ordered h l x y s e = record {
      answers = rw (v.passes, w.passes, lt-ltb r b.n h, lt-ltb q d.n l) (ap (λ o. Ok (Some o)) (s ∙ e));
      order = λ k t. written_key_order v w k r q h l t.first;
      shares = λ k t. written_key_shares v w k r q h l t.first;
      begins = λ k t. written_key_begins v w k r q h l t.first;
    }
