-- `row_reader::check_fields` meets its contract. At the head of the loop over columns what is left of the row has the row's
-- fault, at the head of the loop over rows the rows that are left have the fault of all; so too what is still to count.
-- Assumes nothing.
use Prim.Native.Nat.{ℕ, suc, ◌+◌, ◌-◌, ◌<◌, ◌≤◌}
use mathlib.Core.Path.{◌≡◌, refl, ap, subst, ◌∙◌}
use mathlib.Core.Option.{none, some}
use mathlib.Core.List.{List, ◌∷◌}
use native.Mathlib.Numerals.{add-one}
use native.Mathlib.Omega.{arith}
use lib.ListN.{length, get_or, take, drop, length-drop}
use Rattle.std.specs.declared.option.Option.{Option}
use Rattle.std.specs.declared.option.Option.TheVariants.{Some, None}
use Rattle.std.specs.declared.result.Result.TheVariants.{Err}
use Rattle.format.specs.declared.Column.{Column}
use Rattle.format.specs.declared.Refusal.TheVariants as refusal
use Rattle.format.specs.declared.RowFault.TheVariants.{Extra}
use Rattle.format.specs.declared.Schema.{Schema}
use Rattle.format.specs.Kinds.{Slot, column_shape}
use Rattle.format.specs.Limits.{max_rows}
use Rattle.format.specs.Lists.{Bytes}
use Rattle.format.specs.Sheet.{layout}
use Rattle.format.specs.Schemas.{Limited, cols_of, no_column}
use Rattle.format.specs.Entries.{row_bytes}
use Rattle.format.specs.Cleared.{slot_length, added}
use Rattle.basics.proofs.Bytes.{bytes_of, bytes_take, bytes_drop}
use Rattle.laws.proofs.FaultPlace.{fault_inside}
use Rattle.laws.proofs.InUse.{Held, in_use, next_in_use}
use Rattle.quick_rows.specs.Quick.{Rows, most_row}
use Rattle.quick_rows.proofs.Taken.{TookOf, says_rest, null_added}
use Rattle.quick_rows.proofs.Turns.{Fields, taken, whole}
use Rattle.quick_rows.proofs.Passing.{InRow, bytes_small, passed}
use Rattle.row_reader.proofs.Turns.{broken, longer, ends, faulty}
use Rattle.row_reader.proofs.walk.check_fields.Goals as goal
use Rattle.row_reader.proofs.walk.check_fields.Goals.{in-Some, in_default, else-rows-test, then-rows-test+then-loop-c-test+in-Err, then-rows-test+else-loop-c-test+then-at-row}

-- what is no value is a null
none_is : (v : Option ℕ) → ((n : ℕ) → v ≡ Some n → ⊥) → v ≡ None
none_is None h = refl
none_is (Some n) h = absurd (h n refl)

-- the part of a list of bytes that a row is
part : (rows : List ℕ) → ((i : ℕ) → get_or rows i 0 < 256) → (k from : ℕ) → Bytes (take k (drop from rows))
part rows h k from = bytes_take k (drop from rows) (bytes_drop from rows (bytes_of rows h))

-- row r, between its offsets
stands : {cols : List Column} (rows offsets : List ℕ) {n bytes r : ℕ} → n ≤ max_rows → r < n → Rows cols (row_bytes rows offsets) n bytes r
    → InRow cols (row_bytes rows offsets) n bytes r (take (get_or offsets (r + 1) 0 - get_or offsets r 0) (drop (get_or offsets r 0) rows))
stands rows offsets most l t = record { most = most; inside = l; head = t; is = rw add-one }

-- in row r, with c columns passed
module _ (schema : Schema) (held : Held schema) (limited : Limited schema) {row : List ℕ} {bytes₀ bytes at c : ℕ}
    (t : Fields (cols_of schema) row bytes₀ bytes at c) where
  -- a row adds no more than its columns may
  few_more : bytes ≤ bytes₀ + most_row
  few_more = omega (arith, t.small, t.inside, in_use schema held limited.few, limited.few)

  -- no column is left
  all_read : schema.count ≤ c → length (cols_of schema) ≤ c
  all_read h = omega (arith, in_use schema held limited.few)

  module _ (l : c < schema.count) where
    abbrev col : Column
    col = get_or schema.columns c no_column

    here : drop c (cols_of schema) ≡ col ∷ drop (suc c) (cols_of schema)
    here = next_in_use schema held limited.few c l

    past_null : {len bytes' at' : ℕ} → TookOf col (drop at row) len None → bytes' ≡ bytes → at' ≡ at + len
        → Fields (cols_of schema) row bytes₀ bytes' at' (c + 1)
    past_null said p o = taken t here none _ _ _ said (omega (arith, null_added (layout col))) o

    past_value : {len value more bytes' at' : ℕ} → TookOf col (drop at row) len (Some value)
        → ((s : Slot) → slot_length s ≡ value → more ≡ added (layout col) s) → bytes' ≡ bytes + more → at' ≡ at + len
        → Fields (cols_of schema) row bytes₀ bytes' at' (c + 1)
    past_value said adds p o =
        let value = said.0 in
        taken t here (some value) _ _ _ said.2 (p ∙ ap (λ (n : ℕ). bytes + n) (adds (some value) said.1)) o

pub overflow_add-bytes : goal.overflow_add-bytes
overflow_add-bytes c =
    let A = c.args in
    let l = c.loop-c in
    let said = says_rest _ _ l.at _ (part A.rows.now (λ i. (c.type_inv.rows i).fits) _ _) c.in-Ok.ensures in
    let value = subst (TookOf _ _ c.in-Ok.read.length) c.in-Some.is said in
    let next = past_value A.schema c.well_formed.0 c.requires.limited l.invariant.1 c.loop-c-test.true value c.added_bytes-bytes.ensures refl refl in
    let row = stands A.rows.now A.offsets.now c.requires.n_le_max_rows c.rows-test.true c.rows.invariant.1 in
    omega (arith, bytes_small row _ (few_more A.schema c.well_formed.0 c.requires.limited next))

pub overflow_sub-place : goal.overflow_sub-place
overflow_sub-place c =
    let A = c.args in
    let l = c.loop-c in
    let col = get_or A.schema.columns l.c no_column in
    let said = says_rest col _ l.at _ (part A.rows.now (λ i. (c.type_inv.rows i).fits) _ _) c.in-Err.ensures in
    let rest = fault_inside (column_shape col) col.options _ _ _ said in
    omega (arith, rest, length-drop {A = ℕ})

pub loop-c-preserved : goal.loop-c-preserved
loop-c-preserved c =
    let A = c.args in
    let l = c.loop-c in
    let said = says_rest _ _ l.at _ (part A.rows.now (λ i. (c.type_inv.rows i).fits) _ _) c.in-Ok.ensures in (
      l.invariant.0,
      elim c.match-read.branch [
        | in-Some w ↦
            past_value A.schema c.well_formed.0 c.requires.limited l.invariant.1 c.loop-c-test.true
            (subst (TookOf _ _ c.in-Ok.read.length) w.in-Some.is said) w.added_bytes-bytes.ensures w.bytes-is refl
        | in_default w ↦
            past_null A.schema c.well_formed.0 c.requires.limited l.invariant.1 c.loop-c-test.true
            (subst (TookOf _ _ c.in-Ok.read.length) (none_is _ w.in_default.not-Some) said) w.bytes-is refl
      ],
    )

pub rows-preserved : goal.rows-preserved
rows-preserved c =
    let A = c.args in
    let l = c.loop-c in
    let t = l.invariant.1 in
    let w = whole t (all_read A.schema c.well_formed.0 c.requires.limited t c.loop-c-test.false) c.if-at-row.false in
    let row = stands A.rows.now A.offsets.now c.requires.n_le_max_rows c.rows-test.true c.rows.invariant.1 in
    (l.invariant.0, passed row _ (w.passes _) w.adds (few_more A.schema c.well_formed.0 c.requires.limited t))

pub returns : goal.returns
returns c =
    let A = c.args in
    let full = in_use A.schema c.well_formed.0 c.requires.limited.few in
    rw c.and.ensures
    (elim c.rows-test.branch [
      | else-rows-test w ↦ rw (w.check-is, w.bytes-is, c.rows.invariant.0) (ends c.rows.invariant.1 c.requires.n_le_max_rows w.rows-test.false)
      | then-rows-test+then-loop-c-test+in-Err w ↦
          let t = w.loop-c.invariant.1 in
          let said = says_rest _ _ w.loop-c.at _ (part A.rows.now (λ i. (c.type_inv.rows i).fits) _ _) w.in-Err.ensures in
          let row = stands A.rows.now A.offsets.now c.requires.n_le_max_rows w.rows-test.true c.rows.invariant.1 in
          rw w.check-is (faulty row (broken t _ (here A.schema c.well_formed.0 c.requires.limited t w.loop-c-test.true) _ _ said))
      | then-rows-test+else-loop-c-test+then-at-row w ↦
          let t = w.loop-c.invariant.1 in
          let extra = longer t _ (all_read A.schema c.well_formed.0 c.requires.limited t w.loop-c-test.false) w.if-at-row.true in
          let row = stands A.rows.now A.offsets.now c.requires.n_le_max_rows w.rows-test.true c.rows.invariant.1 in
          rw w.check-is (faulty row (extra ∙ ap (λ (n : ℕ). Err (refusal.Row Extra c.rows.r n w.loop-c.at)) full))
    ])
