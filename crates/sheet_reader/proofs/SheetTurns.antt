-- The loop of `check_sheet`: what holds at its head, and what each way out of a turn gives. Assumes nothing.
use Prim.Native.Nat.{ℕ, suc, ◌+◌, ◌*◌, ◌<◌, ◌≤◌}
use mathlib.Core.Path.{◌≡◌, refl, sym, ap, ◌∙◌}
use mathlib.Core.List.{List, [], ◌∷◌}
use native.Mathlib.Numerals.{add-one}
use native.Mathlib.Omega.{arith}
use lib.ListN.{length, get_or, set, drop, replicate, length-set, length-drop, drop_of_length-le}
use lib.Seq.{drop-cons}
use borrow.Author.Tests.{lt-ltb, le-ltb}
use Rattle.format.specs.declared.Column.{Column}
use Rattle.format.specs.declared.Refusal.{Refusal}
use Rattle.format.specs.declared.Refusal.TheVariants.{BytesAfter}
use Rattle.std.specs.declared.result.Result.TheVariants.{Ok, Err}
use Rattle.format.specs.Limits.{max_columns, max_rows}
use Rattle.format.specs.Sheet.{layout, column_fault, column_bytes, column_slots, nulls_in, sheet_fault_from, sheet_fault, sheet_slots, nulls, place}
use Rattle.format.specs.Kinds.{column_shape}
use Rattle.basics.proofs.Checks.{refuse_pass}
use Rattle.laws.proofs.Folding.{fold_nulls}
use Rattle.laws.proofs.Parts.{below_set}
use Rattle.laws.proofs.Places.{place_next, past_column, column_stands}
use Rattle.laws.proofs.Sheets.{column_room}
use Rattle.sheet_reader.specs.declared.sheet.Facts.{Facts}
use Rattle.format.specs.Check.{verdict}
use Rattle.format.specs.Schemas.{no_column}
use Rattle.sheet_reader.specs.Sheets.{no_facts, Known, SheetedAs}

-- ---- at the head of a turn: the columns before c pass, and column c stands at `at`
pub record Turn (n : ℕ) (cols : List Column) (sheet : List ℕ) (facts : List Facts) (total at c : ℕ) : Type 0 where
  pub here : c ≤ length cols
  pub inside : at ≤ length sheet
  pub stands : at ≡ place n cols sheet c
  pub faults : sheet_fault_from n c at (drop c cols) (drop at sheet) ≡ sheet_fault n cols sheet
  pub counted : total + nulls (sheet_slots n (drop c cols) (drop at sheet)) ≡ nulls (sheet_slots n cols sheet)
  pub few : total ≤ max_rows * c
  pub room : length facts ≡ max_columns
  pub columns : (k : ℕ) → k < c → (get_or facts k no_facts).column ≡ get_or cols k no_column
  pub places : (k : ℕ) → k < c → (get_or facts k no_facts).base ≡ place n cols sheet k

pub start : (n : ℕ) (cols : List Column) (sheet : List ℕ) (blank : Facts) → Turn n cols sheet (replicate max_columns blank) 0 0 0
unfolding sheet_fault
start n cols sheet blank = record {
  here = omega arith;
  inside = omega arith;
  stands = refl;
  faults = refl;
  counted = omega arith;
  few = omega arith;
  room = refl;
  columns = λ k l. absurd (omega arith);
  places = λ k l. absurd (omega arith);
}

-- ---- the ways on from the head of a turn

-- the refusal x is the sheet's first fault, and so it is answered
refused : (n : ℕ) (cols : List Column) (sheet : List ℕ) (x : Refusal) → sheet_fault n cols sheet ≡ Err x → SheetedAs n cols sheet (Err x)
refused n cols sheet x f = record {
  check = sym f;
  facts = λ s e. absurd (refuse_pass (ap verdict e));
  nulls = λ s e. absurd (refuse_pass (ap verdict e));
}

module _ (n : ℕ) (cols : List Column) (sheet : List ℕ) (facts : List Facts) (total at c : ℕ) (t : Turn n cols sheet facts total at c) where
  -- column c is there
  module _ (col : Column) (l : c < length cols) (is : col ≡ get_or cols c no_column) where
    abbrev part : List ℕ
    part = drop at sheet

    next : drop c cols ≡ col ∷ drop (suc c) cols
    next = rw is (drop-cons cols c no_column l)

    abbrev bytes : ℕ
    bytes = column_bytes (layout col) n part

    pub bad : (x : Refusal) → column_fault col.options.required (layout col) n c part ≡ Err x → SheetedAs n cols sheet (Err x)
    bad x e = refused n cols sheet x (sym t.faults ∙ rw (next, e))

    module _ (e : column_fault col.options.required (layout col) n c part ≡ Ok tt) where
      -- the column ends within the sheet
      fits : bytes ≤ length part
      fits = column_room col.options.required (layout col) n c part e

      past : drop bytes part ≡ drop (at + bytes) sheet
      past = past_column (layout col) n at sheet

      faults_next : sheet_fault_from n (suc c) (at + bytes) (drop (suc c) cols) (drop (at + bytes) sheet) ≡ sheet_fault n cols sheet
      faults_next =
          let step : sheet_fault_from n c at (drop c cols) part ≡ sheet_fault_from n (suc c) (at + bytes) (drop (suc c) cols) (drop bytes part) = rw (next, e) in
          rw (← past) (sym step ∙ t.faults)

      nulls_next : nulls (sheet_slots n (drop c cols) part)
          ≡ nulls_in (column_slots (layout col) n part) + nulls (sheet_slots n (drop (suc c) cols) (drop (at + bytes) sheet))
      nulls_next =
          rw (← past, next)
          (ap (λ (k : ℕ). k + nulls (sheet_slots n (drop (suc c) cols) (drop bytes part)))
          (fold_nulls (column_shape col) col.options (column_slots (layout col) n part)))

      pub more : (k w : ℕ) → k ≡ nulls_in (column_slots (layout col) n part) → k ≤ n → n ≤ max_rows → w ≡ bytes → c < max_columns
          → Turn n cols sheet (set facts c (record { column = col; base = at })) (total + k) (at + w) (c + 1)
      more k w nul kn nm wide room = record {
        here = omega arith;
        inside = omega (arith, t.inside, fits, length-drop at sheet);
        stands = rw (add-one, wide, is, t.stands) (sym (place_next n cols sheet c no_column l));
        faults = rw (add-one, wide) faults_next;
        counted = rw (add-one, wide) (omega (arith, t.counted, nulls_next));
        few = omega (arith, t.few);
        room = length-set facts c (record { column = col; base = at }) ∙ t.room;
        columns = below_set (λ (j : ℕ) (f : Facts). f.column ≡ get_or cols j no_column) facts no_facts _ c (omega (arith, t.room)) t.columns is;
        places = below_set (λ (j : ℕ) (f : Facts). f.base ≡ place n cols sheet j) facts no_facts _ c (omega (arith, t.room)) t.places t.stands;
      }

  module _ (l : length cols ≤ c) where
    none : drop c cols ≡ []
    none = drop_of_length-le cols {i = c} l

    pub after : at < length sheet → SheetedAs n cols sheet (Err (BytesAfter at))
    after h =
        let more = lt-ltb 0 (length (drop at sheet)) (omega (arith, length-drop at sheet)) in
        refused n cols sheet (BytesAfter at) (sym t.faults ∙ rw (none, more))

    pub good : length sheet ≤ at → SheetedAs n cols sheet (Ok (record { facts = facts; nulls = total }))
    good h =
        let p : sheet_fault n cols sheet ≡ Ok tt = sym t.faults ∙ rw (none, le-ltb 0 (length (drop at sheet)) (omega (arith, length-drop at sheet))) in
        record {
          check = sym p;
          facts = λ s e k m. let q : record { facts = facts; nulls = total } ≡ s = cc in rw (← q) (known p k m);
          nulls = λ s e. let q : record { facts = facts; nulls = total } ≡ s = cc in rw (← q) total_is;
        }
      where
        known : sheet_fault n cols sheet ≡ Ok tt → Known n cols sheet facts
        known p k m =
            let col = t.columns k (omega arith) in
            let base = t.places k (omega arith) in
            record { column = col; base = base; stands = rw (col, base) (column_stands n cols sheet k no_column p m) }

        total_is : total ≡ nulls (sheet_slots n cols sheet)
        total_is = omega (arith, t.counted, ap (λ (z : List Column). nulls (sheet_slots n z (drop at sheet))) none)
