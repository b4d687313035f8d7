-- The slots of a row of a checked sheet, by the facts of its columns. Assumes nothing.
use Prim.Native.Nat.{ℕ, ◌+◌, ◌<◌}
use mathlib.Core.Path.{◌≡◌, refl, ap, ap₂, sym, ◌∙◌}
use mathlib.Core.Bool.{false}
use mathlib.Core.Option.{none}
use mathlib.Core.List.{List, [], ◌∷◌}
use native.Mathlib.Omega.{arith}
use lib.ListN.{length, get_or, take, drop, get_or-map, length-map, length-take}
use lib.Seq.{ext_get_or, get_or-take}
use Rattle.format.specs.declared.Column.{Column}
use Rattle.format.specs.Lists.{each}
use Rattle.format.specs.Kinds.{Slot, column_shape}
use Rattle.format.specs.Fold.{folded_slot}
use Rattle.format.specs.Sheet.{layout, column_fault, column_bytes, slot_at, column_slots, sheet_slots, place_from, slots_in}
use Rattle.format.specs.Schemas.{no_column}
use Rattle.format.specs.Passed.{Passes, Stands}
use Rattle.basics.proofs.Lists.{each_at, each_next, each_same}
use Rattle.laws.proofs.Places.{past_column}
use Rattle.laws.proofs.Sheets.{not_asked}
use Rattle.sheet_reader.specs.declared.sheet.Facts.{Facts}
use Rattle.sheet_reader.specs.Sheets.{no_facts, columns_of, Known}

-- that of a column that stands at a place, and the same as encode takes it
abbrev pub slot_in : ℕ → List ℕ → ℕ → Column → ℕ → Slot
slot_in n s r col at = slot_at (layout col) n (drop at s) r

abbrev pub folded_in : ℕ → List ℕ → ℕ → Column → ℕ → Slot
folded_in n s r col at = folded_slot (column_shape col) col.options (slot_in n s r col at)

-- that of column c, by the facts of the columns
abbrev pub slot_of : ℕ → List ℕ → List Facts → ℕ → ℕ → Slot
slot_of n s facts r c = folded_in n s r (get_or facts c no_facts).column (get_or facts c no_facts).base

-- the slots of the columns from `at` on, by their places
slots_from : (n at : ℕ) (cols : List Column) (s : List ℕ) (d : Column) (r : ℕ) → r < n
    → slots_in (sheet_slots n cols (drop at s)) r ≡ each 0 (length cols) (λ c. folded_in n s r (get_or cols c d) (place_from n at cols s c))
slots_from n at [] s d r l = refl
slots_from n at (col ∷ cols) s d r l =
    ap₂ {C = List Slot} (λ (x : Slot) (xs : List Slot). x ∷ xs)
    (get_or-map (folded_slot (column_shape col) col.options) (column_slots (layout col) n (drop at s)) r none
    ∙ ap (folded_slot (column_shape col) col.options) (each_at n (slot_at (layout col) n (drop at s)) none r l))
    (ap (λ (t : List ℕ). slots_in (sheet_slots n cols t) r) (past_column (layout col) n at s)
    ∙ slots_from n (at + column_bytes (layout col) n (drop at s)) cols s d r l
    ∙ sym (each_next 0 (length cols) (λ c. folded_in n s r (get_or (col ∷ cols) c d) (place_from n at (col ∷ cols) s c))))

-- all of them, by the facts
pub slots_known : (n : ℕ) (cols : List Column) (s : List ℕ) (facts : List Facts) → Known n cols s facts → (r : ℕ) → r < n
    → slots_in (sheet_slots n cols s) r ≡ each 0 (length cols) (slot_of n s facts r)
slots_known n cols s facts k r l =
    slots_from n 0 cols s no_column r l
    ∙ each_same 0 (length cols) _ _ (λ c a b.
    let f = k c (omega arith) in
    sym (ap₂ (folded_in n s r) f.column f.base))

-- facts are of the columns that they are known for
facts_columns : (n : ℕ) (cols : List Column) (s : List ℕ) (facts : List Facts) → Known n cols s facts → length facts ≡ length cols → columns_of facts ≡ cols
facts_columns n cols s facts known many =
    let column : Facts → Column = λ f. f.column in
    ext_get_or no_column (columns_of facts) cols (length-map facts column ∙ many)
    (λ i l. get_or-map column facts i no_facts ∙ (known i (omega (arith, length-map facts column, many))).column)

-- an array of facts, cut to as many as there are columns
module _ (n : ℕ) (cols : List Column) (s : List ℕ) (all : List Facts) (known : Known n cols s all) (count : ℕ) (many : length (take count all) ≡ length cols) where
  abbrev facts : List Facts
  facts = take count all

  kept : Known n cols s facts
  kept c l = rw (get_or-take count all c no_facts (omega (arith, many, length-take count all))) (known c l)

  pub columns_cut : columns_of facts ≡ cols
  columns_cut = facts_columns n cols s facts kept many

  pub known_cut : Known n (columns_of facts) s facts
  known_cut = rw columns_cut kept

-- a column that stands at a place passes there
pub stands_passes : (n c at : ℕ) (col : Column) (s : List ℕ) → Stands col n c at s → Passes (λ c. column_fault false (layout col) n c (drop at s))
stands_passes n c at col s g = record { c = c; pass = not_asked col.options.required (layout col) n c (drop at s) g.passes }
