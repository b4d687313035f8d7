-- Two rows column by column, up to the first slots that differ: what holds at the head of a turn. Assumes nothing.
use Prim.Native.Nat.Ordering.{eq}
use Prim.Native.Nat.{ℕ, suc, ◌+◌, ◌-◌, ◌/◌, ◌<◌, ◌≤◌, Ordering}
use mathlib.Core.Path.{◌≡◌, refl, ap, ap₂, sym, ◌∙◌}
use mathlib.Core.Bool.{true, false}
use mathlib.Core.List.{List, [], ◌∷◌}
use native.Mathlib.Nat.{sub-zero}
use native.Mathlib.Numerals.{add-one}
use native.Mathlib.Omega.{arith}
use lib.ListN.{length, get_or}
use Rattle.std.specs.declared.cmp.Ordering.{Ordering as Answer}
use Rattle.std.specs.declared.cmp.Ordering.TheVariants.{Equal}
use Rattle.std.specs.Ordering.{is_ne}
use Rattle.format.specs.declared.Column.{Column}
use Rattle.format.specs.Lists.{each}
use Rattle.format.specs.Kinds.{Slot, column_shape}
use Rattle.format.specs.Order.{then}
use Rattle.format.specs.Value.{slot_order, row_order}
use Rattle.format.specs.Schemas.{no_column}
use Rattle.format.specs.Entries.{row_values}
use Rattle.basics.proofs.Append.{each_step, each_none}
use Rattle.basics.proofs.Lists.{each_next, each_same}
use Rattle.sheet_reader.specs.declared.sheet.Facts.{Facts}
use Rattle.sheet_reader.specs.Sheets.{no_facts, Known}
use Rattle.sheet_reader.proofs.Values.{folded_in, slot_of, slots_known}
use Rattle.format.specs.CompareSheets.{rank, first_row, second_row, pair_ranks}
use Rattle.row_pairs.specs.Pairs.{InSheets}
use Rattle.byte_order.specs.Answers.{ordering}
use Rattle.number_order.proofs.Found.{Found, found_none, found_more, found_closed, found_last}

-- the first that is no tie
abbrev pub first_of : List Ordering → Ordering
first_of [] = eq
first_of (o ∷ os) = then o (first_of os)

-- ---- n orders, of which those from c on are left unless one before decides
pub record Deciding (f : ℕ → Ordering) (n c : ℕ) (r : Answer) : Type 0 where
  pub within : c ≤ n
  pub ties : c < n → is_ne r ≡ false
  pub found : Found (first_of (each 0 n f)) (first_of (each c (n - c) f)) r

module _ (f : ℕ → Ordering) (n : ℕ) where
  pub deciding_begin : Deciding f n 0 Equal
  deciding_begin = record { within = omega arith; ties = λ l. refl; found = rw (sub-zero n) (found_none (first_of (each 0 n f))) }

  module _ (c : ℕ) {r q : Answer} (d : Deciding f n c r) (l : c < n) (e : q ≡ ordering (f c)) where
    next : Found (first_of (each 0 n f)) (first_of (each (suc c) (n - suc c) f)) q
    next =
        found_more (first_of (each 0 n f)) (first_of (each c (n - c) f)) d.found (f c) (first_of (each (suc c) (n - suc c) f)) (d.ties l)
        (ap first_of (each_step f n c l)) e

    -- order c ties
    pub deciding_ties : is_ne q ≡ false → Deciding f n (c + 1) q
    deciding_ties t = record { within = omega arith; ties = λ k. t; found = rw (add-one c) next }

    -- order c decides
    pub deciding_differs : is_ne q ≡ true → Deciding f n n q
    deciding_differs ne = record {
      within = omega arith;
      ties = λ k. absurd (omega arith);
      found = found_closed (first_of (each 0 n f)) (first_of (each (suc c) (n - suc c) f)) next ne (first_of (each n (n - n) f));
    }

  -- none is left
  pub deciding_end : (c : ℕ) {r : Answer} → Deciding f n c r → n ≤ c → r ≡ ordering (first_of (each 0 n f))
  deciding_end c d l = found_last (first_of (each 0 n f)) (first_of (each c (n - c) f)) d.found (ap first_of (each_none f n c l))

-- ---- two rows

-- of slots that are given column by column
row_each : (cols : List Column) (d : Column) (x y : ℕ → Slot)
    → row_order cols (each 0 (length cols) x) (each 0 (length cols) y)
    ≡ first_of (each 0 (length cols) (λ c. slot_order (column_shape (get_or cols c d)) (get_or cols c d).options (x c) (y c)))
row_each [] d x y = refl
row_each (col ∷ cols) d x y =
    ap (then (slot_order (column_shape col) col.options (x 0) (y 0)))
    (ap₂ (row_order cols) (each_next 0 (length cols) x) (each_next 0 (length cols) y) ∙ row_each cols d (λ c. x (suc c)) (λ c. y (suc c))
    ∙ ap first_of (sym (each_next 0 (length cols) (λ c. slot_order (column_shape (get_or (col ∷ cols) c d)) (get_or (col ∷ cols) c d).options (x c) (y c)))))

-- the order of two slots of a column that stands at a place of each sheet
abbrev slots_order : ℕ → List ℕ → ℕ → ℕ → List ℕ → ℕ → Column → ℕ → ℕ → Ordering
slots_order n s i m t j col at to = slot_order (column_shape col) col.options (folded_in n s i col at) (folded_in m t j col to)

-- that of column c, by the facts
abbrev pub column_order : ℕ → List ℕ → List Facts → ℕ → ℕ → List ℕ → List Facts → ℕ → ℕ → Ordering
column_order n s facts i m t known j c = slots_order n s i m t j (get_or facts c no_facts).column (get_or facts c no_facts).base (get_or known c no_facts).base

pub row_known : (n : ℕ) (s : List ℕ) (facts : List Facts) (i m : ℕ) (t : List ℕ) (known : List Facts) (j : ℕ) (cols : List Column)
    → Known n cols s facts → Known m cols t known → i < n → j < m
    → row_order cols (row_values cols n s i) (row_values cols m t j) ≡ first_of (each 0 (length cols) (column_order n s facts i m t known j))
row_known n s facts i m t known j cols k h li lj =
    ap₂ (row_order cols) (slots_known n cols s facts k i li) (slots_known m cols t known h j lj)
    ∙ row_each cols no_column (slot_of n s facts i) (slot_of m t known j)
    ∙ ap first_of (each_same 0 (length cols) _ _ (λ c a b.
    let e = (k c (omega arith)).column in
    let g = (h c (omega arith)).column in
    ap₂ (λ (u v : Column). slot_order (column_shape u) u.options (slot_of n s facts i c) (folded_in m t j v (get_or known c no_facts).base)) (sym e) (g ∙ sym e)))

-- the answer to pair k of the rows
abbrev pub facts_rank : ℕ → List ℕ → List Facts → ℕ → List ℕ → List Facts → ℕ → List ℕ → ℕ → ℕ
facts_rank n s facts m t known count rows k = rank (first_of (each 0 count (column_order n s facts (first_row rows k) m t known (second_row rows k))))

-- the answers to all pairs
pub rows_known : (n : ℕ) (s : List ℕ) (facts : List Facts) (m : ℕ) (t : List ℕ) (known : List Facts) (cols : List Column) (rows : List ℕ)
    → Known n cols s facts → Known m cols t known → InSheets n m rows
    → pair_ranks cols n s m t rows ≡ each 0 (length rows / 2) (facts_rank n s facts m t known (length cols) rows)
rows_known n s facts m t known cols rows k h l =
    each_same 0 (length rows / 2) _ _ (λ p a b.
    ap rank (row_known n s facts (first_row rows p) m t known (second_row rows p) cols k h (l.first p (omega arith)) (l.second p (omega arith))))
