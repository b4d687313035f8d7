-- A row, column by column: it ends where decode reads its last field, or it is refused as decode refuses it. Assumes nothing.
use Prim.Native.Nat.{ℕ, suc, ◌+◌, ◌-◌, ◌<◌, ◌≤◌}
use mathlib.Core.Path.{◌≡◌, refl, ap, ap₂, sym, subst, ◌∙◌}
use mathlib.Core.Bool.{Bool, true, false, cond}
use mathlib.Core.Logic.{◌⊎◌, inl, inr}
use mathlib.Core.List.{List, [], ◌∷◌, ◌++◌, append_assoc}
use native.Mathlib.Nat.{add-zero, sub-zero}
use native.Mathlib.Numerals.{add-one}
use native.Mathlib.Omega.{arith}
use lib.Dec.{ltb}
use lib.ListN.{length, get_or, drop, length-append, length-drop}
use lib.Seq.{drop-drop, get_or-drop, get_or-take}
use borrow.Author.Tests.{lt-ltb, le-ltb}
use Rattle.format.specs.declared.Column.{Column}
use Rattle.format.specs.declared.RowFault.{RowFault}
use Rattle.format.specs.declared.RowFault.TheVariants.{Cut}
use Rattle.format.specs.declared.Refusal.{Refusal}
use Rattle.format.specs.declared.Refusal.TheVariants.{Row}
use Rattle.format.specs.Check.{Check, both, fail_if}
use Rattle.std.specs.declared.result.Result.TheVariants.{Ok, Err}
use Rattle.format.specs.declared.Spot.TheVariants.{Start}
use Rattle.format.specs.declared.Cutter.{Cutter}
use Rattle.format.specs.Limits.{max_total}
use Rattle.format.specs.Lists.{Bytes}
use Rattle.format.specs.Kinds.{Slot, column_shape}
use Rattle.format.specs.Schemas.{no_column, cols_of}
use Rattle.format.specs.Read.{Parsed, got, fault, read_field, field_check, row_fault}
use Rattle.format.specs.CutterRule.{column_in}
use Rattle.format.specs.Cutter.{further, row_ended, fed, ends_in, finish_fault}
use Rattle.basics.proofs.Bytes.{bytes_right}
use Rattle.cutter_laws.proofs.Cutting.{fed_append, ends_append}
use Rattle.cutter_laws.proofs.FieldFed.{Ended, Ready, Open, Broken, FieldFed, field_in, field_fed}
use Rattle.cutter_laws.proofs.Piece.{new_end_lem}

-- before the first byte of a field, with these columns left of the row
pub record Before (s : Cutter) (cols : List Column) : Type 0 where
  pub ready : Ready s
  pub left : drop s.column (cols_of s.schema) ≡ cols
  pub many : length (cols_of s.schema) ≡ s.schema.count

-- the bytes of xs before rest complete the row
pub record RowDone (s : Cutter) (xs rest : List ℕ) : Type 0 where
  pub part : List ℕ
  pub splits : xs ≡ part ++ rest
  pub state : fed s part ≡ row_ended s (length part)
  pub ends : ends_in s part ≡ (s.bytes + length part) ∷ []

-- what decode says of the rest of the row that is being read, if these are its bytes
abbrev pub judged : Cutter → List Column → List ℕ → Check
judged s cols xs = row_fault s.rows (s.row + length xs) s.column cols xs

-- the row ends, and decode has read all its fields there
pub record Reads (s : Cutter) (cols : List Column) (xs : List ℕ) : Type 0 where
  pub rest : List ℕ
  pub done : RowDone s xs rest
  pub says : judged s cols xs ≡ row_fault s.rows (s.row + length xs) (s.column + length cols) [] rest

-- it does not, and decode refuses it as a finish does: for the fault that stands, or 16
pub record Refuses (s : Cutter) (cols : List Column) (xs : List ℕ) : Type 0 where
  pub reason : Refusal
  pub says : judged s cols xs ≡ Err reason
  pub finish : finish_fault (fed s xs) ≡ Err reason
  pub ends : ends_in s xs ≡ []

module _ (s : Cutter) (col : Column) (cols : List Column) (a : Before s (col ∷ cols)) where
  -- the columns after it
  next_left : drop (suc s.column) (cols_of s.schema) ≡ cols
  next_left =
      ap (λ (n : ℕ). drop n (cols_of s.schema)) (sym (add-one s.column))
      ∙ sym (drop-drop 1 s.column (cols_of s.schema))
      ∙ ap (drop 1) a.left

  count_left : s.schema.count - s.column ≡ suc (length cols)
  count_left = sym (length-drop s.column (cols_of s.schema) ∙ ap (λ (n : ℕ). n - s.column) a.many) ∙ ap length a.left

  -- the column that is being read
  column_here : column_in s ≡ col
  column_here =
      sym (get_or-take s.schema.count s.schema.columns s.column no_column (omega (arith, count_left)))
      ∙ ap (λ (n : ℕ). get_or (cols_of s.schema) n no_column) (sym (add-zero s.column))
      ∙ sym (get_or-drop s.column (cols_of s.schema) 0 no_column)
      ∙ ap (λ (l : List Column). get_or l 0 no_column) a.left

  judged_here : (xs : List ℕ) → judged s (col ∷ cols) xs
      ≡ field_check s.rows (s.row + length xs) s.column (field_in s xs) (row_fault s.rows (s.row + length xs) (suc s.column) cols)
  judged_here xs =
      ap (λ (c : Column). field_check s.rows (s.row + length xs) s.column (read_field (column_shape c) c.options xs)
      (row_fault s.rows (s.row + length xs) (suc s.column) cols)) (sym column_here)

  -- it is cut off
  cut_off : (xs : List ℕ) → 0 < s.row + length xs → field_in s xs ≡ fault Cut 0 → Open s xs → Refuses s (col ∷ cols) xs
  cut_off xs pos e h = record {
    reason = Row Cut s.rows s.column (s.row + length xs);
    says =
        judged_here xs
        ∙ ap (λ (p : Parsed Slot). field_check s.rows (s.row + length xs) s.column p (row_fault s.rows (s.row + length xs) (suc s.column) cols)) e
        ∙ ap (λ (n : ℕ). Err (Row Cut s.rows s.column n)) (sub-zero (s.row + length xs));
    finish =
        ap finish_fault h.state
        ∙ ap₂ (λ (c : Check) (t : Bool). both c (fail_if t (Row Cut s.rows s.column (s.row + length xs)) (Ok tt))) a.ready.standing
        (lt-ltb 0 (s.row + length xs) pos);
    ends = h.ends;
  }

  -- its fault shows
  broke : (xs : List ℕ) (f : RowFault) (l : ℕ) → field_in s xs ≡ fault f l → Broken s xs f l → Refuses s (col ∷ cols) xs
  broke xs f l e h = record {
    reason = Row f s.rows s.column (s.row + length xs - l);
    says =
        judged_here xs
        ∙ ap (λ (p : Parsed Slot). field_check s.rows (s.row + length xs) s.column p (row_fault s.rows (s.row + length xs) (suc s.column) cols)) e;
    finish = ap finish_fault h.state;
    ends = h.ends;
  }

  -- it is read: what is said of the columns after it
  judged_next : (xs rest : List ℕ) (v : Slot) → field_in s xs ≡ got v rest
      → judged s (col ∷ cols) xs ≡ row_fault s.rows (s.row + length xs) (suc s.column) cols rest
  judged_next xs rest v e =
      judged_here xs
      ∙ ap (λ (p : Parsed Slot). field_check s.rows (s.row + length xs) s.column p (row_fault s.rows (s.row + length xs) (suc s.column) cols)) e

-- the last field is whole: the row ends
last_read : (s : Cutter) (col : Column) (xs rest : List ℕ) (v : Slot) → Before s (col ∷ []) → field_in s xs ≡ got v rest → Ended s xs rest
    → Reads s (col ∷ []) xs
last_read s col xs rest v a e h = record {
  rest = rest;
  done = record {
    part = h.part;
    splits = h.splits;
    state = h.state ∙ ap (λ (t : Bool). cond t (further s (length h.part) (suc s.column) Start) (row_ended s (length h.part))) last;
    ends = h.ends ∙ new_end_lem s (length h.part) ∙ ap (λ (t : Bool). cond t [] ((s.bytes + length h.part) ∷ [])) last;
  };
  says = judged_next s col [] a xs rest v e ∙ ap (λ (c : ℕ). row_fault s.rows (s.row + length xs) c [] rest) (sym (add-one s.column));
}
  where
    last : ltb (suc s.column) s.schema.count ≡ false
    last = le-ltb (suc s.column) s.schema.count (omega (arith, count_left s col [] a))

-- a field is whole and others follow: the row is what they make of it
module _ (s : Cutter) (col next : Column) (cols : List Column) (xs rest : List ℕ) (v : Slot) (a : Before s (col ∷ next ∷ cols))
    (e : field_in s xs ≡ got v rest) (h : Ended s xs rest) where
  abbrev n : ℕ
  n = length h.part

  -- the state after it
  abbrev t : Cutter
  t = further s n (suc s.column) Start

  more : ltb (suc s.column) s.schema.count ≡ true
  more = lt-ltb (suc s.column) s.schema.count (omega (arith, count_left s col (next ∷ cols) a))

  state_next : fed s h.part ≡ t
  state_next = h.state ∙ ap (λ (b : Bool). cond b t (row_ended s n)) more

  ends_next : ends_in s h.part ≡ []
  ends_next = h.ends ∙ new_end_lem s n ∙ ap (λ (b : Bool). cond b [] ((s.bytes + n) ∷ [])) more

  before_next : Before t (next ∷ cols)
  before_next = record { ready = record { standing = a.ready.standing; start = refl }; left = next_left s col (next ∷ cols) a; many = a.many }

  -- the row's bytes in all
  same_length : t.row + length rest ≡ s.row + length xs
  same_length = omega (arith, ap length h.splits, length-append h.part rest)

  judged_t : judged s (col ∷ next ∷ cols) xs ≡ judged t (next ∷ cols) rest
  judged_t =
      judged_next s col (next ∷ cols) a xs rest v e
      ∙ ap (λ (len : ℕ). row_fault s.rows len (suc s.column) (next ∷ cols) rest) (sym same_length)

  fed_t : fed s xs ≡ fed t rest
  fed_t = ap (fed s) h.splits ∙ fed_append s h.part rest ∙ ap (λ (u : Cutter). fed u rest) state_next

  ends_t : (ys : List ℕ) → ends_in s (h.part ++ ys) ≡ ends_in t ys
  ends_t ys = ends_append s h.part ys ∙ ap₂ {C = List ℕ} (λ (x : List ℕ) (u : Cutter). x ++ ends_in u ys) ends_next state_next

  next_reads : Reads t (next ∷ cols) rest → Reads s (col ∷ next ∷ cols) xs
  next_reads g = record {
    rest = g.rest;
    done = record {
      part = h.part ++ g.done.part;
      splits = h.splits ∙ ap (λ (y : List ℕ). h.part ++ y) g.done.splits ∙ sym (append_assoc h.part g.done.part g.rest);
      state =
          fed_append s h.part g.done.part
          ∙ ap (λ (u : Cutter). fed u g.done.part) state_next
          ∙ g.done.state
          ∙ ap (λ (b : ℕ). record { schema = s.schema; refusal = s.refusal; rows = suc s.rows; bytes = b; row = 0; column = 0; spot = Start }) long;
      ends = ends_t g.done.part ∙ g.done.ends ∙ ap (λ (b : ℕ). b ∷ []) long;
    };
    says =
        judged_t ∙ g.says
        ∙ ap₂ (λ (len c : ℕ). row_fault s.rows len c [] g.rest) same_length one_more;
  }
    where
      one_more : suc s.column + suc (length cols) ≡ s.column + suc (suc (length cols))
      one_more = omega arith

      long : s.bytes + n + length g.done.part ≡ s.bytes + length (h.part ++ g.done.part)
      long = omega (arith, length-append h.part g.done.part)

  next_refuses : Refuses t (next ∷ cols) rest → Refuses s (col ∷ next ∷ cols) xs
  next_refuses g = record {
    reason = g.reason;
    says = judged_t ∙ g.says;
    finish = ap finish_fault fed_t ∙ g.finish;
    ends = ap (ends_in s) h.splits ∙ ends_t rest ∙ g.ends;
  }

-- ---- a row from column to column
abbrev pub RowFed : Cutter → List Column → List ℕ → Type 0
RowFed s cols xs = Reads s cols xs ⊎ Refuses s cols xs

-- wherever the row stands before these columns
abbrev RowFrom : List Column → Type 0
RowFrom cols =
    (s : Cutter) (xs : List ℕ) → Before s cols → Bytes xs → s.bytes + length xs ≤ max_total → 0 < s.row + length xs → RowFed s cols xs

either : {A B C D : Type 0} → (A → C) → (B → D) → A ⊎ B → C ⊎ D
either f g (inl a) = inl (f a)
either f g (inr b) = inr (g b)

pub row_from : (col : Column) (cols : List Column) → RowFrom (col ∷ cols)
row_from col [] s xs a bs l pos = go (field_in s xs) refl (field_fed s xs a.ready bs l)
  where
    go : (p : Parsed Slot) → field_in s xs ≡ p → FieldFed s xs p → RowFed s (col ∷ []) xs
    go (got v rest) e h = inl (last_read s col xs rest v a e h)
    go (fault f l) e (inl h) = inr (cut_off s col [] a xs pos (e ∙ ap₂ fault h.0 h.1) h.2)
    go (fault f l) e (inr h) = inr (broke s col [] a xs f l e h)
row_from col (next ∷ cols) s xs a bs l pos = go (field_in s xs) refl (field_fed s xs a.ready bs l) (row_from next cols)
  where
    go : (p : Parsed Slot) → field_in s xs ≡ p → FieldFed s xs p
        → RowFrom (next ∷ cols) → RowFed s (col ∷ next ∷ cols) xs
    go (got v rest) e h ih =
        either (next_reads s col next cols xs rest v a e h) (next_refuses s col next cols xs rest v a e h)
        (ih (t s col next cols xs rest v a e h) rest (before_next s col next cols xs rest v a e h) (bytes_right h.part rest (subst Bytes h.splits bs))
        (omega (arith, ap length h.splits, length-append h.part rest)) (omega (arith, ap length h.splits, length-append h.part rest)))
    go (fault f l) e (inl h) ih = inr (cut_off s col (next ∷ cols) a xs pos (e ∙ ap₂ fault h.0 h.1) h.2)
    go (fault f l) e (inr h) ih = inr (broke s col (next ∷ cols) a xs f l e h)
