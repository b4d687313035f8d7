-- A stream: its ends cut it into exactly the rows that decode accepts, and what is left is refused as decode refuses it. Assumes nothing.
use Prim.Native.Nat.{ℕ, zero, suc, ◌+◌, ◌<◌, ◌≤◌}
use mathlib.Core.Path.{◌≡◌, refl, ap, ap₂, sym, subst, ◌∙◌}
use mathlib.Core.Logic.{◌⊎◌, inl, inr}
use mathlib.Core.List.{List, [], ◌∷◌, ◌++◌, append_assoc, append-nil}
use native.Mathlib.Nat.{add-zero, zero-add}
use native.Mathlib.Omega.{arith}
use lib.Dec.{ltb}
use lib.ListN.{length, get_or, drop, length-append}
use lib.Seq.{take-append_seam, drop_at}
use borrow.Author.Tests.{lt-ltb, le-ltb}
use Rattle.format.specs.declared.Column.{Column}
use Rattle.format.specs.declared.SortOptions.{SortOptions}
use Rattle.format.specs.declared.RowFault.TheVariants.{Cut, Extra}
use Rattle.format.specs.declared.Refusal.TheVariants.{Row}
use Rattle.std.specs.declared.result.Result.TheVariants.{Ok, Err}
use Rattle.format.specs.declared.Cutter.{Cutter}
use Rattle.format.specs.Limits.{max_total}
use Rattle.format.specs.Check.{fail_if}
use Rattle.format.specs.Lists.{Bytes, joined, ends_from}
use Rattle.format.specs.Schemas.{schema_of, cols_of}
use Rattle.format.specs.Kinds.{Shape, fixed, variable, Slot, column_shape}
use Rattle.format.specs.Read.{Parsed, fault, read_field, field_check, row_fault, rows_fault}
use Rattle.format.specs.Entries.{cut_rows}
use Rattle.format.specs.Cutter.{fed, ends_in, begun, finish_fault}
use Rattle.basics.proofs.Bytes.{bytes_right, bytes_take}
use Rattle.basics.proofs.Lists.{Every, length_ends, end_last}
use Rattle.basics.proofs.Checks.{refuse_pass, both_pass, pass_both}
use Rattle.laws.proofs.Cuts.{written_rows}
use Rattle.cutter_laws.specs.Streams.{at_row, row_judged, streamEnds, openRow, CutAsRead}
use Rattle.cutter_laws.proofs.Cutting.{fed_append, ends_append}
use Rattle.cutter_laws.proofs.RowFed.{Before, RowDone, Refuses, RowFed, row_from}

-- the bytes before others are bytes
bytes_left : (x y : List ℕ) → Bytes (x ++ y) → Bytes x
bytes_left x y bs = subst Bytes (take-append_seam x y) (bytes_take (length x) (x ++ y) bs)

module _ (cols : List Column) (some : 0 < length cols) where
  in_use : cols_of (schema_of cols) ≡ cols
  in_use = take-append_seam cols _

  before_row : (r n : ℕ) → Before (at_row cols r n) cols
  before_row r n = record { ready = record { standing = refl; start = refl }; left = in_use; many = ap length in_use }

  row_fed : (r n : ℕ) (xs : List ℕ) → Bytes xs → n + length xs ≤ max_total → 0 < length xs → RowFed (at_row cols r n) cols xs
  row_fed r n xs bs l pos = go cols (before_row r n) some
    where
      go : (cs : List Column) → Before (at_row cols r n) cs → 0 < length cs → RowFed (at_row cols r n) cs xs
      go [] a p = absurd (omega arith)
      go (c ∷ cs) a p = row_from c cs (at_row cols r n) xs a bs l (omega arith)

  -- ---- a row that ended is one that decode accepts
  row_accepted : (r n : ℕ) (x : List ℕ) → Bytes x → n + length x ≤ max_total → ends_in (at_row cols r n) x ≡ (n + length x) ∷ []
      → row_fault r (length x) 0 cols x ≡ Ok tt
  row_accepted r n [] bs l e = absurd (let z : ◌≡◌ {A = ℕ} 0 1 = cc in omega arith)
  row_accepted r n (b ∷ y) bs l e = go (row_fed r n (b ∷ y) bs l (omega arith))
    where
      x : List ℕ
      x = b ∷ y

      go : RowFed (at_row cols r n) cols x → row_fault r (length x) 0 cols x ≡ Ok tt
      go (inl g) =
          ap (λ (len : ℕ). row_fault r len 0 cols x) (sym (zero-add (length x))) ∙ g.says ∙ nothing g.rest none_left
        where
          d : RowDone (at_row cols r n) x g.rest
          d = g.done

          found : (n + length d.part) ∷ ends_in (fed (at_row cols r n) d.part) g.rest ≡ (n + length x) ∷ []
          found =
              ap (λ (z : List ℕ). z ++ ends_in (fed (at_row cols r n) d.part) g.rest) (sym d.ends)
              ∙ sym (ends_append (at_row cols r n) d.part g.rest) ∙ ap (ends_in (at_row cols r n)) (sym d.splits) ∙ e

          none_left : length g.rest ≡ 0
          none_left =
              let same : n + length d.part ≡ n + length x = ap (λ (z : List ℕ). get_or z 0 0) found in
              omega (arith, ap length d.splits, length-append d.part g.rest)

          nothing : (rest : List ℕ) → length rest ≡ 0 → row_fault r (0 + length x) (0 + length cols) [] rest ≡ Ok tt
          nothing [] q = refl
          nothing (c ∷ rest) q = absurd (omega arith)
      go (inr g) = absurd (let z : ◌≡◌ {A = ℕ} 0 1 = ap length (sym g.ends ∙ e) in omega arith)

  -- ---- a stream from row r on, of which n bytes came before

  -- what is left open after r rows of n bytes, of a stream that leaves state u: nothing, or decode refuses it as a finish does
  abbrev Judged : ℕ → ℕ → List ℕ → Cutter → Type 0
  Judged r n left u = ((left ≡ []) × (u ≡ at_row cols r n)) ⊎ (row_fault r (length left) 0 cols left ≡ finish_fault u)

  -- the rows that ended, and what is left open
  record Cutting (r n : ℕ) (xs : List ℕ) : Type 0 where
    pub rows : List (List ℕ)
    pub left : List ℕ
    pub splits : xs ≡ joined rows ++ left
    pub accepted : rows_fault r cols rows ≡ Ok tt
    pub ends : ends_in (at_row cols r n) xs ≡ drop 1 (ends_from n rows)
    pub judged : Judged (r + length rows) (n + length (joined rows)) left (fed (at_row cols r n) xs)

  -- the ends with the first before them
  ends_head : (k : ℕ) (rows : List (List ℕ)) → ends_from k rows ≡ k ∷ drop 1 (ends_from k rows)
  ends_head k [] = refl
  ends_head k (x ∷ rows) = refl

  none_cut : (r n : ℕ) → Cutting r n []
  none_cut r n = record {
    rows = [];
    left = [];
    splits = refl;
    accepted = refl;
    ends = refl;
    judged = inl (refl, ap₂ (at_row cols) (sym (add-zero r)) (sym (add-zero n)));
  }

  -- no row ends
  open_cut : (r n : ℕ) (xs : List ℕ) → Refuses (at_row cols r n) cols xs → Cutting r n xs
  open_cut r n xs g = record {
    rows = [];
    left = xs;
    splits = refl;
    accepted = refl;
    ends = g.ends;
    judged = inr (
        ap₂ (λ (k len : ℕ). row_fault k len 0 cols xs) (add-zero r) (sym (zero-add (length xs))) ∙ g.says ∙ sym g.finish);
  }

  -- a row ends, and then the others
  row_more : (r n : ℕ) (xs rest : List ℕ) → Bytes xs → n + length xs ≤ max_total → (d : RowDone (at_row cols r n) xs rest)
      → Cutting (suc r) (n + length d.part) rest → Cutting r n xs
  row_more r n xs rest bs l d c = record {
    rows = d.part ∷ c.rows;
    left = c.left;
    splits = d.splits ∙ ap (λ (z : List ℕ). d.part ++ z) c.splits ∙ sym (append_assoc d.part (joined c.rows) c.left);
    accepted =
        pass_both (row_fault r (length d.part) 0 cols d.part) (rows_fault (suc r) cols c.rows)
        (row_accepted r n d.part (bytes_left d.part rest (subst Bytes d.splits bs))
        (omega (arith, ap length d.splits, length-append d.part rest)) d.ends) c.accepted;
    ends =
        ap (ends_in (at_row cols r n)) d.splits
        ∙ ends_append (at_row cols r n) d.part rest
        ∙ ap₂ {C = List ℕ} (λ (z : List ℕ) (u : Cutter). z ++ ends_in u rest) d.ends d.state
        ∙ ap (λ (z : List ℕ). (n + length d.part) ∷ z) c.ends
        ∙ sym (ends_head (n + length d.part) c.rows);
    judged = go c.judged;
  }
    where
      fed_part : fed (at_row cols r n) xs ≡ fed (at_row cols (suc r) (n + length d.part)) rest
      fed_part =
          ap (fed (at_row cols r n)) d.splits ∙ fed_append (at_row cols r n) d.part rest ∙ ap (λ (u : Cutter). fed u rest) d.state

      one_more : suc r + length c.rows ≡ r + suc (length c.rows)
      one_more = omega arith

      go : Judged (suc r + length c.rows) (n + length d.part + length (joined c.rows)) c.left (fed (at_row cols (suc r) (n + length d.part)) rest)
          → Judged (r + suc (length c.rows)) (n + length (d.part ++ joined c.rows)) c.left (fed (at_row cols r n) xs)
      go (inl g) = inl (g.0, fed_part ∙ g.1 ∙ ap₂ (at_row cols) one_more (omega (arith, length-append d.part (joined c.rows))))
      go (inr g) = inr (ap (λ (k : ℕ). row_fault k (length c.left) 0 cols c.left) (sym one_more) ∙ g ∙ ap finish_fault (sym fed_part))

  -- a row that ended has a byte
  some_bytes : (r n : ℕ) (x : List ℕ) → ends_in (at_row cols r n) x ≡ (n + length x) ∷ [] → 0 < length x
  some_bytes r n [] e = absurd (let z : ◌≡◌ {A = ℕ} 0 1 = cc in omega arith)
  some_bytes r n (c ∷ x) e = omega arith

  -- one row, and then the others, of which none has more than f bytes
  stream_next : (f r n : ℕ) (xs : List ℕ) → length xs ≤ suc f → Bytes xs → n + length xs ≤ max_total
      → ((m : ℕ) (ys : List ℕ) → length ys ≤ f → Bytes ys → m + length ys ≤ max_total → Cutting (suc r) m ys) → Cutting r n xs
  stream_next f r n [] h bs l ih = none_cut r n
  stream_next f r n (b ∷ xs) h bs l ih = go (row_fed r n (b ∷ xs) bs l (omega arith))
    where
      go : RowFed (at_row cols r n) cols (b ∷ xs) → Cutting r n (b ∷ xs)
      go (inr g) = open_cut r n (b ∷ xs) g
      go (inl g) =
          row_more r n (b ∷ xs) g.rest bs l g.done
          (ih (n + length g.done.part) g.rest (omega (arith, sizes, some_bytes r n g.done.part g.done.ends))
          (bytes_right g.done.part g.rest (subst Bytes g.done.splits bs)) (omega (arith, sizes)))
        where
          sizes : suc (length xs) ≡ length g.done.part + length g.rest
          sizes = ap length g.done.splits ∙ length-append g.done.part g.rest

  stream_from : (f r n : ℕ) (xs : List ℕ) → length xs ≤ f → Bytes xs → n + length xs ≤ max_total → Cutting r n xs
  stream_from zero r n [] h bs l = none_cut r n
  stream_from zero r n (b ∷ xs) h bs l = absurd (omega arith)
  stream_from (suc f) r n xs h bs l = stream_next f r n xs h bs l (λ m ys a b c. stream_from f (suc r) m ys a b c)

  -- the ends cut a stream into exactly the rows that decode accepts, and what is left is refused as decode refuses it
  pub stream_cut : (xs : List ℕ) → Bytes xs → length xs ≤ max_total → CutAsRead cols xs
  stream_cut xs bs l = record { accepted = ap (rows_fault 0 cols) same_rows ∙ c.accepted; left = go c.judged }
    where
      c : Cutting 0 0 xs
      c = stream_from (length xs) 0 0 xs (omega arith) bs (omega arith)

      ends : List ℕ
      ends = streamEnds cols xs

      all_ends : 0 ∷ ends ≡ ends_from 0 c.rows
      all_ends = ap (λ (z : List ℕ). 0 ∷ z) c.ends ∙ sym (ends_head 0 c.rows)

      many : length ends ≡ length c.rows
      many = let z : suc (length ends) ≡ suc (length c.rows) = ap length all_ends ∙ length_ends 0 c.rows in omega arith

      same_rows : cut_rows (length ends) xs (0 ∷ ends) ≡ c.rows
      same_rows =
          ap₂ (λ (k : ℕ) (z : List ℕ). cut_rows k xs z) many (all_ends ∙ sym (append-nil (ends_from 0 c.rows)))
          ∙ ap (λ (z : List ℕ). cut_rows (length c.rows) z (ends_from 0 c.rows ++ [])) c.splits
          ∙ written_rows c.rows c.left [] (length c.rows) refl

      opens : openRow cols xs ≡ c.left
      opens =
          ap₂ {C = List ℕ} (λ (z : List ℕ) (k : ℕ). drop (get_or z k 0) xs) all_ends many
          ∙ ap₂ {C = List ℕ} (λ (k : ℕ) (z : List ℕ). drop k z) (end_last 0 c.rows ∙ zero-add (length (joined c.rows))) c.splits
          ∙ drop_at (joined c.rows) c.left (length (joined c.rows)) refl

      go : Judged (0 + length c.rows) (0 + length (joined c.rows)) c.left (fed (begun cols) xs)
          → ((length (openRow cols xs) ≡ 0) × (finish_fault (fed (begun cols) xs) ≡ Ok tt))
          ⊎ (row_fault (length ends) (length (openRow cols xs)) 0 cols (openRow cols xs) ≡ finish_fault (fed (begun cols) xs))
      go (inl g) = inl (ap length (opens ∙ g.0), ap finish_fault g.1)
      go (inr g) = inr (
          ap₂ (λ (k : ℕ) (z : List ℕ). row_fault k (length z) 0 cols z) (many ∙ sym (zero-add (length c.rows))) opens ∙ g)

  -- ---- rows that decode accepts are cut where they end
  row_whole : (r n : ℕ) (x : List ℕ) → Bytes x → n + length x ≤ max_total → 0 < length x → row_fault r (length x) 0 cols x ≡ Ok tt
      → (fed (at_row cols r n) x ≡ at_row cols (suc r) (n + length x)) × (ends_in (at_row cols r n) x ≡ (n + length x) ∷ [])
  row_whole r n x bs l pos e = go (row_fed r n x bs l pos)
    where
      passes : row_fault r (0 + length x) 0 cols x ≡ Ok tt
      passes = ap (λ (len : ℕ). row_fault r len 0 cols x) (zero-add (length x)) ∙ e

      go : RowFed (at_row cols r n) cols x → (fed (at_row cols r n) x ≡ at_row cols (suc r) (n + length x)) × (ends_in (at_row cols r n) x ≡ (n + length x) ∷ [])
      go (inr g) = absurd (refuse_pass (sym g.says ∙ passes))
      go (inl g) =
          let part : g.done.part ≡ x
          = sym (append-nil g.done.part)
          ∙ ap (λ (z : List ℕ). g.done.part ++ z) (sym (none_left g.rest (sym g.says ∙ passes)))
          ∙ sym g.done.splits in (
            subst (λ (z : List ℕ). fed (at_row cols r n) z ≡ at_row cols (suc r) (n + length z)) part g.done.state,
            subst (λ (z : List ℕ). ends_in (at_row cols r n) z ≡ (n + length z) ∷ []) part g.done.ends,
          )
        where
          none_left : (rest : List ℕ) → row_fault r (0 + length x) (0 + length cols) [] rest ≡ Ok tt → rest ≡ []
          none_left [] q = refl
          none_left (b ∷ rest) q = absurd (refuse_pass q)

  -- no row is empty
  empty_field : (sh : Shape) (o : SortOptions) → read_field sh o [] ≡ fault Cut 0
  empty_field (fixed k) o = refl
  empty_field variable o = refl

  row_some : (r : ℕ) (x : List ℕ) → row_fault r (length x) 0 cols x ≡ Ok tt → 0 < length x
  row_some r (b ∷ x) e = omega arith
  row_some r [] e = go cols some e
    where
      go : (cs : List Column) → 0 < length cs → row_fault r 0 0 cs [] ≡ Ok tt → 0 < 0
      go [] p e = p
      go (col ∷ cs) p e =
          absurd (refuse_pass (sym (ap (λ (z : Parsed Slot). field_check r 0 0 z (row_fault r 0 1 cs)) (empty_field (column_shape col) col.options)) ∙ e))

  rows_from : (r n : ℕ) (rows : List (List ℕ)) → Every Bytes rows → rows_fault r cols rows ≡ Ok tt → n + length (joined rows) ≤ max_total
      → (fed (at_row cols r n) (joined rows) ≡ at_row cols (r + length rows) (n + length (joined rows)))
      × (ends_in (at_row cols r n) (joined rows) ≡ drop 1 (ends_from n rows))
  rows_from r n [] bs e l = (ap₂ (at_row cols) (sym (add-zero r)) (sym (add-zero n)), refl)
  rows_from r n (x ∷ rows) bs e l =
      let sizes = length-append x (joined rows) in
      let p = both_pass (row_fault r (length x) 0 cols x) (rows_fault (suc r) cols rows) e in
      let w = row_whole r n x bs.0 (omega (arith, sizes)) (row_some r x p.0) p.0 in
      let ih = rows_from (suc r) (n + length x) rows bs.1 p.1 (omega (arith, sizes)) in (
        fed_append (at_row cols r n) x (joined rows) ∙ ap (λ (u : Cutter). fed u (joined rows)) w.0 ∙ ih.0
            ∙ ap₂ (at_row cols) (let z : suc r + length rows ≡ r + suc (length rows) = omega arith in z) (omega (arith, sizes)),
        ends_append (at_row cols r n) x (joined rows)
            ∙ ap₂ {C = List ℕ} (λ (z : List ℕ) (u : Cutter). z ++ ends_in u (joined rows)) w.1 w.0
            ∙ ap (λ (z : List ℕ). (n + length x) ∷ z) ih.1
            ∙ sym (ends_head (n + length x) rows),
      )

  pub rows_cut : (rows : List (List ℕ)) → Every Bytes rows → rows_fault 0 cols rows ≡ Ok tt → length (joined rows) ≤ max_total
      → (fed (begun cols) (joined rows) ≡ at_row cols (length rows) (length (joined rows))) × (ends_in (begun cols) (joined rows) ≡ drop 1 (ends_from 0 rows))
  rows_cut rows bs e l =
      let h = rows_from 0 0 rows bs e (omega arith) in
      (h.0 ∙ ap₂ (at_row cols) (zero-add (length rows)) (zero-add (length (joined rows))), h.1)

  -- ---- one row by itself, of which the bytes may come in pieces
  pub row_cut : (r : ℕ) (x : List ℕ) → Bytes x → 0 < length x → length x ≤ max_total
      → row_fault r (length x) 0 cols x ≡ row_judged (length x) r (length cols) (ends_in (at_row cols r 0) x) (finish_fault (fed (at_row cols r 0) x))
  row_cut r x bs pos l = ap (λ (len : ℕ). row_fault r len 0 cols x) (sym (zero-add (length x))) ∙ go (row_fed r 0 x bs (omega arith) pos)
    where
      s : Cutter
      s = at_row cols r 0

      go : RowFed s cols x → row_fault r (0 + length x) 0 cols x ≡ row_judged (length x) r (length cols) (ends_in s x) (finish_fault (fed s x))
      go (inr g) =
          g.says ∙ sym g.finish ∙ ap (λ (z : List ℕ). row_judged (length x) r (length cols) z (finish_fault (fed s x))) (sym g.ends)
      go (inl g) =
          g.says ∙ extra g.rest (ap length g.done.splits ∙ length-append g.done.part g.rest)
          ∙ ap (λ (z : List ℕ). row_judged (length x) r (length cols) z (finish_fault (fed s x))) (sym found)
        where
          part : List ℕ
          part = g.done.part

          found : ends_in s x ≡ (0 + length part) ∷ ends_in (fed s part) g.rest
          found = ap (ends_in s) g.done.splits ∙ ends_append s part g.rest ∙ ap (λ (z : List ℕ). z ++ ends_in (fed s part) g.rest) g.done.ends

          extra : (rest : List ℕ) → length x ≡ length part + length rest
              → row_fault r (0 + length x) (0 + length cols) [] rest
              ≡ fail_if (ltb (0 + length part) (length x)) (Row Extra r (length cols) (0 + length part)) (Ok tt)
          extra [] q = rw (le-ltb (0 + length part) (length x) (omega arith))
          extra (b ∷ rest) q =
              rw (lt-ltb (0 + length part) (length x) (omega arith))
              (ap₂ (λ (c place : ℕ). Err (Row Extra r c place)) (zero-add (length cols)) (omega arith))
