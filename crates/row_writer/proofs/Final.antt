-- The whole: rows at their starts are the rows joined, and their cursors, moved past them, are the offsets. Assumes nothing.
use Prim.Native.Nat.{ℕ, zero, suc, ◌+◌, ◌-◌, ◌<◌, ◌≤◌}
use mathlib.Core.Path.{◌≡◌, refl, sym, ap, ◌∙◌}
use mathlib.Core.List.{List, [], ◌++◌}
use mathlib.Core.Logic.{◌⊎◌, inl, inr}
use native.Mathlib.Omega.{arith}
use lib.ListN.{length, get_or, set, drop, length-set, get_or-append}
use lib.Seq.{sets, length-sets, get_or-set_same, get_or-set_other, get_or-append-add, get_or-drop, ext_get_or}
use Rattle.format.specs.Lists.{each, joined, ends_from}
use Rattle.basics.proofs.Append.{over_sets}
use Rattle.basics.proofs.Compare.{choose}
use Rattle.basics.proofs.Lists.{each_at, length_each, end_at, end_first, end_next, length_ends}
use Rattle.chunk_writer.specs.Cursors.{cursor, placed, WroteEach}
use Rattle.row_writer.specs.Starts.{CursorsAt, row_start}
use Rattle.row_writer.proofs.Side.{placed_same, placed_run}
use Rattle.row_writer.proofs.Summing.{start_next}

-- the end before row r is its start
ends_starts : (row : ℕ → List ℕ) (n i : ℕ) → i ≤ n → end_at 0 (each 0 n row) i ≡ row_start row i
ends_starts row n zero h = end_first 0 (each 0 n row)
ends_starts row n (suc i) h =
    end_next 0 (each 0 n row) i (omega (arith, length_each 0 n row))
    ∙ ap (λ (k : ℕ). k + length (get_or (each 0 n row) i [])) (ends_starts row n i (omega arith))
    ∙ ap (λ (l : List ℕ). row_start row i + length l) (each_at n row [] i (omega arith))
    ∙ sym (start_next row i)

module _ (row : ℕ → List ℕ) (n : ℕ) (offsets xs rows rows' now : List ℕ) (room : n < length offsets)
    (starts : CursorsAt (row_start row) n (set offsets 0 0) xs) (w : WroteEach row 0 n rows xs rows' now) where
  pub rows_whole : rows' ≡ sets rows 0 (joined (each 0 n row))
  rows_whole =
      w.bytes ∙ ap (λ (k : ℕ). placed (cursor xs) row 0 k rows) {x = n - 0} {y = n} (omega arith)
      ∙ placed_same (cursor xs) (row_start row) row row 0 n rows (λ j a b. (starts.says j (omega arith), refl))
      ∙ placed_run (row_start row) row 0 n rows (λ j a b. start_next row j)

  abbrev ends : List ℕ
  ends = ends_from 0 (each 0 n row)

  long : length ends ≡ suc n
  long = length_ends 0 (each 0 n row) ∙ ap suc (length_each 0 n row)

  -- as the sheet of offsets is written
  in_front : sets offsets 0 ends ≡ ends ++ drop (length ends) offsets
  in_front = sym (over_sets ends offsets (omega (arith, long)))

  cleared : length (set offsets 0 0) ≡ length offsets
  cleared = length-set offsets 0 0

  early : (i : ℕ) → i ≤ n → get_or now i 0 ≡ row_start row i
  early zero h = w.moved.before 0 (omega arith) ∙ starts.stays.first ∙ get_or-set_same offsets 0 0 0 (omega arith)
  early (suc r) h = w.moved.past r (omega arith) (omega arith) ∙ ap (λ (k : ℕ). k + length (row r)) (starts.says r (omega arith)) ∙ sym (start_next row r)

  late : (i : ℕ) → n < i → get_or now i 0 ≡ get_or offsets i 0
  late i h = w.moved.after i h ∙ starts.stays.after i h ∙ get_or-set_other offsets 0 i 0 0 (λ q. absurd (omega (arith, q)))

  same_at : (i : ℕ) → (i < suc n) ⊎ (suc n ≤ i) → get_or now i 0 ≡ get_or (ends ++ drop (length ends) offsets) i 0
  same_at i (inl l) =
      early i (omega arith) ∙ sym (ends_starts row n i (omega arith)) ∙ sym (get_or-append ends (drop (length ends) offsets) 0 i (omega (arith, long)))
  same_at i (inr l) =
      let e : length ends + (i - length ends) ≡ i = omega (arith, long) in
      late i (omega arith)
      ∙ ap (λ (k : ℕ). get_or offsets k 0) (sym e)
      ∙ sym (get_or-drop (length ends) offsets (i - length ends) 0)
      ∙ sym (get_or-append-add ends (drop (length ends) offsets) (i - length ends) 0)
      ∙ ap (λ (k : ℕ). get_or (ends ++ drop (length ends) offsets) k 0) e

  pub same_offsets : length now ≡ length offsets
  same_offsets = w.moved.same ∙ starts.stays.same ∙ cleared

  pub offsets_whole : now ≡ sets offsets 0 ends
  offsets_whole =
      ext_get_or 0 now (sets offsets 0 ends) (same_offsets ∙ sym (length-sets offsets 0 ends))
      (λ i l. same_at i (choose i (suc n)) ∙ ap (λ (l : List ℕ). get_or l i 0) (sym in_front))
