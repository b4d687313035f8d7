-- Offsets that cut bytes into rows: what passes, what is cut out of written rows, and what cut rows come to again. Assumes nothing.
use Prim.Native.Nat.{ℕ, zero, suc, ◌+◌, ◌-◌, ◌<◌, ◌≤◌}
use mathlib.Core.Path.{◌≡◌, ap, ap₂, sym, subst, ◌∙◌}
use mathlib.Core.Bool.{not}
use mathlib.Core.List.{List, [], ◌++◌}
use native.Mathlib.Nat.{zero-add, add-zero}
use native.Mathlib.Numerals.{add-one}
use native.Mathlib.Omega.{arith}
use lib.Dec.{eqb}
use lib.ListN.{length, get_or, take, drop, length-append, get_or-append}
use borrow.Author.Tests.{eqb-true, not-false}
use Rattle.std.specs.declared.result.Result.TheVariants.{Ok}
use Rattle.format.specs.Limits.{max_total}
use Rattle.format.specs.Lists.{Bytes, ends_from, joined}
use Rattle.format.specs.Entries.{offset_room_fault, fall_fault, offsets_fault, row_bytes, cut_rows}
use Rattle.format.specs.Passed.{Cuts, Lies, AllLie}
use Rattle.basics.proofs.Bytes.{bytes_take, bytes_drop}
use Rattle.basics.proofs.Lists.{Every, every_each, each_is, end_at, length_ends, end_first, end_next, end_last, cut_at}
use Rattle.basics.proofs.Checks.{fail_if_pass, enough, both_pass}

-- ---- they do exactly where nothing is refused
falls_from : (offsets : List ℕ) (i k : ℕ) → fall_fault offsets i k ≡ Ok tt → (j : ℕ) → j < k → get_or offsets (i + j) 0 ≤ get_or offsets (suc (i + j)) 0
falls_from offsets i zero e j l = absurd (omega arith)
falls_from offsets i (suc k) e zero l = rw add-zero (enough (get_or offsets (suc i) 0) (get_or offsets i 0) _ _ e).0
falls_from offsets i (suc k) e (suc j) l =
    subst (λ (m : ℕ). get_or offsets m 0 ≤ get_or offsets (suc m) 0) (let q : suc i + j ≡ i + suc j = omega arith in q)
    (falls_from offsets (suc i) k (enough (get_or offsets (suc i) 0) (get_or offsets i 0) _ _ e).1 j (omega arith))

pub offsets_passed : (n : ℕ) (bytes offsets : List ℕ) → offsets_fault n bytes offsets ≡ Ok tt → Cuts n bytes offsets
offsets_passed n bytes offsets e =
    let p = both_pass (offset_room_fault n (length offsets)) _ e in
    let q = fail_if_pass (not (eqb (get_or offsets 0 0) 0)) _ _ p.1 in
    let r = both_pass (fall_fault offsets 0 n) _ q.1 in
    let s = enough (length bytes) (get_or offsets n 0) _ _ r.1 in
    record {
      there = (enough (length offsets) (suc n) _ _ p.0).0;
      first = eqb-true (get_or offsets 0 0) 0 (not-false (eqb (get_or offsets 0 0) 0) q.0);
      rising = λ j l. subst (λ (m : ℕ). get_or offsets m 0 ≤ get_or offsets (suc m) 0) (zero-add j) (falls_from offsets 0 n r.0 j l);
      inside = s.0;
      small = (enough max_total (get_or offsets n 0) _ _ s.1).0;
    }

-- ---- rows that were written, with their ends, before anything else
module _ (rows : List (List ℕ)) (t u : List ℕ) (n : ℕ) (many : length rows ≡ n) where
  abbrev bytes : List ℕ
  bytes = joined rows ++ t

  abbrev offsets : List ℕ
  offsets = ends_from 0 rows ++ u

  at : (i : ℕ) → i ≤ n → get_or offsets i 0 ≡ end_at 0 rows i
  at i l = get_or-append (ends_from 0 rows) u 0 i (omega (arith, length_ends 0 rows))

  last : get_or offsets n 0 ≡ length (joined rows)
  last = at n (omega arith) ∙ ap (end_at 0 rows) (sym many) ∙ end_last 0 rows ∙ zero-add (length (joined rows))

  pub written_cuts : length (joined rows) ≤ max_total → Cuts n bytes offsets
  written_cuts small = record {
    there = omega (arith, length-append (ends_from 0 rows) u, length_ends 0 rows);
    first = at 0 (omega arith) ∙ end_first 0 rows;
    rising = λ j l. omega (arith, at j (omega arith), at (suc j) l, end_next 0 rows j (omega arith));
    inside = omega (arith, last, length-append (joined rows) t);
    small = omega (arith, last);
  }

  -- row i
  pub written_row : (i : ℕ) → i < n → row_bytes bytes offsets i ≡ get_or rows i []
  written_row i l =
      ap₂ {C = List ℕ} (λ (a b : ℕ). take (a - b) (drop b (joined rows ++ t))) (at (suc i) l) (at i (omega arith)) ∙ cut_at rows t i (omega arith)

  pub written_rows : cut_rows n bytes offsets ≡ rows
  written_rows = each_is rows [] n (row_bytes bytes offsets) many written_row

-- ---- rows that were cut out
pub cut_bytes : (n : ℕ) (bytes offsets : List ℕ) → Bytes bytes → Every Bytes (cut_rows n bytes offsets)
cut_bytes n bytes offsets b = every_each Bytes 0 n (row_bytes bytes offsets) (λ j x y.
    bytes_take (get_or offsets (suc j) 0 - get_or offsets j 0) (drop (get_or offsets j 0) bytes) (bytes_drop (get_or offsets j 0) bytes b))

module _ (n : ℕ) (bytes offsets : List ℕ) (c : Cuts n bytes offsets) where
  -- no offset is past the last
  pub below_last : (d i : ℕ) → i + d ≡ n → get_or offsets i 0 ≤ get_or offsets n 0
  below_last zero i e = subst (λ (m : ℕ). get_or offsets i 0 ≤ get_or offsets m 0) (let q : i ≡ n = omega arith in q) (omega arith)
  below_last (suc d) i e = omega (arith, c.rising i (omega arith), below_last d (suc i) (omega arith))

-- row r lies between its offsets
pub cuts_lie : {n : ℕ} {bytes offsets : List ℕ} → Cuts n bytes offsets → AllLie n bytes offsets
cuts_lie {n} {bytes} {offsets} c r h = record {
  there = omega (arith, c.there);
  rises = rw (add-one r) (c.rising r h);
  inside = omega (arith, below_last n bytes offsets c (n - (r + 1)) (r + 1) (omega arith), c.inside);
}
