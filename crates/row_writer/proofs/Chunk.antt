-- A chunk of rows, column by column, and chunks one after the other: what holds at the heads of the loops. Assumes nothing.
use Prim.Native.Nat.{ℕ, zero, suc, ◌+◌, ◌-◌, ◌<◌, ◌≤◌}
use mathlib.Core.Path.{◌≡◌, refl, sym, ap, ◌∙◌}
use mathlib.Core.List.{List, [], ◌∷◌, ◌++◌, append_assoc, append-nil}
use native.Mathlib.Numerals.{add-one}
use native.Mathlib.Omega.{arith}
use lib.ListN.{length, length-append}
use lib.Seq.{length-sets}
use Rattle.format.specs.Lists.{each, joined}
use Rattle.basics.proofs.Append.{each_step, each_none}
use Rattle.chunk_writer.specs.Cursors.{cursor, placed, Moved, WroteEach}
use Rattle.row_writer.proofs.Side.{Apart, placed_same, placed_empty, placed_split, placed_both, moved_both, moved_on, moved_same}
use Rattle.row_writer.proofs.Summing.{each_snoc}

pub placed_long : (place : ℕ → ℕ) (piece : ℕ → List ℕ) (i k : ℕ) (out : List ℕ) → length (placed place piece i k out) ≡ length out
placed_long place piece i zero out = refl
placed_long place piece i (suc k) out = placed_long place piece (suc i) k _ ∙ length-sets out (place i) (piece i)

-- ---- the columns of a chunk

-- F r c is the field of row r and column c: the first c of it, and the others
abbrev pub first : (ℕ → ℕ → List ℕ) → ℕ → ℕ → List ℕ
first F c r = joined (each 0 c (F r))

abbrev pub rest : (ℕ → ℕ → List ℕ) → ℕ → ℕ → ℕ → List ℕ
rest F count c r = joined (each c (count - c) (F r))

joined_append : (xs ys : List (List ℕ)) → joined (xs ++ ys) ≡ joined xs ++ joined ys
joined_append [] ys = refl
joined_append (x ∷ xs) ys = ap (λ (l : List ℕ). x ++ l) (joined_append xs ys) ∙ sym (append_assoc x (joined xs) (joined ys))

first_next : (F : ℕ → ℕ → List ℕ) (c r : ℕ) → first F c r ++ F r c ≡ first F (c + 1) r
first_next F c r =
    ap (λ (l : List ℕ). first F c r ++ l) (sym (append-nil (F r c)))
    ∙ sym (joined_append (each 0 c (F r)) (F r c ∷ []))
    ∙ ap (λ (j : ℕ). joined (each 0 c (F r) ++ (F r j ∷ []))) {x = c} {y = 0 + c} (omega arith)
    ∙ ap joined (sym (each_snoc 0 c (F r)))
    ∙ ap (λ (k : ℕ). joined (each 0 k (F r))) (sym (add-one c))

rest_step : (F : ℕ → ℕ → List ℕ) (count c r : ℕ) → c < count → rest F count c r ≡ F r c ++ rest F count (c + 1) r
rest_step F count c r h = ap joined (each_step (F r) count c h) ∙ rw (add-one c)

-- c columns of the rows from `from` to before `to` are written
pub record Chunk (F : ℕ → ℕ → List ℕ) (count from to : ℕ) (rows₀ xs rows now : List ℕ) (c : ℕ) : Type 0 where
  pub within : c ≤ count
  pub same : length rows ≡ length rows₀
  pub says : placed (cursor now) (rest F count c) from (to - from) rows ≡ placed (cursor xs) (first F count) from (to - from) rows₀
  pub moved : Moved (first F c) from to xs now
  pub long : (r : ℕ) → length (first F c r) + length (rest F count c r) ≡ length (first F count r)

module _ {F : ℕ → ℕ → List ℕ} {count from to : ℕ} {rows₀ xs rows now : List ℕ} {c : ℕ} (t : Chunk F count from to rows₀ xs rows now c) (h : c < count) where
  abbrev left : ℕ → ℕ
  left r = length (F r c) + length (rest F count (c + 1) r)

  -- what is left of a row, from its cursor on, ends where the row ends
  same_end : (r : ℕ) → from ≤ r → r < to → cursor now r + left r ≡ cursor xs r + length (first F count r)
  same_end r a b =
      omega (arith, t.moved.past r a b, t.long r, ap length (rest_step F count c r h), length-append (F r c) (rest F count (c + 1) r))

  -- the next field has room
  pub chunk_room : (room : ℕ) → ((r : ℕ) → from ≤ r → r < to → cursor xs r + length (first F count r) ≤ room)
      → (r : ℕ) → from ≤ r → r < to → cursor now r + length (F r c) ≤ room
  chunk_room room fits r a b = omega (arith, fits r a b, same_end r a b)

  -- rows that are apart stay apart
  still_apart : from ≤ to → Apart (cursor xs) (λ r. length (first F count r)) from (to - from) → Apart (cursor now) left from (to - from)
  still_apart l apart r a b =
      omega (arith, apart r a b, same_end r a (omega arith), t.moved.past (suc r) (omega arith) (omega arith))

  -- column c is written
  pub chunk_more : from ≤ to → Apart (cursor xs) (λ r. length (first F count r)) from (to - from) → (rows' now' : List ℕ)
      → WroteEach (λ r. F r c) from to rows now rows' now' → Chunk F count from to rows₀ xs rows' now' (c + 1)
  chunk_more l apart rows' now' w = record {
    within = omega arith;
    same = ap length w.bytes ∙ placed_long (cursor now) (λ r. F r c) from (to - from) rows ∙ t.same;
    says =
        ap (placed (cursor now') (rest F count (c + 1)) from (to - from)) w.bytes
        ∙ placed_same (cursor now') (λ r. cursor now r + length (F r c)) (rest F count (c + 1)) (rest F count (c + 1)) from (to - from) _
        (λ j a b. (w.moved.past j a (omega arith), refl))
        ∙ sym (placed_both (cursor now) (λ r. F r c) (rest F count (c + 1)) from (to - from) rows (still_apart l apart))
        ∙ placed_same (cursor now) (cursor now) (λ r. F r c ++ rest F count (c + 1) r) (rest F count c) from (to - from) rows
        (λ j a b. (refl, sym (rest_step F count c j h)))
        ∙ t.says;
    moved = moved_same (first_next F c) (moved_both t.moved w.moved);
    long = λ r.
        omega (
          arith,
          t.long r,
          ap length (rest_step F count c r h),
          length-append (F r c) (rest F count (c + 1) r),
          ap length (first_next F c r),
          length-append (first F c r) (F r c),
        );
  }

-- all columns are
pub chunk_end : {F : ℕ → ℕ → List ℕ} {count from to : ℕ} {rows₀ xs rows now : List ℕ} {c : ℕ} → Chunk F count from to rows₀ xs rows now c → count ≤ c
    → WroteEach (first F count) from to rows₀ xs rows now
chunk_end {F} {count} {from} {to} {rows₀} {xs} {rows} {now} {c} t h =
    let e : c ≡ count = omega (arith, t.within) in
    record {
      bytes =
          sym (placed_empty (cursor now) from (to - from) rows)
          ∙ placed_same (cursor now) (cursor now) (λ r. []) (rest F count c) from (to - from) rows (λ j a b. (refl, sym (ap joined (each_none (F j) count c h))))
          ∙ t.says;
      moved = moved_same (λ r. ap (λ (k : ℕ). first F k r) e) t.moved;
    }

-- ---- the chunks

-- the rows before `from` are written
pub record Chunks (row : ℕ → List ℕ) (n : ℕ) (rows₀ xs rows now : List ℕ) (from : ℕ) : Type 0 where
  pub within : from ≤ n
  pub same : length rows ≡ length rows₀
  pub says : placed (cursor xs) row from (n - from) rows ≡ placed (cursor xs) row 0 (n - 0) rows₀
  pub moved : Moved row 0 from xs now

module _ {row : ℕ → List ℕ} {n : ℕ} {rows₀ xs rows now : List ℕ} {from : ℕ} (t : Chunks row n rows₀ xs rows now from) where
  -- cursors of rows to come are where they were
  pub chunks_still : (r : ℕ) → from ≤ r → cursor now r ≡ cursor xs r
  chunks_still r a = t.moved.after (suc r) (omega arith)

  -- a chunk more
  pub chunks_more : (to : ℕ) → from ≤ to → to ≤ n → (rows' now' : List ℕ) → WroteEach row from to rows now rows' now' → Chunks row n rows₀ xs rows' now' to
  chunks_more to l m rows' now' w =
      let e : n - from ≡ (to - from) + (n - to) = omega arith in
      let f : from + (to - from) ≡ to = omega arith in
      record {
        within = m;
        same = ap length w.bytes ∙ placed_long (cursor now) row from (to - from) rows ∙ t.same;
        says =
            ap (placed (cursor xs) row to (n - to))
            (w.bytes ∙ placed_same (cursor now) (cursor xs) row row from (to - from) rows (λ j a b. (chunks_still j a, refl)))
            ∙ ap (λ (k : ℕ). placed (cursor xs) row k (n - to) (placed (cursor xs) row from (to - from) rows)) (sym f)
            ∙ sym (placed_split (cursor xs) row from (to - from) (n - to) rows)
            ∙ ap (λ (k : ℕ). placed (cursor xs) row from k rows) (sym e)
            ∙ t.says;
        moved = moved_on t.moved w.moved (omega arith) l;
      }

-- no row is left
pub chunks_end : {row : ℕ → List ℕ} {n : ℕ} {rows₀ xs rows now : List ℕ} → Chunks row n rows₀ xs rows now n → WroteEach row 0 n rows₀ xs rows now
chunks_end {row} {n} {xs = xs} {rows = rows} t = record {
  bytes = ap (λ (k : ℕ). placed (cursor xs) row n k rows) {x = 0} {y = n - n} (omega arith) ∙ t.says;
  moved = t.moved;
}
