-- Every step keeps the rule on a row cutter's state. Assumes nothing.
use Prim.Native.Nat.{ℕ, zero, suc, ◌+◌, ◌-◌, ◌*◌, ◌<◌, ◌≤◌}
use mathlib.Core.Path.{◌≡◌, refl, ap, sym, subst, ◌∙◌}
use mathlib.Core.Bool.{Bool, true, false, cond, ◌&&◌, ◌||◌}
use mathlib.Core.List.{List, [], ◌∷◌}
use native.Mathlib.Nat.{suc-mul, mul-le-mul_left, mul-one}
use native.Mathlib.Numerals.{add-one}
use native.Mathlib.Omega.{arith}
use lib.Dec.{ltb, leb, eqb}
use lib.ListN.{length, get_or, take}
use lib.Seq.{length-take-le, take_all, get_or-take}
use borrow.Author.Tests.{ltb-true, ltb-false, leb-true, lt-ltb, le-leb}
use Rattle.format.specs.declared.Column.{Column}
use Rattle.format.specs.declared.Refusal.TheVariants.{ManyBytes}
use Rattle.format.specs.Check.{Check}
use Rattle.std.specs.declared.result.Result.TheVariants.{Ok, Err}
use Rattle.format.specs.declared.Spot.{Spot}
use Rattle.format.specs.declared.Spot.TheVariants.{Start}
use Rattle.format.specs.declared.Cutter.{Cutter}
use Rattle.format.specs.Limits.{max_columns, max_total}
use Rattle.format.specs.Lists.{Bytes}
use Rattle.format.specs.Kinds.{Shape, fixed, variable, column_shape}
use Rattle.format.specs.Schemas.{no_column, cols_of}
use Rattle.format.specs.Numbers.{four, fault_number}
use Rattle.format.specs.CutterRule.{within, fault_kept, numbers_kept, schema_kept, field_seen, spot_kept, fewest, most, over_all, standing_kept, keeps_with, keeps, column_in}
use Rattle.format.specs.Cutter.{Move, on, whole, bad, move_in, refused, further, row_ended, moved, taken, unless, step, fed}
use Rattle.cutter_laws.specs.Calls.{Whole, Kept}
use Rattle.cutter_laws.proofs.RuleMoves.{and_true, true_and, or_true, within_true, true_within, Okay, move_okay}

-- ---- over columns

over_next : (f : Shape → ℕ) (cols : List Column) (c : ℕ) → c < length cols
    → over_all f (take (suc c) cols) ≡ over_all f (take c cols) + f (column_shape (get_or cols c no_column))
over_next f [] c l = absurd (omega arith)
over_next f (col ∷ cols) zero l = let q : f (column_shape col) + 0 ≡ 0 + f (column_shape col) = omega arith in q
over_next f (col ∷ cols) (suc c) l =
    let ih = over_next f cols c (omega arith) in
    let q : f (column_shape col) + over_all f (take (suc c) cols) ≡ f (column_shape col) + over_all f (take c cols) + f (column_shape (get_or cols c no_column))
    = omega (arith, ih) in
    q

-- every field has a byte
pub over_length : (cols : List Column) → length cols ≤ over_all fewest cols
over_length [] = omega arith
over_length (col ∷ cols) = omega (arith, over_length cols, one (column_shape col))
  where
    one : (sh : Shape) → 1 ≤ fewest sh
    one (fixed k) = omega arith
    one variable = omega arith

-- ---- what a state that keeps the rule says

pub record Stands (s : Cutter) : Type 0 where
  pub schema : schema_kept s.schema ≡ true
  pub count : s.schema.count ≤ max_columns
  pub column : s.column < s.schema.count
  pub spot : spot_kept (column_shape (column_in s)) (column_in s).options.fold s.row s.spot ≡ true
  pub row_low : over_all fewest (take s.column (cols_of s.schema)) + field_seen s.spot ≤ s.row
  pub row_high : s.row ≤ over_all most (take s.column (cols_of s.schema)) + field_seen s.spot
  pub bytes_low : s.row ≤ s.bytes
  pub bytes_high : s.bytes ≤ max_total
  pub rows_low : s.rows * over_all fewest (cols_of s.schema) ≤ s.bytes - s.row
  pub rows_high : s.bytes - s.row ≤ s.rows * over_all most (cols_of s.schema)

pub stands_of : (s : Cutter) → standing_kept s ≡ true → Stands s
stands_of s h =
    let a = and_true h in
    let b = and_true a.0 in
    let c = and_true b.0 in
    let d = and_true c.0 in
    let r = within_true _ _ s.row b.1 in
    let t = and_true a.1 in
    let u = within_true s.row max_total s.bytes t.0 in
    let v = within_true _ _ (s.bytes - s.row) t.1 in
    record {
      schema = d.0;
      count = leb-true s.schema.count max_columns (and_true d.0).0;
      column = ltb-true s.column s.schema.count d.1;
      spot = c.1;
      row_low = r.0;
      row_high = r.1;
      bytes_low = u.0;
      bytes_high = u.1;
      rows_low = v.0;
      rows_high = v.1;
    }

of_stands : (s : Cutter) → Stands s → standing_kept s ≡ true
of_stands s t =
    true_and
    (true_and
    (true_and
    (true_and t.schema (lt-ltb s.column s.schema.count t.column))
    t.spot)
    (true_within _ _ s.row t.row_low t.row_high))
    (true_and (true_within s.row max_total s.bytes t.bytes_low t.bytes_high) (true_within _ _ (s.bytes - s.row) t.rows_low t.rows_high))

-- a refusal for a row's fault, as a byte leaves it
fault_kept_lem : (n r c place : ℕ) → fault_kept n ≡ true → r + place < max_total → c < max_columns → numbers_kept (four n r c place) ≡ true
fault_kept_lem n r c place f l m =
    or_true (within 1 5 n && leb r (4 * max_columns) || eqb n 12 && eqb r (suc max_total) && leb c max_total)
    (true_and (true_and f (lt-ltb (r + place) max_total l)) (lt-ltb c max_columns m))

module _ (s : Cutter) (w : Whole s) (t : Stands s) where
  abbrev cols : List Column
  cols = cols_of s.schema

  abbrev sh : Shape
  sh = column_shape (column_in s)

  -- as many columns as the count says
  pub many : length cols ≡ s.schema.count
  many = length-take-le s.schema.count s.schema.columns (omega (arith, w, t.count))

  -- the field after which column c + 1 stands
  over_here : (f : Shape → ℕ) → over_all f (take (suc s.column) cols) ≡ over_all f (take s.column cols) + f sh
  over_here f =
      over_next f cols s.column (omega (arith, many, t.column))
      ∙ ap (λ (col : Column). over_all f (take s.column cols) + f (column_shape col))
      (get_or-take s.schema.count s.schema.columns s.column no_column t.column)

  -- no fewer bytes than rows
  pub rows_most : s.rows ≤ s.bytes - s.row
  rows_most =
      let f : 1 ≤ over_all fewest cols = omega (arith, over_length cols, many, t.column) in
      let g : s.rows * 1 ≤ s.rows * over_all fewest cols = mul-le-mul_left s.rows f in
      omega (arith, mul-one s.rows, t.rows_low)

  -- a byte more of the same field
  on_stands : (spot : Spot) → s.bytes < max_total → field_seen spot ≡ suc (field_seen s.spot)
      → spot_kept sh (column_in s).options.fold (s.row + 1) spot ≡ true → Stands (further s 1 s.column spot)
  on_stands spot room seen kept = record {
    schema = t.schema;
    count = t.count;
    column = t.column;
    spot = kept;
    row_low = omega (arith, t.row_low, seen);
    row_high = omega (arith, t.row_high, seen);
    bytes_low = omega (arith, t.bytes_low);
    bytes_high = omega (arith, room);
    rows_low = omega (arith, t.rows_low, t.bytes_low);
    rows_high = omega (arith, t.rows_high, t.bytes_low);
  }

  -- the last byte of a field that is not the last
  next_stands : s.bytes < max_total → fewest sh ≤ suc (field_seen s.spot) → suc (field_seen s.spot) ≤ most sh → suc s.column < s.schema.count
      → Stands (further s 1 (suc s.column) Start)
  next_stands room few many' more = record {
    schema = t.schema;
    count = t.count;
    column = more;
    spot = refl;
    row_low = omega (arith, t.row_low, over_here fewest);
    row_high = omega (arith, t.row_high, over_here most);
    bytes_low = omega (arith, t.bytes_low);
    bytes_high = omega (arith, room);
    rows_low = omega (arith, t.rows_low, t.bytes_low);
    rows_high = omega (arith, t.rows_high, t.bytes_low);
  }

  -- the last byte of a row
  all_here : (f : Shape → ℕ) → s.schema.count ≤ suc s.column → over_all f cols ≡ over_all f (take s.column cols) + f sh
  all_here f l = ap (over_all f) (sym (take_all (suc s.column) cols (omega (arith, many)))) ∙ over_here f

  end_stands : s.bytes < max_total → fewest sh ≤ suc (field_seen s.spot) → suc (field_seen s.spot) ≤ most sh → s.schema.count ≤ suc s.column
      → Stands (row_ended s 1)
  end_stands room few many' last = record {
    schema = t.schema;
    count = t.count;
    column = omega (arith, t.column);
    spot = refl;
    row_low = omega arith;
    row_high = omega arith;
    bytes_low = omega arith;
    bytes_high = omega (arith, room);
    rows_low = omega (arith, suc-mul s.rows (over_all fewest cols), all_here fewest last, t.row_low, t.rows_low, t.bytes_low);
    rows_high = omega (arith, suc-mul s.rows (over_all most cols), all_here most last, t.row_high, t.rows_high, t.bytes_low);
  }

  -- a state that goes on from s, which no refusal stands in
  going : s.refusal ≡ Ok tt → (u : Cutter) → u.refusal ≡ s.refusal → Stands u → keeps u ≡ true
  unfolding keeps
  going e u same v = ap (λ (c : Check). keeps_with c u) (same ∙ e) ∙ of_stands u v

  moved_keeps : s.refusal ≡ Ok tt → s.bytes < max_total → (m : Move) → Okay sh (column_in s).options.fold s.row (field_seen s.spot) m → Kept (moved s m)
  unfolding keeps
  moved_keeps e room (on spot) h = (w, going e (further s 1 s.column spot) refl (on_stands spot room h.0 (rw add-one h.1)))
  moved_keeps e room whole h = go (ltb (suc s.column) s.schema.count) refl
    where
      go : (b : Bool) → ltb (suc s.column) s.schema.count ≡ b → Kept (cond b (further s 1 (suc s.column) Start) (row_ended s 1))
      go true q = (w, going e (further s 1 (suc s.column) Start) refl (next_stands room h.0 h.1 (ltb-true (suc s.column) s.schema.count q)))
      go false q = (w, going e (row_ended s 1) refl (end_stands room h.0 h.1 (ltb-false (suc s.column) s.schema.count q)))
  moved_keeps e room (bad f place) h = (
    refl,
    fault_kept_lem (fault_number f) s.rows s.column place h.0 (omega (arith, h.1, rows_most, t.bytes_low, room)) (omega (arith, t.column, t.count)),
  )

  taken_keeps : (b : ℕ) → b < 256 → s.refusal ≡ Ok tt → Kept (taken s b)
  unfolding keeps
  taken_keeps b byte e = go (ltb s.bytes max_total) refl
    where
      go : (q : Bool) → ltb s.bytes max_total ≡ q → Kept (cond q (moved s (move_in s b)) (refused (ManyBytes (suc max_total) s.rows)))
      go true q =
          moved_keeps e (ltb-true s.bytes max_total q) (move_in s b)
          (move_okay (column_shape (column_in s)) (column_in s).options s.spot s.row b byte (omega (arith, t.row_low)) t.spot)
      go false q = (refl, rw (le-leb s.rows max_total (omega (arith, rows_most, t.bytes_high))))

-- every state from a byte keeps the rule
pub step_keeps : (s : Cutter) (b : ℕ) → b < 256 → Kept s → Kept (step s b)
unfolding keeps
step_keeps s b byte (w, h) = go s.refusal refl
  where
    go : (c : Check) → s.refusal ≡ c → Kept (unless s.refusal s (taken s b))
    go (Ok tt) e =
        let t = stands_of s (sym (ap (λ (c : Check). keeps_with c s) e) ∙ h) in
        subst (λ (c : Check). Kept (unless c s (taken s b))) (sym e) (taken_keeps s w t b byte e)
    go (Err r) e = subst (λ (c : Check). Kept (unless c s (taken s b))) (sym e) (w, h)

-- and from a piece
pub fed_keeps : (s : Cutter) (p : List ℕ) → Bytes p → Kept s → Kept (fed s p)
fed_keeps s [] bs h = h
fed_keeps s (b ∷ p) bs h = fed_keeps (step s b) p bs.1 (step_keeps s b bs.0 h)
