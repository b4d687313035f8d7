-- A row cutter's state that keeps the rule is read back from its bytes, whatever stands after them. Assumes nothing.
use Prim.Native.Nat.{ℕ, ◌+◌, ◌-◌, ◌*◌, ◌^◌, ◌<◌, ◌≤◌}
use mathlib.Core.Path.{◌≡◌, refl, ap, ap₂, sym, subst, ◌∙◌}
use mathlib.Core.Bool.{Bool, true, false, cond, ◌&&◌, ◌||◌, false≢true}
use mathlib.Core.List.{List, [], ◌∷◌, ◌++◌, append_assoc}
use native.Mathlib.Nat.{pow-le-pow_right}
use native.Mathlib.Omega.{arith}
use lib.Dec.{ltb, leb, eqb, lit<}
use lib.ListN.{length, get_or, take, drop, replicate, length-append, length-replicate}
use lib.Seq.{take_at, drop_at, take-append_seam, get_or-take}
use borrow.Author.Tests.{ltb-true, ltb-false, leb-true, eqb-true, eq-eqb, le-leb}
use Rattle.format.specs.declared.Kind.{Kind}
use Rattle.format.specs.declared.Kind.TheVariants.{Bool as KindBool, I8, I16, I32, I64, U8, U16, U32, U64, F16, F32, F64, DayTime, MonthDayNano, FixedBinary, Variable, I128, I256}
use Rattle.format.specs.declared.Column.{Column}
use Rattle.format.specs.declared.Schema.{Schema}
use Rattle.format.specs.declared.Refusal.{Refusal}
use Rattle.format.specs.Check.{Check}
use Rattle.std.specs.declared.result.Result.TheVariants.{Ok, Err}
use Rattle.format.specs.declared.Spot.{Spot}
use Rattle.format.specs.declared.Spot.TheVariants.{Start, Nulls, Value, Block}
use Rattle.format.specs.declared.Cutter.{Cutter}
use Rattle.format.specs.Limits.{max_columns, max_width, max_slot, max_total}
use Rattle.format.specs.Lists.{each}
use Rattle.format.specs.Kinds.{Shape, fixed, variable, shape, shape_bytes, width, value_bytes, column_shape}
use Rattle.format.specs.Fold.{folds}
use Rattle.format.specs.Field.{block_size}
use Rattle.format.specs.Schemas.{no_column, schema_of, cols_of}
use Rattle.format.specs.Described.{codes, code_at, column_of}
use Rattle.format.specs.Numbers.{refusal_numbers}
use Rattle.format.specs.Lent.{eights, eight_bytes}
use Rattle.format.specs.CutterRule.{within, before, columns_kept, spot_kept, column_in, numbers_kept, at_start, emptied, keeps_with, keeps}
use Rattle.format.specs.Cutter.{begun}
use Rattle.format.specs.CutterBytes.{check_numbers, spot_numbers, state_numbers, numbers_size, state_bytes, state_size, spot_of, columns_of, state_from, state_of, same, lent_keeps, lent_state}
use Rattle.basics.proofs.Lists.{every_at}
use Rattle.laws.proofs.Columns.{Narrow}
use Rattle.lent_bytes.proofs.NumberBytes.{length_eights}
use Rattle.cutter_laws.specs.Calls.{Whole}
use Rattle.cutter_laws.proofs.RuleMoves.{and_true, true_and, within_true, size_most}
use Rattle.cutter_laws.proofs.RuleKept.{Stands, stands_of, many, rows_most}
use Rattle.cutter_laws.proofs.Coding.{Small, TwoBytes, number_list, eights_back, length_codes, columns_back, Written, refusal_written}

-- ---- eight bytes hold each number of a state that keeps the rule

small_append : (xs ys : List ℕ) → Small xs → Small ys → Small (xs ++ ys)
small_append [] ys p q = q
small_append (x ∷ xs) ys p q = (p.0, small_append xs ys p.1 q)

-- a float has at most eight bytes
abbrev FloatsEight : Shape → Type 0
FloatsEight (fixed k) = (fold : Bool) → folds k fold ≡ true → width k ≤ 8
FloatsEight variable = Unit {0}

floats_eight : (kind : Kind) → FloatsEight (shape kind)
floats_eight KindBool = λ fold e. absurd (false≢true e)
floats_eight I8 = λ fold e. absurd (false≢true e)
floats_eight I16 = λ fold e. absurd (false≢true e)
floats_eight I32 = λ fold e. absurd (false≢true e)
floats_eight I64 = λ fold e. absurd (false≢true e)
floats_eight U8 = λ fold e. absurd (false≢true e)
floats_eight U16 = λ fold e. absurd (false≢true e)
floats_eight U32 = λ fold e. absurd (false≢true e)
floats_eight U64 = λ fold e. absurd (false≢true e)
floats_eight F16 = λ fold e. omega arith
floats_eight F32 = λ fold e. omega arith
floats_eight F64 = λ fold e. omega arith
floats_eight DayTime = λ fold e. absurd (false≢true e)
floats_eight MonthDayNano = λ fold e. absurd (false≢true e)
floats_eight (FixedBinary w) = λ fold e. absurd (false≢true e)
floats_eight Variable = tt
floats_eight I128 = λ fold e. absurd (false≢true e)
floats_eight I256 = λ fold e. absurd (false≢true e)

-- no block has so high a number
few_blocks : (k : ℕ) → before k ≤ max_slot → k < 4096
few_blocks k = go (ltb k 4) refl
  where
    go : (t : Bool) → ltb k 4 ≡ t → cond t (8 * k) (32 * (k - 3)) ≤ 65535 → k < 4096
    go true q l = omega (arith, ltb-true k 4 q)
    go false q l = omega (arith, ltb-false k 4 q)

spot_small : (sh : Shape) (fold : Bool) (row : ℕ) (spot : Spot) → FloatsEight sh → shape_bytes sh ≤ max_width → row ≤ max_total → spot_kept sh fold row spot ≡ true
    → Small (spot_numbers spot)
spot_small sh fold row Start f w l h = (omega arith, (omega arith, (omega arith, (omega arith, tt))))
spot_small (fixed k) fold row (Nulls seen known) f w l h =
    let p = and_true h in
    let a = ltb-true seen (width k) p.0 in
    let b = place (eqb known 0) refl p.1 in
    (omega arith, (omega arith, (omega arith, (omega arith, tt))))
  where
    place : (t : Bool) → eqb known 0 ≡ t → (t || within (row - seen) (row - 1) known) ≡ true → known ≤ max_total
    place true q h = omega (arith, eqb-true known 0 q)
    place false q h = omega (arith, (within_true (row - seen) (row - 1) known h).1)
spot_small (fixed k) fold row (Value seen spelt) f w l h =
    let p = and_true h in
    let a = ltb-true seen (width k) p.0 in
    (omega arith, (omega arith, (number (folds k fold) refl p.1 a, (omega arith, tt))))
  where
    number : (t : Bool) → folds k fold ≡ t → ltb spelt (cond t (256 ^ seen) 1) ≡ true → seen < width k → spelt < 256 ^ 8
    number true q h a = omega (arith, ltb-true spelt (256 ^ seen) h, pow-le-pow_right {n = 256} (lit< tt) {i = seen} {j = 8} (omega (arith, f fold q)))
    number false q h a = omega (arith, ltb-true spelt 1 h)
spot_small (fixed k) fold row (Block i seen marks) f w l h = absurd (false≢true h)
spot_small variable fold row (Nulls seen known) f w l h = absurd (false≢true h)
spot_small variable fold row (Value seen spelt) f w l h = absurd (false≢true h)
spot_small variable fold row (Block k seen marks) f w l h =
    let p = and_true h in
    let q = and_true p.0 in
    let a = few_blocks k (leb-true (before k) max_slot q.0) in
    let b = leb-true seen (block_size k) q.1 in
    let m = ltb-true marks (2 ^ seen) p.1 in
    let n = pow-le-pow_right {n = 2} (lit< tt) {i = seen} {j = 32} (omega (arith, size_most k)) in
    (omega arith, (omega arith, (omega (arith, size_most k), (omega arith, tt))))

-- columns as narrow as the rule has them
kept_narrow : (cols : List Column) → columns_kept cols ≡ true → Narrow cols
kept_narrow [] h = tt
kept_narrow (col ∷ cols) h = let p = and_true h in (leb-true (value_bytes col.kind) max_width (and_true p.0).0, kept_narrow cols p.1)

two_bytes : (cols : List Column) → Narrow cols → TwoBytes cols
two_bytes [] h = tt
two_bytes (col ∷ cols) h = (omega (arith, h.0), two_bytes cols h.1)

-- what is written of a state can be read back
record Held (s : Cutter) : Type 0 where
  pub few : s.schema.count ≤ max_columns
  pub narrow : TwoBytes (cols_of s.schema)
  pub refusal : Written s.refusal
  pub small : Small (state_numbers (check_numbers s.refusal) s)

-- by parts
small_state : (s : Cutter) → Small (number_list (check_numbers s.refusal)) → Small (s.rows ∷ s.bytes ∷ s.row ∷ s.column ∷ [])
    → Small (spot_numbers s.spot) → s.schema.count < 256 ^ 8 → Small (state_numbers (check_numbers s.refusal) s)
small_state s a b c d =
    small_append (number_list (check_numbers s.refusal)) (counts ++ last) a
    (small_append counts last b (small_append (spot_numbers s.spot) (s.schema.count ∷ []) c (d, tt)))
  where
    counts : List ℕ
    counts = s.rows ∷ s.bytes ∷ s.row ∷ s.column ∷ []

    last : List ℕ
    last = spot_numbers s.spot ++ s.schema.count ∷ []

-- no refusal stands
standing_held : (s : Cutter) → Whole s → s.refusal ≡ Ok tt → Stands s → Held s
standing_held s w e t = record {
  few = t.count;
  narrow = two_bytes (cols_of s.schema) narrow;
  refusal = written;
  small = small_state s written.small (rows, (bytes, (row, (column, tt)))) spot (omega (arith, t.count));
}
  where
    written : Written s.refusal
    written = subst Written (sym e) (record { back = refl; small = (omega arith, (omega arith, (omega arith, (omega arith, tt)))) })

    narrow : Narrow (cols_of s.schema)
    narrow = kept_narrow (cols_of s.schema) (and_true {s = leb s.schema.count max_columns} {t = columns_kept (cols_of s.schema)} t.schema).1

    column_narrow : value_bytes (column_in s).kind ≤ max_width
    column_narrow =
        subst (λ (col : Column). value_bytes col.kind ≤ max_width) (get_or-take s.schema.count s.schema.columns s.column no_column t.column)
        (every_at (λ (col : Column). value_bytes col.kind ≤ max_width) (cols_of s.schema) no_column s.column narrow (omega (arith, many s w t, t.column)))

    spot : Small (spot_numbers s.spot)
    spot = spot_small (column_shape (column_in s)) (column_in s).options.fold s.row s.spot (floats_eight (column_in s).kind) column_narrow
        (omega (arith, t.bytes_low, t.bytes_high)) t.spot

    rows : s.rows < 256 ^ 8
    rows = omega (arith, rows_most s w t, t.bytes_high)

    bytes : s.bytes < 256 ^ 8
    bytes = omega (arith, t.bytes_high)

    row : s.row < 256 ^ 8
    row = omega (arith, t.bytes_low, t.bytes_high)

    column : s.column < 256 ^ 8
    column = omega (arith, t.column, t.count)

-- a refusal stands, and nothing else
at_start_lem : (spot : Spot) → at_start spot ≡ true → spot ≡ Start
at_start_lem Start h = refl
at_start_lem (Nulls seen known) h = absurd (false≢true h)
at_start_lem (Value seen spelt) h = absurd (false≢true h)
at_start_lem (Block k seen marks) h = absurd (false≢true h)

refused_held : (s : Cutter) (r : Refusal) → s.refusal ≡ Err r → (emptied s && numbers_kept (refusal_numbers r)) ≡ true → Held s
refused_held s r e h = record {
  few = omega (arith, empty);
  narrow = subst (λ (n : ℕ). TwoBytes (take n s.schema.columns)) {x = 0} {y = s.schema.count} (omega (arith, empty)) tt;
  refusal = written;
  small = small_state s written.small counts spot (omega (arith, empty));
}
  where
    parts : (emptied s ≡ true) × (numbers_kept (refusal_numbers r) ≡ true)
    parts = and_true h

    both_empty : (eqb (s.schema.count + s.rows + s.bytes + s.row + s.column) 0 ≡ true) × (at_start s.spot ≡ true)
    both_empty = and_true parts.0

    empty : s.schema.count + s.rows + s.bytes + s.row + s.column ≡ 0
    empty = eqb-true (s.schema.count + s.rows + s.bytes + s.row + s.column) 0 both_empty.0

    counts : Small (s.rows ∷ s.bytes ∷ s.row ∷ s.column ∷ [])
    counts = (omega (arith, empty), (omega (arith, empty), (omega (arith, empty), (omega (arith, empty), tt))))

    written : Written s.refusal
    written = subst Written (sym e) (refusal_written r parts.1)

    spot : Small (spot_numbers s.spot)
    spot = subst (λ (x : Spot). Small (spot_numbers x)) (sym (at_start_lem s.spot both_empty.1)) (omega arith, (omega arith, (omega arith, (omega arith, tt))))

held : (s : Cutter) → Whole s → keeps s ≡ true → Held s
unfolding keeps
held s w h = go s.refusal refl
  where
    go : (c : Check) → s.refusal ≡ c → Held s
    go (Ok tt) e = standing_held s w e (stands_of s (sym (ap (λ (c : Check). keeps_with c s) e) ∙ h))
    go (Err r) e = refused_held s r e (sym (ap (λ (c : Check). keeps_with c s) e) ∙ h)

-- ---- read back

-- the spot of the numbers from number 8 on
abbrev spot_in : List ℕ → Spot
spot_in ns = spot_of (get_or ns 0 0) (get_or ns 1 0) (get_or ns 2 0) (get_or ns 3 0)

spot_back : (spot : Spot) (count : ℕ) → spot_in (spot_numbers spot ++ count ∷ []) ≡ spot
spot_back Start count = refl
spot_back (Nulls seen known) count = refl
spot_back (Value seen spelt) count = refl
spot_back (Block k seen marks) count = refl

count_back : (spot : Spot) (count : ℕ) → get_or (spot_numbers spot ++ count ∷ []) 4 0 ≡ count
count_back Start count = refl
count_back (Nulls seen known) count = refl
count_back (Value seen spelt) count = refl
count_back (Block k seen marks) count = refl

pub length_spot : (spot : Spot) (count : ℕ) → length (spot_numbers spot ++ count ∷ []) ≡ 5
length_spot Start count = refl
length_spot (Nulls seen known) count = refl
length_spot (Value seen spelt) count = refl
length_spot (Block k seen marks) count = refl

pub same_self : (xs : List ℕ) → same xs xs ≡ true
same_self [] = refl
same_self (x ∷ xs) = true_and (eq-eqb x x refl) (same_self xs)

module _ (cols : List Column) (s : Cutter) (canon : s.schema ≡ schema_of cols) (h : Held s) where
  abbrev ns : List ℕ
  ns = state_numbers (check_numbers s.refusal) s

  -- the columns, and what fills up after them
  abbrev coded : List ℕ
  coded = codes (cols_of s.schema) ++ replicate (4 * (max_columns - s.schema.count)) 0

  many_numbers : length ns ≡ 13
  many_numbers = omega (arith, length_spot s.spot s.schema.count)

  long : length (eight_bytes ns) ≡ numbers_size
  long = length_eights ns ∙ ap (λ (n : ℕ). 8 * n) many_numbers

  parted : state_bytes s ≡ eight_bytes ns ++ coded
  unfolding state_bytes
  parted = append_assoc (eight_bytes ns) (codes (cols_of s.schema)) (replicate (4 * (max_columns - s.schema.count)) 0)

  in_use : cols_of s.schema ≡ cols
  in_use = ap cols_of canon ∙ take-append_seam cols (replicate (max_columns - length cols) no_column)

  counted : length (cols_of s.schema) ≡ s.schema.count
  counted = ap length in_use ∙ ap (λ (x : Schema). x.count) (sym canon)

  size : length (state_bytes s) ≡ state_size
  size =
      ap length parted
      ∙ length-append (eight_bytes ns) coded
      ∙ omega (
        arith,
        long,
        length-append (codes (cols_of s.schema)) (replicate (4 * (max_columns - s.schema.count)) 0),
        length_codes (cols_of s.schema),
        counted,
        length-replicate {A = ℕ} (4 * (max_columns - s.schema.count)) 0,
        h.few,
      )

  numbers_back : eights (take numbers_size (state_bytes s)) ≡ ns
  numbers_back = ap eights (ap (take numbers_size) parted ∙ take_at (eight_bytes ns) coded numbers_size long) ∙ eights_back ns h.small

  columns_again : columns_of (state_bytes s) (get_or ns 12 0) ≡ cols
  columns_again =
      ap (columns_of (state_bytes s)) (count_back s.spot s.schema.count)
      ∙ ap (λ (t : Bool). each 0 (cond t s.schema.count 0) (λ i. column_of (code_at (drop numbers_size (state_bytes s)) i)))
      (le-leb s.schema.count max_columns h.few)
      ∙ ap₂ (λ (n : ℕ) (z : List ℕ). each 0 n (λ i. column_of (code_at z i))) (sym counted)
      (ap (drop numbers_size) parted ∙ drop_at (eight_bytes ns) coded numbers_size long)
      ∙ columns_back (cols_of s.schema) (replicate (4 * (max_columns - s.schema.count)) 0) h.narrow
      ∙ in_use

  again : state_of (state_bytes s) ≡ s
  unfolding state_of
  again =
      ap (λ (z : List ℕ). state_from z (state_bytes s)) numbers_back
      ∙ ap₂ (λ (x : Schema) (c : Check). record { schema = x; refusal = c; rows = s.rows; bytes = s.bytes; row = s.row; column = s.column; spot = read })
      (ap schema_of columns_again ∙ sym canon) h.refusal.back
      ∙ ap (λ (x : Spot). record { schema = s.schema; refusal = s.refusal; rows = s.rows; bytes = s.bytes; row = s.row; column = s.column; spot = x })
      (spot_back s.spot s.schema.count)
    where
      read : Spot
      read = spot_in (spot_numbers s.spot ++ s.schema.count ∷ [])

-- bytes in front of others that are those of a state
module _ (x t : List ℕ) (s : Cutter) (size : length x ≡ state_size) (e : state_of x ≡ s) (b : state_bytes s ≡ x) (k : keeps s ≡ true) where
  front : take state_size (x ++ t) ≡ x
  front = take_at x t state_size size

  lent_keeps_lem : lent_keeps (x ++ t) ≡ true
  unfolding lent_keeps
  lent_keeps_lem =
      true_and
      (true_and (le-leb state_size (length (x ++ t)) (omega (arith, size, length-append x t)))
      (ap (λ (z : List ℕ). same (state_bytes (state_of z)) z) front ∙ ap (λ (z : List ℕ). same z x) (ap state_bytes e ∙ b) ∙ same_self x))
      (ap (λ (z : List ℕ). keeps (state_of z)) front ∙ ap keeps e ∙ k)

  lent_state_lem : lent_state (x ++ t) ≡ s
  unfolding lent_state
  lent_state_lem = ap (λ (q : Bool). cond q (state_of (take state_size (x ++ t))) (begun [])) lent_keeps_lem ∙ ap state_of front ∙ e

-- the bytes of a state that keeps the rule, whatever stands after them, keep the rule, and they are that state's
pub state_back : (cols : List Column) (s : Cutter) (t : List ℕ) → length cols ≤ max_columns → s.schema ≡ schema_of cols → keeps s ≡ true
    → (lent_keeps (state_bytes s ++ t) ≡ true) × (lent_state (state_bytes s ++ t) ≡ s)
state_back cols s t few canon k =
    let h = held s whole k in
    let b = size cols s canon h in
    let a = again cols s canon h in
    (lent_keeps_lem (state_bytes s) t s b a refl k, lent_state_lem (state_bytes s) t s b a refl k)
  where
    whole : Whole s
    whole =
        ap (λ (x : Schema). length x.columns) canon
        ∙ length-append cols (replicate (max_columns - length cols) no_column)
        ∙ omega (arith, length-replicate {A = Column} (max_columns - length cols) no_column)
