-- The rule on a state, test by test. Assumes nothing.
use Prim.Native.Nat.{ℕ, zero, suc, ◌+◌, ◌-◌, ◌*◌, ◌/◌, ◌^◌, ◌<◌, ◌≤◌}
use mathlib.Core.Path.{◌≡◌, refl, sym, ap, subst, ◌∙◌}
use mathlib.Core.Bool.{Bool, true, false, cond, not, ◌&&◌, ◌||◌, true≢false, false≢true}
use mathlib.Core.List.{List, [], ◌∷◌}
use native.Mathlib.Nat.{div-eq_of_lt, div-lt_iff_lt-mul, mul-le-mul, mul-le-mul_left, mul-one, pos_of_ne-zero, pow-suc}
use native.Mathlib.Omega.{arith}
use lib.Dec.{ltb, leb, eqb}
use lib.ListN.{length, get_or, take}
use lib.Seq.{get_or-take}
use lib.Pow.{pow-add, pow_pos}
use borrow.Author.Tests.{ltb-true, ltb-false, leb-true, lt-ltb, le-ltb, le-leb, lt-leb, eq-eqb, ne_eqb}
use Rattle.format.specs.declared.Kind.{Kind}
use Rattle.format.specs.declared.Kind.TheVariants.{Variable}
use Rattle.format.specs.declared.Column.{Column}
use Rattle.format.specs.declared.Schema.{Schema}
use Rattle.format.specs.declared.Refusal.{Refusal}
use Rattle.format.specs.Check.{Check}
use Rattle.std.specs.declared.result.Result.TheVariants.{Ok, Err}
use Rattle.format.specs.declared.Cutter.{Cutter}
use Rattle.format.specs.declared.Returned.{Returned}
use Rattle.format.specs.declared.Spot.{Spot}
use Rattle.format.specs.declared.Spot.TheVariants.{Start, Nulls, Value, Block}
use Rattle.format.specs.Limits.{max_columns, max_width, max_slot, max_total}
use Rattle.format.specs.Kinds.{Fixed, bool, plain, number, integer, float, parts, Shape, fixed, variable, shape, shape_bytes, column_shape, value_bytes, width}
use Rattle.format.specs.Schemas.{no_column, cols_of}
use Rattle.format.specs.Numbers.{refusal_numbers}
use Rattle.format.specs.Field.{block_size}
use Rattle.format.specs.Fold.{folds}
use Rattle.format.specs.CutterRule.{within, may_fold, before, column_kept, columns_kept, field_seen, spot_kept, fewest, most, over_all, stream_kept, standing_kept, at_start, emptied, fault_kept, numbers_kept, keeps_with, keeps}
use Rattle.basics.proofs.Sorts.{fixed_arm, plain_arm, PlainArm}
use Rattle.value_moves.proofs.Arms.{power_up}
use Rattle.cutter_laws.proofs.RuleMoves.{size_most, and_true, within_true}
use Rattle.cutter_rule.specs.Standing.{is_variable, Small}
use Rattle.cutter_rule.specs.Sums.{sums_most}

-- ---- tests

and_right : (t : Bool) {u : Bool} → u ≡ true → t ≡ (t && u)
and_right true e = sym e
and_right false e = refl

or_left : (t : Bool) {u : Bool} → u ≡ false → t ≡ (t || u)
or_left true e = refl
or_left false e = sym e

-- a number shifted by k is 0 where it is below 2 to the k
pub shift_low : (n k : ℕ) → eqb (n / 2 ^ k) 0 ≡ ltb n (2 ^ k)
shift_low n k = go (ltb n (2 ^ k)) refl
  where
    go : (t : Bool) → ltb n (2 ^ k) ≡ t → eqb (n / 2 ^ k) 0 ≡ t
    go true e = eq-eqb (n / 2 ^ k) 0 (div-eq_of_lt (ltb-true n (2 ^ k) e))
    go false e =
        ne_eqb (n / 2 ^ k) 0
        (λ z. let l : n < 1 * 2 ^ k = (div-lt_iff_lt-mul (pow_pos k)).0 (omega (arith, z)) in omega (arith, ltb-false n (2 ^ k) e))

-- ---- columns

-- what one says of its width
pub kept_width : (col : Column) → column_kept col ≡ true → value_bytes col.kind ≤ max_width
kept_width col e = leb-true (value_bytes col.kind) max_width (and_true {s = leb (value_bytes col.kind) max_width} {t = not col.options.fold || may_fold (column_shape col)} e).0

pub plain_fold : (kind : Kind) → PlainArm kind → false ≡ may_fold (shape kind)
plain_fold kind h = let u = plain_arm kind h in sym (ap may_fold u.0.says ∙ u.1 true)

pub fixed_fewest : (kind : Kind) (w : ℕ) → (kind ≡ Variable → ⊥) → w ≡ value_bytes kind → 1 + w ≡ fewest (shape kind)
fixed_fewest kind w h e =
    let f = fixed_arm (λ x. suc (value_bytes x) ≡ fewest (shape x)) kind refl (λ k. subst (λ (sh : Shape). suc (shape_bytes sh) ≡ fewest sh) (sym k.says) refl) h in
    omega (arith, f)

pub fixed_most : (kind : Kind) (w : ℕ) → (kind ≡ Variable → ⊥) → w ≡ value_bytes kind → 1 + w ≡ most (shape kind)
fixed_most kind w h e =
    let f = fixed_arm (λ x. suc (value_bytes x) ≡ most (shape x)) kind refl (λ k. subst (λ (sh : Shape). suc (shape_bytes sh) ≡ most sh) (sym k.says) refl) h in
    omega (arith, f)

-- ---- spots

module _ (sh : Shape) (fold : Bool) (row seen known : ℕ) where
  pub null_past : shape_bytes sh ≤ seen → false ≡ spot_kept sh fold row (Nulls seen known)
  null_past = go sh
    where
      go : (x : Shape) → shape_bytes x ≤ seen → false ≡ spot_kept x fold row (Nulls seen known)
      go (fixed k) l = rw (le-ltb seen (width k) l)
      go variable l = refl

  module _ (inside : seen < shape_bytes sh) where
    null_in : spot_kept sh fold row (Nulls seen known) ≡ (eqb known 0 || within (row - seen) (row - 1) known)
    null_in = go sh inside
      where
        go : (x : Shape) → seen < shape_bytes x → spot_kept x fold row (Nulls seen known) ≡ (eqb known 0 || within (row - seen) (row - 1) known)
        go (fixed k) l = rw (lt-ltb seen (width k) l)
        go variable l = absurd (omega arith)

    pub null_none : known ≡ 0 → true ≡ spot_kept sh fold row (Nulls seen known)
    null_none e = sym (null_in ∙ ap (λ (t : Bool). t || within (row - seen) (row - 1) known) (eq-eqb known 0 e))

    module _ (some : known ≡ 0 → ⊥) where
      null_some : spot_kept sh fold row (Nulls seen known) ≡ within (row - seen) (row - 1) known
      null_some = null_in ∙ ap (λ (t : Bool). t || within (row - seen) (row - 1) known) (ne_eqb known 0 some)

      pub null_late : row ≤ known → false ≡ spot_kept sh fold row (Nulls seen known)
      null_late l = sym (null_some ∙ rw (le-leb (row - seen) known (omega arith), lt-leb known (row - 1) (omega (arith, pos_of_ne-zero some))))

      pub null_early : known < row → row < seen → true ≡ spot_kept sh fold row (Nulls seen known)
      null_early l s = sym (null_some ∙ rw (le-leb (row - seen) known (omega arith), le-leb known (row - 1) (omega arith)))

      pub null_between : known < row → leb (row - seen) known ≡ spot_kept sh fold row (Nulls seen known)
      null_between l = and_right (leb (row - seen) known) (le-leb known (row - 1) (omega arith)) ∙ sym null_some

module _ (sh : Shape) (fold : Bool) (row seen spelt : ℕ) where
  pub value_past : shape_bytes sh ≤ seen → false ≡ spot_kept sh fold row (Value seen spelt)
  value_past = go sh
    where
      go : (x : Shape) → shape_bytes x ≤ seen → false ≡ spot_kept x fold row (Value seen spelt)
      go (fixed k) l = rw (le-ltb seen (width k) l)
      go variable l = refl

  -- a float that folds
  pub value_folds : seen < shape_bytes sh → fold ≡ true → may_fold sh ≡ true → ltb spelt (256 ^ seen) ≡ spot_kept sh fold row (Value seen spelt)
  value_folds = go sh
    where
      go : (x : Shape) → seen < shape_bytes x → fold ≡ true → may_fold x ≡ true → ltb spelt (256 ^ seen) ≡ spot_kept x fold row (Value seen spelt)
      go (fixed k) l e f = rw (lt-ltb seen (width k) l, e, f)
      go variable l e f = absurd (omega arith)

  -- any other
  pub value_stays : seen < shape_bytes sh → (fold && may_fold sh) ≡ false → ltb spelt 1 ≡ spot_kept sh fold row (Value seen spelt)
  value_stays = go sh
    where
      never : (k : Fixed) (t : Bool) → (t && folds k true) ≡ false → folds k t ≡ false
      never bool t h = refl
      never (plain n) t h = refl
      never (number n) t h = refl
      never (integer n) t h = refl
      never (float n) true h = absurd (true≢false h)
      never (float n) false h = refl
      never (parts ns) t h = refl

      go : (x : Shape) → seen < shape_bytes x → (fold && may_fold x) ≡ false → ltb spelt 1 ≡ spot_kept x fold row (Value seen spelt)
      go (fixed k) l f = rw (lt-ltb seen (width k) l, never k fold f)
      go variable l f = absurd (omega arith)

-- what eight bytes or more spell is below any power that they have
pub spelt_any : (seen spelt : ℕ) → 8 ≤ seen → spelt < 2 ^ 64 → true ≡ ltb spelt (256 ^ seen)
spelt_any seen spelt h l =
    let up = subst (λ (n : ℕ). 256 ^ 8 ≤ 256 ^ n) (let z : (seen - 8) + 8 ≡ seen = omega arith in z) (power_up 8 (seen - 8)) in
    sym (lt-ltb spelt (256 ^ seen) (omega (arith, up)))

power_bytes : (n : ℕ) → 2 ^ (8 * n) ≡ 256 ^ n
power_bytes zero = refl
power_bytes (suc n) =
    ap (λ (k : ℕ). 2 ^ k) (let z : 8 * suc n ≡ 8 * n + 8 = omega arith in z)
    ∙ pow-add 2 (8 * n) 8
    ∙ ap (λ (k : ℕ). k * 256) (power_bytes n)
    ∙ sym (pow-suc 256 n)

pub spelt_shift : (seen spelt : ℕ) → eqb (spelt / 2 ^ (8 * seen)) 0 ≡ ltb spelt (256 ^ seen)
spelt_shift seen spelt = shift_low spelt (8 * seen) ∙ ap (ltb spelt) (power_bytes seen)

-- blocks
before_high : (k : ℕ) → 2050 < k → max_slot < before k
before_high k h = go (ltb k 4) refl
  where
    go : (t : Bool) → ltb k 4 ≡ t → max_slot < cond t (8 * k) (32 * (k - 3))
    go true e = absurd (omega (arith, ltb-true k 4 e))
    go false e = omega arith

pub before_low : (k : ℕ) → k ≤ 2050 → before k ≤ max_slot
before_low k h = go (ltb k 4) refl
  where
    go : (t : Bool) → ltb k 4 ≡ t → cond t (8 * k) (32 * (k - 3)) ≤ max_slot
    go true e = omega (arith, ltb-true k 4 e)
    go false e = omega arith

pub fixed_kind : (kind : Kind) → (kind ≡ Variable → ⊥) → false ≡ is_variable (shape kind)
fixed_kind kind h = fixed_arm (λ x. false ≡ is_variable (shape x)) kind refl (λ k. subst (λ (sh : Shape). false ≡ is_variable sh) (sym k.says) refl) h

module _ (sh : Shape) (fold : Bool) (row k seen marks : ℕ) where
  pub block_other : is_variable sh ≡ false → false ≡ spot_kept sh fold row (Block k seen marks)
  block_other = go sh
    where
      go : (x : Shape) → is_variable x ≡ false → false ≡ spot_kept x fold row (Block k seen marks)
      go (fixed f) e = refl
      go variable e = absurd (true≢false e)

  module _ (e : is_variable sh ≡ true) where
    blocks_in : (t : Bool) → t ≡ spot_kept variable fold row (Block k seen marks) → t ≡ spot_kept sh fold row (Block k seen marks)
    blocks_in t p = p ∙ go sh e
      where
        go : (x : Shape) → is_variable x ≡ true → spot_kept variable fold row (Block k seen marks) ≡ spot_kept x fold row (Block k seen marks)
        go (fixed f) e = absurd (false≢true e)
        go variable e = refl

    pub block_far : 2050 < k → false ≡ spot_kept sh fold row (Block k seen marks)
    block_far h = blocks_in false (rw (lt-leb (before k) max_slot (before_high k h)))

    pub block_over : k ≤ 2050 → block_size k < seen → false ≡ spot_kept sh fold row (Block k seen marks)
    block_over h l = blocks_in false (rw (le-leb (before k) max_slot (before_low k h), lt-leb seen (block_size k) l))

    pub block_in : k ≤ 2050 → seen ≤ block_size k → eqb (marks / 2 ^ seen) 0 ≡ spot_kept sh fold row (Block k seen marks)
    block_in h l = blocks_in _ (rw (le-leb (before k) max_slot (before_low k h), le-leb seen (block_size k) l) (shift_low marks seen))

-- ---- the stream

module _ (rows row bytes low high : ℕ) where
  pub stream_many : 1 ≤ low → within row max_total bytes ≡ true → bytes ≤ max_total → max_total < rows
      → false ≡ (within row max_total bytes && within (rows * low) (rows * high) (bytes - row))
  stream_many p e b l =
      let g : rows * 1 ≤ rows * low = mul-le-mul_left rows p in
      rw (e, lt-leb (rows * low) (bytes - row) (omega (arith, mul-one rows)))

-- ---- refusals by their numbers

-- no fault's number
module _ (n : ℕ) (low : n < 17) where
  not_fault : fault_kept n ≡ false
  not_fault = rw (lt-leb 17 n low, ne_eqb n 23 (λ z. omega arith), ne_eqb n 28 (λ z. omega arith))

module _ (a : Returned) where
  abbrev listed : Bool
  listed = within 1 5 a.0 && leb a.1 (4 * max_columns)

  abbrev summed : Bool
  summed = eqb a.0 12 && eqb a.1 (suc max_total) && leb a.2 max_total

  abbrev faulty : Bool
  faulty = fault_kept a.0 && ltb (a.1 + a.3) max_total && ltb a.2 max_columns

  pub list_number : within 1 5 a.0 ≡ true → leb a.1 (4 * max_columns) ≡ numbers_kept a
  list_number e =
      let l = within_true 1 5 a.0 e in
      let f : faulty ≡ false = rw (not_fault a.0 (omega (arith, l.1))) in
      let t : summed ≡ false = rw (ne_eqb a.0 12 (λ z. omega (arith, l.1))) in
      let o : leb a.1 (4 * max_columns) ≡ listed = rw e in
      o ∙ or_left listed t ∙ or_left (listed || summed) f

  module _ (e : within 1 5 a.0 ≡ false) where
    no_list : listed ≡ false
    no_list = rw e

    module _ (twelve : a.0 ≡ 12) where
      total_is : (t : Bool) → t ≡ summed → t ≡ numbers_kept a
      total_is t p =
          let f : faulty ≡ false = rw (not_fault a.0 (omega arith)) in
          p ∙ sym (ap (λ (x : Bool). x || summed) no_list) ∙ or_left (listed || summed) f

      pub total_other : (a.1 ≡ max_total + 1 → ⊥) → false ≡ numbers_kept a
      total_other n = total_is false (rw (eq-eqb a.0 12 twelve, ne_eqb a.1 (suc max_total) (λ z. n (omega arith))))

      pub total_number : a.1 ≡ max_total + 1 → leb a.2 max_total ≡ numbers_kept a
      total_number n = total_is _ (rw (eq-eqb a.0 12 twelve, eq-eqb a.1 (suc max_total) (omega arith)))

    module _ (other : a.0 ≡ 12 → ⊥) where
      fault_is : (t : Bool) → t ≡ faulty → t ≡ numbers_kept a
      fault_is t p =
          let n : summed ≡ false = rw (ne_eqb a.0 12 other) in
          p ∙ sym (ap (λ (x : Bool). x || faulty) (ap (λ (x : Bool). x || summed) no_list ∙ n))

      pub fault_none : fault_kept a.0 ≡ false → false ≡ numbers_kept a
      fault_none f = fault_is false (rw f)

      module _ (f : fault_kept a.0 ≡ true) where
        pub fault_far : max_total ≤ a.1 + a.3 → false ≡ numbers_kept a
        fault_far l = fault_is false (rw (f, le-ltb (a.1 + a.3) max_total l))

        pub fault_number : a.1 + a.3 < max_total → ltb a.2 max_columns ≡ numbers_kept a
        fault_number l = fault_is _ (rw (f, lt-ltb (a.1 + a.3) max_total l))

-- ---- a refused state

pub counts_some : (n : ℕ) (t : Bool) → 0 < n → false ≡ (eqb n 0 && t)
counts_some n t l = rw (ne_eqb n 0 (λ z. omega arith))

pub counts_none : (n : ℕ) (t : Bool) → n ≡ 0 → t ≡ (eqb n 0 && t)
counts_none n t e = rw (eq-eqb n 0 e)

pub not_start : (spot : Spot) → (spot ≡ Start → ⊥) → false ≡ at_start spot
not_start Start h = absurd (h refl)
not_start (Nulls seen known) h = refl
not_start (Value seen spelt) h = refl
not_start (Block k seen marks) h = refl

-- ---- a spot's numbers are small

pub spot_small : (sh : Shape) (fold : Bool) (row : ℕ) (spot : Spot) → shape_bytes sh ≤ max_width → spot_kept sh fold row spot ≡ true → Small spot
spot_small sh fold row Start l h = tt
spot_small (fixed k) fold row (Nulls seen known) l h = omega (arith, ltb-true seen (width k) (and_true h).0)
spot_small (fixed k) fold row (Value seen spelt) l h = omega (arith, ltb-true seen (width k) (and_true h).0)
spot_small variable fold row (Block k seen marks) l h =
    let p = and_true (and_true h).0 in
    (leb-true (before k) max_slot p.0, omega (arith, leb-true seen (block_size k) p.1, size_most k))
spot_small variable fold row (Nulls seen known) l h = absurd (false≢true h)
spot_small variable fold row (Value seen spelt) l h = absurd (false≢true h)
spot_small (fixed k) fold row (Block i seen marks) l h = absurd (false≢true h)

-- rows times the bytes of a row
pub product_fits : (rows n : ℕ) → rows ≤ max_total → n ≤ sums_most → rows * n < 2 ^ 64
product_fits rows n a b =
    let p : rows * n ≤ max_total * sums_most = mul-le-mul a b in
    omega arith

-- ---- no refusal stands

-- a column in use is such as a list may have
kept_at : (cols : List Column) (c : ℕ) → columns_kept cols ≡ true → c < length cols → column_kept (get_or cols c no_column) ≡ true
kept_at [] c e l = absurd (omega arith)
kept_at (col ∷ cols) zero e l = (and_true {s = column_kept col} {t = columns_kept cols} e).0
kept_at (col ∷ cols) (suc c) e l = kept_at cols c (and_true {s = column_kept col} {t = columns_kept cols} e).1 (omega arith)

module _ (s : Cutter) where
  abbrev schema : Schema
  schema = s.schema

  abbrev c : ℕ
  c = s.column

  abbrev column : Column
  column = get_or schema.columns c no_column

  pub stands_many : max_columns < schema.count → false ≡ standing_kept s
  stands_many l = rw (lt-leb schema.count max_columns l)

  module _ (few : schema.count ≤ max_columns) where
    pub stands_unkept : columns_kept (cols_of schema) ≡ false → false ≡ standing_kept s
    stands_unkept e = rw (le-leb schema.count max_columns few, e)

    module _ (kept : columns_kept (cols_of schema) ≡ true) where
      pub stands_past : schema.count ≤ c → false ≡ standing_kept s
      stands_past l = rw (le-leb schema.count max_columns few, kept, le-ltb c schema.count l)

      module _ (inside : c < schema.count) where
        -- the column that is being read
        pub column_narrow : length (cols_of schema) ≡ schema.count → value_bytes column.kind ≤ max_width
        column_narrow many =
            let k = kept_at (cols_of schema) c kept (omega (arith, many)) in
            let same = get_or-take schema.count schema.columns c no_column inside in
            kept_width column (subst (λ (col : Column). column_kept col ≡ true) same k)

        pub stands_spot : spot_kept (column_shape column) column.options.fold s.row s.spot ≡ false → false ≡ standing_kept s
        stands_spot e = rw (le-leb schema.count max_columns few, kept, lt-ltb c schema.count inside, e)

        module _ (e : spot_kept (column_shape column) column.options.fold s.row s.spot ≡ true) (low high : ℕ)
            (a : low ≡ over_all fewest (take c (cols_of schema)) + field_seen s.spot) (b : high ≡ over_all most (take c (cols_of schema)) + field_seen s.spot) where
          pub stands_row : within low high s.row ≡ false → false ≡ standing_kept s
          stands_row f = rw (le-leb schema.count max_columns few, kept, lt-ltb c schema.count inside, e, sym a, sym b, f)

          pub stands_stream : within low high s.row ≡ true → (t : Bool) → t ≡ stream_kept (cols_of schema) s.rows s.row s.bytes → t ≡ standing_kept s
          stands_stream f t p = rw (le-leb schema.count max_columns few, kept, lt-ltb c schema.count inside, e, sym a, sym b, f) p

-- no more than all of it
pub part_most : (t : Bool) (n : ℕ) → cond t n 0 ≤ n
part_most true n = omega arith
part_most false n = omega arith

-- ---- the rule

module _ (s : Cutter) (t : Bool) where
  pub rule_stands : s.refusal ≡ Ok tt → t ≡ standing_kept s → t ≡ keeps s
  unfolding keeps
  rule_stands e p = p ∙ sym (ap (λ (c : Check). keeps_with c s) e)

  pub rule_refused : (r : Refusal) → s.refusal ≡ Err r → t ≡ (emptied s && numbers_kept (refusal_numbers r)) → t ≡ keeps s
  unfolding keeps
  rule_refused r e p = p ∙ sym (ap (λ (c : Check). keeps_with c s) e)

-- the stream, by the sums of the columns
pub stream_sums : (cols : List Column) (rows row bytes x y : ℕ) → x ≡ over_all fewest cols → y ≡ over_all most cols
    → (within row max_total bytes && within (rows * x) (rows * y) (bytes - row)) ≡ stream_kept cols rows row bytes
stream_sums cols rows row bytes x y p q = rw (p, q)
