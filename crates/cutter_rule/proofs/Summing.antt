-- One pass over the columns: their sums so far, of those before the one that is being read and of all. Assumes nothing.
use Prim.Native.Nat.{ℕ, zero, suc, ◌+◌, ◌*◌, ◌<◌, ◌≤◌}
use mathlib.Core.Path.{◌≡◌, refl, sym, ap, ◌∙◌}
use mathlib.Core.Bool.{Bool, true, false, cond, ◌&&◌, false≢true}
use mathlib.Core.List.{List, [], ◌∷◌, ◌++◌}
use native.Mathlib.Numerals.{add-one}
use native.Mathlib.Omega.{arith}
use lib.Dec.{ltb}
use lib.ListN.{length, get_or, take, length-take}
use lib.Seq.{take-suc, take_all, take-take}
use borrow.Author.Tests.{ltb-true, ltb-false}
use Rattle.format.specs.declared.Column.{Column}
use Rattle.format.specs.Limits.{max_columns}
use Rattle.format.specs.Kinds.{Shape, column_shape}
use Rattle.format.specs.Schemas.{no_column}
use Rattle.format.specs.CutterRule.{column_kept, columns_kept, fewest, most, over_all}
use Rattle.cutter_rule.specs.Sums.{Summed}

-- ---- over columns, one after the other

over_append : (f : Shape → ℕ) (cols : List Column) (col : Column) → over_all f (cols ++ (col ∷ [])) ≡ over_all f cols + f (column_shape col)
over_append f [] col = omega arith
over_append f (x ∷ cols) col = let ih = over_append f cols col in
    let q : f (column_shape x) + over_all f (cols ++ (col ∷ [])) ≡ f (column_shape x) + over_all f cols + f (column_shape col) = omega (arith, ih) in
    q

kept_append : (cols : List Column) (col : Column) → columns_kept (cols ++ (col ∷ [])) ≡ (columns_kept cols && column_kept col)
kept_append [] col = go (column_kept col)
  where
    go : (t : Bool) → (t && true) ≡ t
    go true = refl
    go false = refl
kept_append (x ∷ cols) col = ap (λ (t : Bool). column_kept x && t) (kept_append cols col) ∙ assoc (column_kept x)
  where
    assoc : (t : Bool) → (t && (columns_kept cols && column_kept col)) ≡ (t && columns_kept cols && column_kept col)
    assoc true = refl
    assoc false = refl

-- columns after one that is not kept
unkept_take : (cols : List Column) (k : ℕ) → columns_kept (take k cols) ≡ false → columns_kept cols ≡ false
unkept_take cols k e = go cols k e
  where
    both : (t u v : Bool) → (u ≡ false → v ≡ false) → (t && u) ≡ false → (t && v) ≡ false
    both true u v h e = h e
    both false u v h e = refl

    go : (cols : List Column) (k : ℕ) → columns_kept (take k cols) ≡ false → columns_kept cols ≡ false
    go [] zero e = e
    go [] (suc k) e = e
    go (x ∷ cols) zero e = absurd (false≢true (sym e))
    go (x ∷ cols) (suc k) e = both (column_kept x) (columns_kept (take k cols)) (columns_kept cols) (go cols k) e

-- ---- up to column c

module _ (cols : List Column) (column : ℕ) where
  pub record Summing (low high few many c : ℕ) : Type 0 where
    pub within : c ≤ length cols
    pub kept : columns_kept (take c cols) ≡ true
    pub low_is : low ≡ over_all fewest (take column (take c cols))
    pub high_is : high ≡ over_all most (take column (take c cols))
    pub few_is : few ≡ over_all fewest (take c cols)
    pub many_is : many ≡ over_all most (take c cols)
    pub small_low : low ≤ 67588 * c
    pub small_high : high ≤ 67588 * c
    pub small_few : few ≤ 67588 * c
    pub small_many : many ≤ 67588 * c

  pub sum_begins : Summing 0 0 0 0 0
  sum_begins = record {
    within = omega arith;
    kept = refl;
    low_is = none fewest;
    high_is = none most;
    few_is = refl;
    many_is = refl;
    small_low = omega arith;
    small_high = omega arith;
    small_few = omega arith;
    small_many = omega arith;
  }
    where
      none : (f : Shape → ℕ) → 0 ≡ over_all f (take column [])
      none f = go column
        where
          go : (n : ℕ) → 0 ≡ over_all f (take n [])
          go zero = refl
          go (suc n) = refl

  module _ {low high few many c : ℕ} (s : Summing low high few many c) (more : c < length cols) where
    abbrev col : Column
    col = get_or cols c no_column

    next : take (c + 1) cols ≡ take c cols ++ (col ∷ [])
    next = rw add-one (take-suc cols c no_column more)

    -- a sum of the columns before the one that is being read
    part : (f : Shape → ℕ) (n : ℕ) → n ≡ f (column_shape col) → over_all f (take column (take c cols)) + cond (ltb c column) n 0 ≡ over_all f (take column (take (c + 1) cols))
    part f n e = go (ltb c column) refl
      where
        go : (t : Bool) → ltb c column ≡ t → over_all f (take column (take c cols)) + cond t n 0 ≡ over_all f (take column (take (c + 1) cols))
        go true q =
            let l = ltb-true c column q in
            let a = take_all column (take c cols) (omega (arith, length-take c cols)) in
            let b = take_all column (take (c + 1) cols) (omega (arith, length-take (c + 1) cols)) in
            ap (λ (x : List Column). over_all f x + n) a ∙ ap (λ (k : ℕ). over_all f (take c cols) + k) e ∙ sym (over_append f (take c cols) col) ∙ ap (over_all f) (sym next ∙ sym b)
        go false q =
            let l = ltb-false c column q in
            let a = take-take column c cols l in
            let b = take-take column (c + 1) cols (omega arith) in
            let z : over_all f (take column (take c cols)) + 0 ≡ over_all f (take column (take c cols)) = omega arith in
            z ∙ ap (over_all f) (a ∙ sym b)

    all : (f : Shape → ℕ) (t n : ℕ) → t ≡ over_all f (take c cols) → n ≡ f (column_shape col) → t + n ≡ over_all f (take (c + 1) cols)
    all f t n a b = omega (arith, ap (over_all f) next, over_append f (take c cols) col)

    small_part : (t n : ℕ) → t ≤ 67588 * c → n ≤ 67588 → t + cond (ltb c column) n 0 ≤ 67588 * (c + 1)
    small_part t n a b = go (ltb c column)
      where
        go : (u : Bool) → t + cond u n 0 ≤ 67588 * (c + 1)
        go true = omega arith
        go false = omega arith

    sums : (least longest : ℕ) → column_kept col ≡ true → least ≡ fewest (column_shape col) → longest ≡ most (column_shape col) → least ≤ 1025 → longest ≤ 67588
        → Summing (low + cond (ltb c column) least 0) (high + cond (ltb c column) longest 0) (few + least) (many + longest) (c + 1)
    sums least longest k a b p q = record {
      within = omega arith;
      kept = ap columns_kept next ∙ kept_append (take c cols) col ∙ rw (s.kept, k);
      low_is = ap (λ (n : ℕ). n + cond (ltb c column) least 0) s.low_is ∙ part fewest least a;
      high_is = ap (λ (n : ℕ). n + cond (ltb c column) longest 0) s.high_is ∙ part most longest b;
      few_is = all fewest few least s.few_is a;
      many_is = all most many longest s.many_is b;
      small_low = small_part low least s.small_low (omega arith);
      small_high = small_part high longest s.small_high q;
      small_few = omega (arith, s.small_few);
      small_many = omega (arith, s.small_many);
    }

    pub sum_more : (least longest lo hi : ℕ) → column_kept col ≡ true → least ≡ fewest (column_shape col) → longest ≡ most (column_shape col) → least ≤ 1025 → longest ≤ 67588
        → lo ≡ cond (ltb c column) least 0 → hi ≡ cond (ltb c column) longest 0 → Summing (low + lo) (high + hi) (few + least) (many + longest) (c + 1)
    sum_more least longest lo hi k a b p q e f = rw (e, f) (sums least longest k a b p q)

    -- a column that no list may have
    pub sum_breaks : length cols ≤ max_columns → column_kept col ≡ false → Summed cols column (record { kept = false; low = low; high = high; fewest = few; most = many })
    sum_breaks l k = record {
      kept = sym (unkept_take cols (c + 1) (ap columns_kept next ∙ kept_append (take c cols) col ∙ rw (s.kept, k)));
      low = λ e. absurd (false≢true e);
      high = λ e. absurd (false≢true e);
      fewest_all = λ e. absurd (false≢true e);
      most_all = λ e. absurd (false≢true e);
      small_low = omega (arith, s.small_low);
      small_high = omega (arith, s.small_high);
      small_fewest = omega (arith, s.small_few);
      small_most = omega (arith, s.small_many);
    }

  pub sum_done : {low high few many c : ℕ} → Summing low high few many c → length cols ≤ max_columns → length cols ≤ c
      → Summed cols column (record { kept = true; low = low; high = high; fewest = few; most = many })
  sum_done {low} {high} {few} {many} {c} s l d =
      let t = take_all c cols d in
      record {
        kept = sym (ap columns_kept (sym t) ∙ s.kept);
        low = λ e. s.low_is ∙ ap (λ (x : List Column). over_all fewest (take column x)) t;
        high = λ e. s.high_is ∙ ap (λ (x : List Column). over_all most (take column x)) t;
        fewest_all = λ e. s.few_is ∙ ap (over_all fewest) t;
        most_all = λ e. s.many_is ∙ ap (over_all most) t;
        small_low = omega (arith, s.small_low, s.within);
        small_high = omega (arith, s.small_high, s.within);
        small_fewest = omega (arith, s.small_few, s.within);
        small_most = omega (arith, s.small_many, s.within);
      }
