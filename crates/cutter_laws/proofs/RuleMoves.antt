-- What a byte may do to a field, as the rule on a row cutter's state has it: the spot that follows keeps the rule, a whole field has a
-- length that its column has, and a bad byte stands no later than this one. Assumes nothing.
use Prim.Native.Nat.{ℕ, zero, suc, ◌+◌, ◌-◌, ◌*◌, ◌/◌, ◌%◌, ◌^◌, ◌<◌, ◌≤◌}
use mathlib.Core.Path.{◌≡◌, refl, ap, ap₂, sym, subst, ◌∙◌}
use mathlib.Core.Bool.{Bool, true, false, cond, ◌&&◌, ◌||◌, true≢false}
use mathlib.Core.List.{[], ◌∷◌, reverse}
use native.Mathlib.Nat.{add-zero, add-suc, mul-one, mul_assoc, pow-suc, div-lt_iff_lt-mul}
use native.Mathlib.Omega.{arith}
use lib.Dec.{ltb, eqb}
use borrow.Author.Tests.{ltb-true, ltb-false, leb-true, eqb-true, eqb-false, lt-ltb, le-leb}
use Rattle.format.specs.declared.SortOptions.{SortOptions}
use Rattle.format.specs.declared.Spot.{Spot}
use Rattle.format.specs.declared.Spot.TheVariants.{Start, Nulls, Value, Block}
use Rattle.format.specs.Limits.{max_slot}
use Rattle.format.specs.Lists.{low_bytes}
use Rattle.format.specs.Kinds.{Fixed, Shape, fixed, variable, width}
use Rattle.format.specs.Key.{unkey, allowed}
use Rattle.format.specs.Field.{block_size, max_field}
use Rattle.format.specs.Fold.{folds, is_folded}
use Rattle.format.specs.Read.{null_lead}
use Rattle.format.specs.CutterRule.{within, before, field_seen, spot_kept, fewest, most, fault_kept}
use Rattle.format.specs.Numbers.{fault_number}
use Rattle.format.specs.Cutter.{Move, on, whole, bad, turn, lead_move, first_bad, null_move, spelt_with, value_move, lowest, block_move, move}

-- ---- tests

and_split : (s t : Bool) → (s && t) ≡ true → (s ≡ true) × (t ≡ true)
and_split true true e = (refl, refl)
and_split true false e = absurd (true≢false (sym e))
and_split false true e = absurd (true≢false (sym e))
and_split false false e = absurd (true≢false (sym e))

pub and_true : {s t : Bool} → (s && t) ≡ true → (s ≡ true) × (t ≡ true)
and_true {s} {t} e = and_split s t e

pub true_and : {s t : Bool} → s ≡ true → t ≡ true → (s && t) ≡ true
true_and p q = ap₂ (λ (s t : Bool). s && t) p q

pub or_true : (s : Bool) {t : Bool} → t ≡ true → (s || t) ≡ true
or_true true e = refl
or_true false e = e

pub within_true : (low high n : ℕ) → within low high n ≡ true → (low ≤ n) × (n ≤ high)
within_true low high n e = let p = and_true e in (leb-true low n p.0, leb-true n high p.1)

pub true_within : (low high n : ℕ) → low ≤ n → n ≤ high → within low high n ≡ true
true_within low high n a b = true_and (le-leb low n a) (le-leb n high b)

-- ---- what a move may be

abbrev pub Okay : Shape → Bool → ℕ → ℕ → Move → Type 0
Okay sh fold row seen (on spot) = (field_seen spot ≡ suc seen) × (spot_kept sh fold (suc row) spot ≡ true)
Okay sh fold row seen whole = (fewest sh ≤ suc seen) × (suc seen ≤ most sh)
Okay sh fold row seen (bad f place) = (fault_kept (fault_number f) ≡ true) × (place ≤ row)

-- whichever way a test goes
okay_if : (sh : Shape) (fold : Bool) (row seen : ℕ) (b : Bool) (x y : Move) → (b ≡ true → Okay sh fold row seen x) → (b ≡ false → Okay sh fold row seen y)
    → Okay sh fold row seen (cond b x y)
okay_if sh fold row seen true x y p q = p refl
okay_if sh fold row seen false x y p q = q refl

-- ---- blocks

pub before_next : (k : ℕ) → before (suc k) ≡ before k + block_size k
before_next k = go (ltb k 4) (ltb (suc k) 4) refl refl
  where
    go : (s t : Bool) → ltb k 4 ≡ s → ltb (suc k) 4 ≡ t → cond t (8 * suc k) (32 * (suc k - 3)) ≡ cond s (8 * k) (32 * (k - 3)) + cond s 8 32
    go true true a b = omega arith
    go true false a b = omega (arith, ltb-true k 4 a, ltb-false (suc k) 4 b)
    go false true a b = absurd (omega (arith, ltb-false k 4 a, ltb-true (suc k) 4 b))
    go false false a b = omega (arith, ltb-false k 4 a)

pub size_most : (k : ℕ) → block_size k ≤ 32
size_most k = go (ltb k 4)
  where
    go : (s : Bool) → cond s 8 32 ≤ 32
    go true = omega arith
    go false = omega arith

-- a last block is within the longest field
block_most : (k : ℕ) → before k < max_slot → suc (suc (before k + k + block_size k)) ≤ 67588
block_most k = go (ltb k 4) refl
  where
    go : (s : Bool) → ltb k 4 ≡ s → cond s (8 * k) (32 * (k - 3)) < 65535 → suc (suc (cond s (8 * k) (32 * (k - 3)) + k + cond s 8 32)) ≤ 67588
    go true a h = omega (arith, ltb-true k 4 a)
    go false a h = omega (arith, ltb-false k 4 a)

-- ---- powers

power_pos : (e : ℕ) → 0 < 2 ^ e
power_pos zero = omega arith
power_pos (suc e) = omega (arith, power_pos e, pow-suc 2 e)

power_sum : (e j : ℕ) → 2 ^ (j + e) ≡ 2 ^ j * 2 ^ e
power_sum zero j = ap (λ (n : ℕ). 2 ^ n) (add-zero j) ∙ sym (mul-one (2 ^ j))
power_sum (suc e) j =
    ap (λ (n : ℕ). 2 ^ n) (add-suc j e)
    ∙ pow-suc 2 (j + e)
    ∙ ap (λ (n : ℕ). n * 2) (power_sum e j)
    ∙ mul_assoc (2 ^ j) (2 ^ e) 2
    ∙ ap (λ (n : ℕ). 2 ^ j * n) (sym (pow-suc 2 e))

-- a number below 2 to the j + e, shifted by e, is below 2 to the j
shifted : (m e j : ℕ) → m < 2 ^ (j + e) → m / 2 ^ e < 2 ^ j
shifted m e j h = (div-lt_iff_lt-mul (power_pos e)).1 (subst (λ (n : ℕ). m < n) (power_sum e j) h)

-- the lowest bit that is set is below a power that the number is below
lowest_below : (n j m : ℕ) → 0 < m → m < 2 ^ j → lowest n m < j
lowest_below zero zero m p l = absurd (omega arith)
lowest_below zero (suc j) m p l = omega arith
lowest_below (suc n) zero m p l = absurd (omega arith)
lowest_below (suc n) (suc j) m p l = go (eqb (m % 2) 1) refl (lowest_below n j (m / 2))
  where
    even : (m % 2 ≡ 1 → ⊥) → (m % 2 ≡ 0)
    even odd = zero_if (m % 2) (omega arith) odd
      where
        zero_if : (r : ℕ) → r < 2 → (r ≡ 1 → ⊥) → r ≡ 0
        zero_if zero l o = refl
        zero_if (suc zero) l o = absurd (o refl)
        zero_if (suc (suc r)) l o = absurd (omega arith)

    go : (t : Bool) → eqb (m % 2) 1 ≡ t → (0 < m / 2 → m / 2 < 2 ^ j → lowest n (m / 2) < j) → cond t 0 (suc (lowest n (m / 2))) < suc j
    go true e ih = omega arith
    go false e ih =
        let z = even (eqb-false (m % 2) 1 e) in
        let r : lowest n (m / 2) < j = ih (omega arith) (omega (arith, pow-suc 2 j)) in
        omega arith

-- ---- the moves

-- a lead byte
lead_okay : (sh : Shape) (o : SortOptions) (row b : ℕ) → Okay sh o.fold row 0 (lead_move sh o row b)
lead_okay (fixed k) o row b =
    okay_if (fixed k) o.fold row 0 (null_lead o b) _ _
    (λ e. okay_if (fixed k) o.fold row 0 (eqb (width k) 0) _ _ (λ z. one z) (λ z. (refl, true_and (some_left z) refl)))
    (λ e. okay_if (fixed k) o.fold row 0 (eqb b 1) _ _
    (λ f. okay_if (fixed k) o.fold row 0 (eqb (width k) 0) _ _ (λ z. one z) (λ z. (refl, true_and (some_left z) (spelt (folds k o.fold)))))
    (λ f. (refl, omega arith)))
  where
    one : eqb (width k) 0 ≡ true → (suc (width k) ≤ 1) × (1 ≤ suc (width k))
    one z = let w = eqb-true (width k) 0 z in (omega arith, omega arith)

    some_left : eqb (width k) 0 ≡ false → ltb 0 (width k) ≡ true
    some_left z = lt-ltb 0 (width k) (pos (width k) (eqb-false (width k) 0 z))
      where
        pos : (n : ℕ) → (n ≡ 0 → ⊥) → 0 < n
        pos zero h = absurd (h refl)
        pos (suc n) h = omega arith

    spelt : (t : Bool) → ltb 0 (cond t (256 ^ 0) 1) ≡ true
    spelt true = refl
    spelt false = refl
lead_okay variable o row b =
    okay_if variable o.fold row 0 (null_lead o b) _ _ (λ e. (omega arith, omega arith))
    (λ e. okay_if variable o.fold row 0 (eqb (turn o b) 1) _ _ (λ f. (omega arith, omega arith))
    (λ f. okay_if variable o.fold row 0 (eqb (turn o b) 2) _ _ (λ g. (refl, refl)) (λ g. (refl, omega arith))))

-- the place of the first bad byte is known, or it is this one, or there is none
bad_place : (row seen known b : ℕ) → seen < row → (eqb known 0 || within (row - seen) (row - 1) known) ≡ true
    → ((eqb (first_bad known row b) 0 || within (row - seen) row (first_bad known row b)) ≡ true) × (first_bad known row b ≤ row)
bad_place row seen known b l h = go (eqb known 0) (eqb b 0) refl h
  where
    go : (s t : Bool) → eqb known 0 ≡ s → (s || within (row - seen) (row - 1) known) ≡ true
        → ((eqb (cond s (cond t 0 row) known) 0 || within (row - seen) row (cond s (cond t 0 row) known)) ≡ true) × (cond s (cond t 0 row) known ≤ row)
    go true true e q = (refl, omega arith)
    go true false e q = (or_true (eqb row 0) (true_within (row - seen) row row (omega arith) (omega arith)), omega arith)
    go false t e q =
        let w = within_true (row - seen) (row - 1) known q in
        (or_true (eqb known 0) (true_within (row - seen) row known w.0 (omega (arith, w.1))), omega (arith, w.1))

null_okay : (k : Fixed) (fold : Bool) (row seen known b : ℕ) → suc seen ≤ row → spot_kept (fixed k) fold row (Nulls seen known) ≡ true
    → Okay (fixed k) fold row (suc seen) (null_move (width k) seen known row b)
null_okay k fold row seen known b l h =
    let p = and_true h in
    let w = ltb-true seen (width k) p.0 in
    let q = bad_place row seen known b l p.1 in
    okay_if (fixed k) fold row (suc seen) (ltb (suc seen) (width k)) _ _
    (λ e. (
      refl,
      true_and e (ap₂ (λ (m n : ℕ). eqb (first_bad known row b) 0 || within m n (first_bad known row b)) (omega arith) (omega arith) ∙ q.0),
    ))
    (λ e. okay_if (fixed k) fold row (suc seen) (eqb (first_bad known row b) 0) _ _
    (λ f. let z = ltb-false (suc seen) (width k) e in (omega arith, omega arith))
    (λ f. (refl, q.1)))

-- a byte, read either way
pub turned : (o : SortOptions) (b : ℕ) → b < 256 → turn o b < 256
turned o b l = go o.descending
  where
    go : (t : Bool) → cond t (255 - b) b < 256
    go true = omega arith
    go false = l

value_okay : (k : Fixed) (o : SortOptions) (row seen spelt b : ℕ) → b < 256 → suc seen ≤ row → spot_kept (fixed k) o.fold row (Value seen spelt) ≡ true
    → Okay (fixed k) o.fold row (suc seen) (value_move k o seen spelt row b)
value_okay k o row seen spelt b byte l h =
    let p = and_true h in
    let w = ltb-true seen (width k) p.0 in
    okay_if (fixed k) o.fold row (suc seen) (ltb (suc seen) (width k)) _ _
    (λ e. (refl, true_and e (next (folds k o.fold) p.1)))
    (λ e. okay_if (fixed k) o.fold row (suc seen) (allowed k (turn o b ∷ [])) _ _
    (λ f. okay_if (fixed k) o.fold row (suc seen) (is_folded k o.fold (unkey k (reverse (low_bytes (width k) (spelt_with k o spelt b))))) _ _
    (λ g. let z = ltb-false (suc seen) (width k) e in (omega arith, omega arith))
    (λ g. (refl, omega arith)))
    (λ f. (refl, omega arith)))
  where
    next : (t : Bool) → ltb spelt (cond t (256 ^ seen) 1) ≡ true → ltb (cond t (256 * spelt + turn o b) 0) (cond t (256 ^ suc seen) 1) ≡ true
    next true q =
        lt-ltb (256 * spelt + turn o b) (256 ^ suc seen)
        (let u = ltb-true spelt (256 ^ seen) q in omega (arith, pow-suc 256 seen, turned o b byte))
    next false q = refl

block_okay : (o : Bool) (row k seen marks b : ℕ) → suc (before k + k + seen) ≤ row → spot_kept variable o row (Block k seen marks) ≡ true
    → Okay variable o row (suc (before k + k + seen)) (block_move k seen marks row b)
block_okay o row k seen marks b l h =
    let p = and_true h in
    let q = and_true p.0 in
    let small = leb-true (before k) max_slot q.0 in
    let fits = leb-true seen (block_size k) q.1 in
    let low = ltb-true marks (2 ^ seen) p.1 in
    okay_if variable o row (suc (before k + k + seen)) (ltb seen (block_size k)) _ _
    (λ e. (omega arith, true_and (true_and q.0 (le-leb (suc seen) (block_size k) (ltb-true seen (block_size k) e))) (marked (eqb b 0) low)))
    (λ e.
    let full : seen ≡ block_size k = omega (arith, ltb-false seen (block_size k) e) in
    okay_if variable o row (suc (before k + k + seen)) (eqb b 255) _ _
    (λ f. okay_if variable o row (suc (before k + k + seen)) (ltb max_slot (before k + block_size k)) _ _ (λ g. (refl, omega arith))
    (λ g. (
      omega (arith, before_next k, full),
      true_and (true_and (le-leb (before (suc k)) max_slot (omega (arith, before_next k, ltb-false max_slot (before k + block_size k) g)))
          (le-leb 0 (block_size (suc k)) (omega arith))) refl,
    )))
    (λ f. okay_if variable o row (suc (before k + k + seen)) (ltb b 1 || ltb (block_size k) b) _ _ (λ g. (refl, omega arith))
    (λ g. okay_if variable o row (suc (before k + k + seen)) (eqb (marks / 2 ^ b) 0) _ _
    (λ m. okay_if variable o row (suc (before k + k + seen)) (ltb max_slot (before k + b)) _ _ (λ n. (refl, omega arith))
    (λ n. (omega arith, ended full g n)))
    (λ m. (refl, padded full low g m)))))
  where
    marked : (t : Bool) → marks < 2 ^ seen → ltb (marks + cond t 0 (2 ^ seen)) (2 ^ suc seen) ≡ true
    marked true u = lt-ltb (marks + 0) (2 ^ suc seen) (omega (arith, pow-suc 2 seen))
    marked false u = lt-ltb (marks + 2 ^ seen) (2 ^ suc seen) (omega (arith, pow-suc 2 seen))

    or_false : (s t : Bool) → (s || t) ≡ false → (s ≡ false) × (t ≡ false)
    or_false true true e = absurd (true≢false e)
    or_false true false e = absurd (true≢false e)
    or_false false true e = absurd (true≢false e)
    or_false false false e = (refl, refl)

    -- an end byte from 1 to the block's size
    counted : (ltb b 1 || ltb (block_size k) b) ≡ false → (1 ≤ b) × (b ≤ block_size k)
    counted g = let r = or_false (ltb b 1) (ltb (block_size k) b) g in (ltb-false b 1 r.0, ltb-false (block_size k) b r.1)

    ended : seen ≡ block_size k → (ltb b 1 || ltb (block_size k) b) ≡ false → ltb max_slot (before k + b) ≡ false
        → suc (suc (before k + k + seen)) ≤ max_field
    ended full g n = omega (arith, block_most k (omega (arith, ltb-false max_slot (before k + b) n, (counted g).0)))

    padded : seen ≡ block_size k → marks < 2 ^ seen → (ltb b 1 || ltb (block_size k) b) ≡ false → eqb (marks / 2 ^ b) 0 ≡ false
        → row - block_size k + b + lowest 32 (marks / 2 ^ b) ≤ row
    padded full low g m =
        let c = counted g in
        let sum : seen ≡ (seen - b) + b = omega (arith, c.1) in
        let j : lowest 32 (marks / 2 ^ b) < seen - b
        = lowest_below 32 (seen - b) (marks / 2 ^ b) (above (marks / 2 ^ b) (eqb-false (marks / 2 ^ b) 0 m))
        (shifted marks b (seen - b) (subst (λ (n : ℕ). marks < 2 ^ n) sum low)) in
        omega (arith, c.0, c.1)
      where
        above : (n : ℕ) → (n ≡ 0 → ⊥) → 0 < n
        above zero e = absurd (e refl)
        above (suc n) e = omega arith

-- every move, from a spot that keeps the rule
pub move_okay : (sh : Shape) (o : SortOptions) (spot : Spot) (row b : ℕ) → b < 256 → field_seen spot ≤ row → spot_kept sh o.fold row spot ≡ true
    → Okay sh o.fold row (field_seen spot) (move sh o spot row b)
move_okay sh o Start row b byte l h = lead_okay sh o row b
move_okay (fixed k) o (Nulls seen known) row b byte l h = null_okay k o.fold row seen known b l h
move_okay (fixed k) o (Value seen spelt) row b byte l h = value_okay k o row seen spelt b byte l h
move_okay (fixed k) o (Block i seen marks) row b byte l h = absurd (true≢false (sym h))
move_okay variable o (Nulls seen known) row b byte l h = absurd (true≢false (sym h))
move_okay variable o (Value seen spelt) row b byte l h = absurd (true≢false (sym h))
move_okay variable o (Block k seen marks) row b byte l h = block_okay o.fold row k seen marks (turn o b) l h
