-- The row numbers that are lent: those of the list, and after them those in bytes; and the check of their pairs. Assumes nothing.
use Prim.Native.Nat.{ℕ, zero, suc, ◌+◌, ◌-◌, ◌*◌, ◌/◌, ◌<◌, ◌≤◌}
use mathlib.Core.Path.{◌≡◌, ap, ap₂, sym, subst, ◌∙◌}
use mathlib.Core.Logic.{◌⊎◌, inl, inr}
use mathlib.Core.List.{List, [], ◌∷◌, ◌++◌}
use native.Mathlib.Nat.{zero-add, suc-add, sub-zero}
use native.Mathlib.Numerals.{add-one}
use native.Mathlib.Omega.{arith}
use lib.Dec.{leb}
use lib.ListN.{length, get_or, take, drop, length-append}
use borrow.Author.Tests.{leb-false, le-leb, lt-leb}
use Rattle.std.specs.declared.result.Result.TheVariants.{Ok, Err}
use Rattle.format.specs.declared.Refusal.TheVariants.{SheetRow}
use Rattle.format.specs.Check.{both}
use Rattle.format.specs.Lists.{low}
use Rattle.format.specs.Lent.{eights}
use Rattle.format.specs.CompareSheets.{sheet_row_fault, pair_fault, pairs_fault, pair_count, first_row, second_row}
use Rattle.basics.proofs.Checks.{both_pass, fail_if_pass}
use Rattle.basics.proofs.Compare.{choose}
use Rattle.basics.proofs.Lists.{each_at, length_each}
use Rattle.row_pairs.specs.Pairs.{pair_rows, InSheets}

past : (xs ys : List ℕ) (k : ℕ) → get_or (xs ++ ys) (length xs + k) 0 ≡ get_or ys k 0
past [] ys k = ap (λ (j : ℕ). get_or ys j 0) (zero-add k)
past (x ∷ xs) ys k = ap (λ (j : ℕ). get_or (x ∷ (xs ++ ys)) j 0) (suc-add (length xs) k) ∙ past xs ys k

-- how many they are
pub rows_many : (numbers bytes : List ℕ) → length (pair_rows numbers bytes) ≡ length numbers + length bytes / 8
rows_many numbers bytes =
    length-append numbers (eights bytes) ∙ ap (λ (k : ℕ). length numbers + k) (length_each 0 (length bytes / 8) (λ i. low (take 8 (drop (8 * i) bytes))))

-- a number in the bytes
pub row_in_bytes : (numbers bytes : List ℕ) (k : ℕ) → length numbers ≤ k → k < length (pair_rows numbers bytes)
    → low (take 8 (drop (8 * (k - length numbers)) bytes)) ≡ get_or (pair_rows numbers bytes) k 0
row_in_bytes numbers bytes k h l =
    sym (ap (λ (j : ℕ). get_or (numbers ++ eights bytes) j 0) {x = k} {y = length numbers + (k - length numbers)} (omega arith)
    ∙ past numbers (eights bytes) (k - length numbers)
    ∙ each_at (length bytes / 8) (λ i. low (take 8 (drop (8 * i) bytes))) 0 (k - length numbers) (omega (arith, rows_many numbers bytes)))

-- ---- the check of n pairs, of which those from k on are left
module _ (n₀ n₁ : ℕ) (rows : List ℕ) (n : ℕ) where
  pub record Checking (k : ℕ) : Type 0 where
    pub within : k ≤ n
    pub says : pairs_fault n₀ n₁ rows k (n - k) ≡ pairs_fault n₀ n₁ rows 0 n

  pub checking_begin : Checking 0
  checking_begin = record { within = omega arith; says = ap (pairs_fault n₀ n₁ rows 0) (sub-zero n) }

  -- none is left
  pub checking_end : (k : ℕ) → Checking k → n ≤ k → Ok tt ≡ pairs_fault n₀ n₁ rows 0 n
  checking_end k t h = ap (pairs_fault n₀ n₁ rows k) (let z : 0 ≡ n - k = omega arith in z) ∙ t.says

  module _ (k : ℕ) (t : Checking k) (l : k < n) (i j : ℕ) (ei : i ≡ first_row rows k) (ej : j ≡ second_row rows k) where
    from : both (pair_fault n₀ i n₁ j) (pairs_fault n₀ n₁ rows (suc k) (n - suc k)) ≡ pairs_fault n₀ n₁ rows 0 n
    from =
        ap₂ (λ (x y : ℕ). both (pair_fault n₀ x n₁ y) (pairs_fault n₀ n₁ rows (suc k) (n - suc k))) ei ej
        ∙ ap (pairs_fault n₀ n₁ rows k) (let z : suc (n - suc k) ≡ n - k = omega arith in z) ∙ t.says

    pub first_past : n₀ ≤ i → Err (SheetRow 0 i) ≡ pairs_fault n₀ n₁ rows 0 n
    first_past h = rw (← from) (rw (le-leb n₀ i h))

    pub second_past : i < n₀ → n₁ ≤ j → Err (SheetRow 1 j) ≡ pairs_fault n₀ n₁ rows 0 n
    second_past h g = rw (← from) (rw (lt-leb n₀ i h, le-leb n₁ j g))

    pub checking_more : i < n₀ → j < n₁ → Checking (k + 1)
    checking_more h g = record {
      within = omega arith;
      says = rw (← from) (rw (lt-leb n₀ i h, lt-leb n₁ j g, add-one k));
    }

-- pairs that pass are of rows that the sheets have
passed : (n₀ n₁ : ℕ) (rows : List ℕ) (i k : ℕ) → pairs_fault n₀ n₁ rows i k ≡ Ok tt → (p : ℕ) → i ≤ p → p < i + k
    → (first_row rows p < n₀) × (second_row rows p < n₁)
passed n₀ n₁ rows i zero e p a b = absurd (omega arith)
passed n₀ n₁ rows i (suc k) e p a b = go (choose i p) (λ h. passed n₀ n₁ rows (suc i) k halves.1 p (omega arith) (omega arith))
  where
    halves : (pair_fault n₀ (first_row rows i) n₁ (second_row rows i) ≡ Ok tt) × (pairs_fault n₀ n₁ rows (suc i) k ≡ Ok tt)
    halves = both_pass (pair_fault n₀ (first_row rows i) n₁ (second_row rows i)) (pairs_fault n₀ n₁ rows (suc i) k) e

    here : (first_row rows i < n₀) × (second_row rows i < n₁)
    here =
        let q = both_pass (sheet_row_fault 0 (first_row rows i) n₀) (sheet_row_fault 1 (second_row rows i) n₁) halves.0 in (
          leb-false n₀ (first_row rows i) (fail_if_pass (leb n₀ (first_row rows i)) (SheetRow 0 (first_row rows i)) (Ok tt) q.0).0,
          leb-false n₁ (second_row rows i) (fail_if_pass (leb n₁ (second_row rows i)) (SheetRow 1 (second_row rows i)) (Ok tt) q.1).0,
        )

    go : (i < p) ⊎ (p ≤ i) → (i < p → (first_row rows p < n₀) × (second_row rows p < n₁)) → (first_row rows p < n₀) × (second_row rows p < n₁)
    go (inl h) later = later h
    go (inr h) later = let z : i ≡ p = omega arith in subst (λ (q : ℕ). (first_row rows q < n₀) × (second_row rows q < n₁)) z here

pub pairs_passed : (n₀ n₁ : ℕ) (rows : List ℕ) → pairs_fault n₀ n₁ rows 0 (pair_count rows) ≡ Ok tt → InSheets n₀ n₁ rows
pairs_passed n₀ n₁ rows e = record {
  first = λ k l. (passed n₀ n₁ rows 0 (pair_count rows) e k (omega arith) (omega arith)).0;
  second = λ k l. (passed n₀ n₁ rows 0 (pair_count rows) e k (omega arith) (omega arith)).1;
}
