-- The marks of a block's bytes, and how many bytes of a value come before a block. Assumes nothing.
use Prim.Native.Nat.{ℕ, zero, suc, ◌+◌, ◌-◌, ◌*◌, ◌/◌, ◌%◌, ◌^◌, ◌<◌, ◌≤◌, min}
use mathlib.Core.Path.{◌≡◌, refl, ap, ◌∙◌}
use mathlib.Core.Bool.{Bool, true, false, cond, not, false≢true, ◌||◌}
use native.Mathlib.Nat.{mod-lt}
use native.Mathlib.Numerals.{add-one}
use native.Mathlib.Omega.{arith}
use lib.Count.{under, count_trailing_zeros}
use lib.Dec.{ltb, eqb, lit<}
use lib.Pow.{shl_exact, pow_mono}
use mir.Val.{bool_byte}
use borrow.Author.Tests.{ltb-true, leb-true, lt-ltb, le-ltb, eq-eqb, ne_eqb}
use Rattle.format.specs.declared.SortOptions.{SortOptions}
use Rattle.format.specs.declared.RowFault.TheVariants.{EndByte, Padding, TooLong}
use Rattle.format.specs.declared.Spot.TheVariants.{Block}
use Rattle.format.specs.Limits.{max_slot}
use Rattle.format.specs.Kinds.{Shape, fixed, variable}
use Rattle.format.specs.Field.{block_size}
use Rattle.format.specs.CutterRule.{before, spot_kept}
use Rattle.format.specs.Cutter.{Move, on, whole, bad, turn, lowest, end_move, block_move, move}
use Rattle.cutter_laws.proofs.RuleMoves.{and_true}
use Rattle.moves.proofs.Arms.{when, unless}

-- the bit of a byte that is not zero
pub mark : (byte seen : ℕ) → seen < 32 → bool_byte (not (eqb byte 0)) * 2 ^ seen % 2 ^ 64 ≡ cond (eqb byte 0) 0 (2 ^ seen)
mark byte seen h = go (eqb byte 0)
  where
    go : (t : Bool) → bool_byte (not t) * 2 ^ seen % 2 ^ 64 ≡ cond t 0 (2 ^ seen)
    go true = shl_exact {a = 0} 1 seen 64 (omega arith) (omega arith) ∙ omega arith
    go false = shl_exact {a = 1} 1 seen 64 (omega arith) (omega arith) ∙ omega arith

pub mark_fits : (byte marks seen : ℕ) → seen < 32 → marks < 2 ^ seen → marks + cond (eqb byte 0) 0 (2 ^ seen) < 2 ^ 64
mark_fits byte marks seen h l = go (eqb byte 0)
  where
    most : 2 ^ seen ≤ 2 ^ 32
    most = pow_mono {j = 32} (omega arith)

    go : (t : Bool) → marks + cond t 0 (2 ^ seen) < 2 ^ 64
    go true = omega (arith, most)
    go false = omega (arith, most)

-- ---- the lowest of n bits that is set stands past the zeros below it, which k bits have
pub zeros_below : (n k m : ℕ) → n ≤ k → min (count_trailing_zeros k m) n ≡ lowest n m
unfolding count_trailing_zeros
zeros_below zero k m h = omega arith
zeros_below (suc n) zero m h = absurd (omega arith)
zeros_below (suc n) (suc k) m h = go (m % 2) (mod-lt m (lit< tt)) (zeros_below n k (m / 2) (omega arith))
  where
    go : (d : ℕ) → d < 2 → min (count_trailing_zeros k (m / 2)) n ≡ lowest n (m / 2)
        → min (under d (count_trailing_zeros k (m / 2))) (suc n) ≡ cond (eqb d 1) 0 (suc (lowest n (m / 2)))
    go zero l below = omega arith
    go (suc zero) l below = omega arith
    go (suc (suc d)) l below = absurd (omega arith)

-- ---- blocks

-- a spot in a block is one of variable bytes
pub record InBlock (o : SortOptions) (sh : Shape) (k seen marks at b : ℕ) : Type 0 where
  pub small : before k ≤ max_slot
  pub fits : seen ≤ block_size k
  pub low : marks < 2 ^ seen
  pub says : block_move k seen marks at (turn o b) ≡ move sh o (Block k seen marks) at b

pub block_shape : (sh : Shape) (o : SortOptions) (k seen marks at b : ℕ) → spot_kept sh o.fold at (Block k seen marks) ≡ true → InBlock o sh k seen marks at b
block_shape (fixed f) o k seen marks at b h = absurd (false≢true h)
block_shape variable o k seen marks at b h =
    let p = and_true h in
    let q = and_true p.0 in
    record {
      small = leb-true (before k) max_slot q.0;
      fits = leb-true seen (block_size k) q.1;
      low = ltb-true marks (2 ^ seen) p.1;
      says = refl;
    }

-- before and after the first four
pub before_few : (k : ℕ) → k < 4 → 8 * k ≡ before k
before_few k h = when _ (lt-ltb k 4 h)

pub before_many : (k : ℕ) → 4 ≤ k → 32 * (k - 3) ≡ before k
before_many k h = unless _ (le-ltb k 4 h) refl

pub block_numbers : (k : ℕ) → before k ≤ max_slot → k ≤ 2050
block_numbers k h = go (ltb k 4) refl h
  where
    go : (t : Bool) → ltb k 4 ≡ t → cond t (8 * k) (32 * (k - 3)) ≤ max_slot → k ≤ 2050
    go true e l = omega (arith, ltb-true k 4 e)
    go false e l = omega arith

-- ---- a block's end byte

module _ (k marks at e : ℕ) where
  pub end_long : e ≡ 255 → max_slot < before k + block_size k → bad TooLong at ≡ end_move k marks at e
  end_long h l = when _ (lt-ltb max_slot (before k + block_size k) l) ∙ when _ (eq-eqb e 255 h)

  pub end_more : e ≡ 255 → before k + block_size k ≤ max_slot → on (Block (k + 1) 0 0) ≡ end_move k marks at e
  end_more h l =
      ap (λ (n : ℕ). on (Block n 0 0)) (add-one k)
      ∙ unless _ (le-ltb max_slot (before k + block_size k) l) refl
      ∙ when _ (eq-eqb e 255 h)

  module _ (last : e ≡ 255 → ⊥) where
    pub end_none : e < 1 → bad EndByte at ≡ end_move k marks at e
    end_none h = unless _ (ne_eqb e 255 last) (when _ (ap (λ (t : Bool). t || ltb (block_size k) e) (lt-ltb e 1 h)))

    module _ (some : 1 ≤ e) where
      pub end_past : block_size k < e → bad EndByte at ≡ end_move k marks at e
      end_past h =
          unless _ (ne_eqb e 255 last)
          (when _ (ap (λ (t : Bool). t || ltb (block_size k) e) (le-ltb e 1 some) ∙ lt-ltb (block_size k) e h))

      module _ (inside : e ≤ block_size k) where
        counted : (m : Move) → m ≡ cond (eqb (marks / 2 ^ e) 0) (cond (ltb max_slot (before k + e)) (bad TooLong at) whole) (bad Padding (at - block_size k + e + lowest 32 (marks / 2 ^ e)))
            → m ≡ end_move k marks at e
        counted m p =
            unless _ (ne_eqb e 255 last)
            (unless _ (ap (λ (t : Bool). t || ltb (block_size k) e) (le-ltb e 1 some) ∙ le-ltb (block_size k) e inside) p)

        pub end_padded : (marks / 2 ^ e ≡ 0 → ⊥) → (place : ℕ) → place ≡ at - block_size k + e + lowest 32 (marks / 2 ^ e) → bad Padding place ≡ end_move k marks at e
        end_padded n place q = counted (bad Padding place) (unless _ (ne_eqb (marks / 2 ^ e) 0 n) (ap (bad Padding) q))

        pub end_over : marks / 2 ^ e ≡ 0 → max_slot < before k + e → bad TooLong at ≡ end_move k marks at e
        end_over z l = counted (bad TooLong at) (when _ (lt-ltb max_slot (before k + e) l) ∙ when _ (eq-eqb (marks / 2 ^ e) 0 z))

        pub end_whole : marks / 2 ^ e ≡ 0 → before k + e ≤ max_slot → whole ≡ end_move k marks at e
        end_whole z l = counted whole (unless _ (le-ltb max_slot (before k + e) l) refl ∙ when _ (eq-eqb (marks / 2 ^ e) 0 z))

-- a byte more of a block
pub block_on : (k seen marks at b m : ℕ) → seen < block_size k → m ≡ marks + cond (eqb b 0) 0 (2 ^ seen) → on (Block k (seen + 1) m) ≡ block_move k seen marks at b
block_on k seen marks at b m h e =
    ap (λ (n : ℕ). on (Block k n m)) (add-one seen)
    ∙ ap (λ (n : ℕ). on (Block k (suc seen) n)) e
    ∙ when _ (lt-ltb seen (block_size k) h)

-- the byte after its data
pub block_full : (k seen marks at b : ℕ) → block_size k ≤ seen → end_move k marks at b ≡ block_move k seen marks at b
block_full k seen marks at b h = unless _ (le-ltb seen (block_size k) h) refl
