-- The check of the offsets: what holds at the head of its loop, and what each way out answers. Assumes nothing.
use Prim.Native.Nat.{ℕ, zero, suc, ◌+◌, ◌<◌, ◌≤◌}
use mathlib.Core.Path.{◌≡◌, refl, ap, sym, ◌∙◌}
use mathlib.Core.List.{List}
use native.Mathlib.Numerals.{add-one}
use native.Mathlib.Omega.{arith}
use lib.ListN.{length, get_or}
use borrow.Author.Tests.{lt-ltb, le-ltb, eq-eqb, ne_eqb}
use Rattle.std.specs.declared.result.Result.TheVariants.{Ok, Err}
use Rattle.format.specs.declared.Refusal.TheVariants.{ManyBytes, OffsetRoom, Offsets}
use Rattle.format.specs.Limits.{max_total}
use Rattle.format.specs.Entries.{fall_fault, offsets_fault}

-- ---- the loop

-- the offsets from i on fall where all of them do
pub record Falls (n : ℕ) (offsets : List ℕ) (i : ℕ) : Type 0 where
  pub left : ℕ
  pub counts : i + left ≡ n
  pub says : fall_fault offsets i left ≡ fall_fault offsets 0 n

pub begins : (n : ℕ) (offsets : List ℕ) → Falls n offsets 0
begins n offsets = record { left = n; counts = omega arith; says = refl }

module _ (n : ℕ) (offsets : List ℕ) (i : ℕ) (t : Falls n offsets i) where
  -- offset i + 1 is the first that falls
  pub falls : i < n → get_or offsets (i + 1) 0 < get_or offsets i 0 → Err (Offsets (i + 1)) ≡ fall_fault offsets 0 n
  falls h l = go t.left t.counts t.says
    where
      go : (left : ℕ) → i + left ≡ n → fall_fault offsets i left ≡ fall_fault offsets 0 n → Err (Offsets (i + 1)) ≡ fall_fault offsets 0 n
      go zero counts says = absurd (omega arith)
      go (suc left) counts says = rw add-one (rw (lt-ltb (get_or offsets (suc i) 0) (get_or offsets i 0) (rw add-one at l)) at says)

  -- it does not
  pub rises : i < n → get_or offsets i 0 ≤ get_or offsets (i + 1) 0 → Falls n offsets (i + 1)
  rises h l = go t.left t.counts t.says
    where
      go : (left : ℕ) → i + left ≡ n → fall_fault offsets i left ≡ fall_fault offsets 0 n → Falls n offsets (i + 1)
      go zero counts says = absurd (omega arith)
      go (suc left) counts says = record {
        left = left;
        counts = omega arith;
        says = rw add-one (rw (le-ltb (get_or offsets (suc i) 0) (get_or offsets i 0) (rw add-one at l)) at says);
      }

  -- none falls
  pub risen : n ≤ i → fall_fault offsets 0 n ≡ Ok tt
  risen h = let z : t.left ≡ 0 = omega (arith, t.counts) in sym t.says ∙ ap (fall_fault offsets i) z

-- ---- the ways out, in the order of the checks
module _ (n : ℕ) (bytes offsets : List ℕ) where
  -- 14
  pub few : length offsets < n + 1 → Err (OffsetRoom (n + 1)) ≡ offsets_fault n bytes offsets
  few h = rw (add-one, lt-ltb (length offsets) (suc n) (omega arith))

  module _ (there : n + 1 ≤ length offsets) where
    -- 15, the first
    pub late : (get_or offsets 0 0 ≡ 0 → ⊥) → Err (Offsets 0) ≡ offsets_fault n bytes offsets
    late h = rw (le-ltb (length offsets) (suc n) (omega arith), ne_eqb (get_or offsets 0 0) 0 h)

    module _ (first : get_or offsets 0 0 ≡ 0) where
      -- 15, one that falls
      pub fell : (i : ℕ) → Err (Offsets i) ≡ fall_fault offsets 0 n → Err (Offsets i) ≡ offsets_fault n bytes offsets
      fell i e = rw (le-ltb (length offsets) (suc n) (omega arith), eq-eqb (get_or offsets 0 0) 0 first, ← e)

      module _ (rose : fall_fault offsets 0 n ≡ Ok tt) where
        -- 15, the last
        pub past : length bytes < get_or offsets n 0 → Err (Offsets n) ≡ offsets_fault n bytes offsets
        past h =
            rw (le-ltb (length offsets) (suc n) (omega arith), eq-eqb (get_or offsets 0 0) 0 first, rose, lt-ltb (length bytes) (get_or offsets n 0) h)

        module _ (inside : get_or offsets n 0 ≤ length bytes) where
          -- 12
          pub heavy : max_total < get_or offsets n 0 → Err (ManyBytes (get_or offsets n 0) 0) ≡ offsets_fault n bytes offsets
          heavy h =
              rw (le-ltb (length offsets) (suc n) (omega arith), eq-eqb (get_or offsets 0 0) 0 first, rose)
              (rw (le-ltb (length bytes) (get_or offsets n 0) inside, lt-ltb max_total (get_or offsets n 0) h))

          -- none of them
          pub sound : get_or offsets n 0 ≤ max_total → Ok tt ≡ offsets_fault n bytes offsets
          sound h =
              rw (le-ltb (length offsets) (suc n) (omega arith), eq-eqb (get_or offsets 0 0) 0 first, rose)
              (rw (le-ltb (length bytes) (get_or offsets n 0) inside, le-ltb max_total (get_or offsets n 0) h))
