-- The numbers of a description that passes are those of the column that it says. Assumes nothing.
use Prim.Native.Nat.{ℕ, ◌*◌, ◌/◌, ◌%◌, ◌<◌, ◌≤◌}
use mathlib.Core.Path.{◌≡◌, refl, ap, sym, ◌∙◌}
use mathlib.Core.Bool.{Bool, true, false, cond, ◌&&◌}
use native.Mathlib.Omega.{arith}
use native.Mathlib.Nat.{mod-lt, mod-eq_of_lt, div-add-mod', div-lt_iff_lt-mul, div-div-eq-div-mul}
use lib.Dec.{ltb, eqb, lit<}
use borrow.Author.Tests.{eqb-true, eqb-false}
use Rattle.format.specs.declared.Kind.{Kind}
use Rattle.format.specs.Limits.{max_width}
use Rattle.format.specs.Kinds.{last_kind, value_bytes}
use Rattle.format.specs.Columns.{kind_of, options_of, most_options, most_width}
use Rattle.format.specs.Described.{Description, kind_number, options_number, held_width, held, column_of}
use Rattle.laws.proofs.Columns.{Fine, most_width_lem}
use Rattle.readings.specs.Readings.{Spellable}

-- ---- the kind: a step through the table
step : (b i : ℕ) (k l : Kind) → i ≤ b → kind_number k ≡ i → (i < b → kind_number l ≡ b) → kind_number (cond (eqb b i) k l) ≡ b
step b i k l h e rest = go (eqb b i) refl
  where
    go : (t : Bool) → eqb b i ≡ t → kind_number (cond t k l) ≡ b
    go true q = e ∙ sym (eqb-true b i q)
    go false q = let n = eqb-false b i q in rest (omega arith)

kind_back : (b w : ℕ) → 1 ≤ b → b ≤ last_kind → kind_number (kind_of b w) ≡ b
kind_back b w h l =
    step b 1 _ _ h refl λ h.
    step b 2 _ _ h refl λ h.
    step b 3 _ _ h refl λ h.
    step b 4 _ _ h refl λ h.
    step b 5 _ _ h refl λ h.
    step b 6 _ _ h refl λ h.
    step b 7 _ _ h refl λ h.
    step b 8 _ _ h refl λ h.
    step b 9 _ _ h refl λ h.
    step b 10 _ _ h refl λ h.
    step b 11 _ _ h refl λ h.
    step b 12 _ _ h refl λ h.
    step b 13 _ _ h refl λ h.
    step b 14 _ _ h refl λ h.
    step b 15 _ _ h refl λ h.
    step b 16 _ _ h refl λ h.
    step b 17 _ _ h refl λ h. omega arith

-- ---- the options, bit by bit
flag : (x c : ℕ) → x < 2 → cond (eqb x 1) c 0 ≡ x * c
flag x c h = go (eqb x 1) refl
  where
    go : (t : Bool) → eqb x 1 ≡ t → cond t c 0 ≡ x * c
    go true q = rw (eqb-true x 1 q) (omega arith)
    go false q = let n = eqb-false x 1 q in let z : x ≡ 0 = omega arith in rw z (omega arith)

options_back : (o : ℕ) → o < 16 → options_number (options_of o) ≡ o
options_back o h =
    let eighth : o / 8 < 2 = (div-lt_iff_lt-mul (lit< tt)).1 h in
    let small : o / 8 % 2 ≡ o / 8 = mod-eq_of_lt eighth in
    rw (
      flag (o % 2) 1 (mod-lt o (lit< tt)),
      flag (o / 2 % 2) 2 (mod-lt (o / 2) (lit< tt)),
      flag (o / 4 % 2) 4 (mod-lt (o / 4) (lit< tt)),
      flag (o / 8 % 2) 8 (mod-lt (o / 8) (lit< tt)),
    )
    (omega (arith, small, div-add-mod' o 2, div-add-mod' (o / 2) 2, div-add-mod' (o / 4) 2, div-div-eq-div-mul o 2 2, div-div-eq-div-mul o 4 2))

-- no options that pass are over 15
few_options : (b o : ℕ) → o ≤ most_options b → o < 16
few_options b o = go (ltb 9 b && ltb b 13)
  where
    go : (t : Bool) → o ≤ cond {A = ℕ} t 15 7 → o < 16
    go true l = omega arith
    go false l = omega arith

-- ---- the width: none outside kind 15
no_width : (b w : ℕ) → w ≤ most_width b → eqb b 15 ≡ false → w ≡ 0
no_width b w l q = none (rw q at l)
  where
    none : w ≤ 0 → w ≡ 0
    none h = omega arith

width_back : (b w : ℕ) → 1 ≤ b → b ≤ last_kind → w ≤ most_width b → held_width (kind_of b w) ≡ w
width_back b w h l m = ap (λ (k : ℕ). cond (eqb k 15) (value_bytes (kind_of b w)) 0) (kind_back b w h l) ∙ go (eqb b 15) refl
  where
    go : (t : Bool) → eqb b 15 ≡ t → cond t (value_bytes (kind_of b w)) 0 ≡ w
    go true q = ap (λ (k : ℕ). value_bytes (kind_of k w)) (eqb-true b 15 q)
    go false q = sym (no_width b w m q)

-- ---- all three
pub held_back : (d : Description) → Fine d.kind false d.options d.width → held (column_of d) ≡ d
held_back d f =
    ap (λ (k : ℕ). numbers k (options_number (options_of d.options)) (held_width (kind_of d.kind d.width)))
    (kind_back d.kind d.width f.least f.most)
    ∙ ap (λ (o : ℕ). numbers d.kind o (held_width (kind_of d.kind d.width)))
    (options_back d.options (few_options d.kind d.options f.options))
    ∙ ap (numbers d.kind d.options) (width_back d.kind d.width f.least f.most f.width)
  where
    numbers : ℕ → ℕ → ℕ → Description
    numbers k o w = record { kind = k; options = o; width = w }

-- and it has list bytes
pub fine_spellable : (d : Description) → Fine d.kind false d.options d.width → Spellable d
fine_spellable d f =
    let few = few_options d.kind d.options f.options in
    let narrow = most_width_lem d.kind d.width f.width in
    record {
      kind = below d.kind f.most;
      options = omega arith;
      width = within d.width narrow;
      none = no_width d.kind d.width f.width;
    }
  where
    below : (b : ℕ) → b ≤ last_kind → b < 256
    below b l = omega arith

    within : (w : ℕ) → w ≤ max_width → w < 65536
    within w l = omega arith
