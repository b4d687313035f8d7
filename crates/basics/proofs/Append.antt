-- Appending: what every walk that writes shares. A walk has so much left to write from here that the whole, written from the
-- start, comes out. Assumes nothing.
use Prim.Native.Nat.{ℕ, suc, ◌+◌, ◌-◌, ◌<◌, ◌≤◌}
use mathlib.Core.Path.{◌≡◌, refl, sym, ap, ap₂, ◌∙◌, subst}
use mathlib.Core.List.{List, [], ◌∷◌, ◌++◌}
use native.Mathlib.Nat.{add-zero, add-suc, suc-add}
use native.Mathlib.Numerals.{add-one}
use native.Mathlib.Omega.{arith}
use lib.ListN.{length, set, drop, length-append}
use lib.Seq.{sets, length-sets, sets-eq}
use Rattle.format.specs.Lists.{each, joined, over}

-- one run of bytes after another
pub sets_append : (xs ys l : List ℕ) (i : ℕ) → sets l i (xs ++ ys) ≡ sets (sets l i xs) (i + length xs) ys
sets_append [] ys l i = rw add-zero
sets_append (x ∷ xs) ys l i =
    sets_append xs ys (set l i x) (suc i)
    ∙ ap (λ (k : ℕ). sets (sets (set l i x) (suc i) xs) k ys) (suc-add i (length xs) ∙ sym (add-suc i (length xs)))

-- what is written in front, and after it what was there
pub over_sets : (new old : List ℕ) → length new ≤ length old → over new old ≡ sets old 0 new
over_sets new old h = sym (sets-eq new old 0 (omega arith) ∙ ap (λ (k : ℕ). new ++ drop k old) {x = 0 + length new} {y = length new} (omega arith))

-- what is left, written from here, is the whole, written from the start
pub record Walk (whole rest : List ℕ) (out₀ : List ℕ) (at₀ : ℕ) (out : List ℕ) (at : ℕ) : Type 0 where
  pub long : at + length rest ≡ at₀ + length whole
  pub same : length out ≡ length out₀
  pub says : sets out at rest ≡ sets out₀ at₀ whole

pub walk_start : (whole out : List ℕ) (at : ℕ) → Walk whole whole out at out at
walk_start whole out at = record { long = refl; same = refl; says = refl }

module _ {whole rest out₀ : List ℕ} {at₀ : ℕ} {out : List ℕ} {at : ℕ} (t : Walk whole rest out₀ at₀ out at) where
  -- a piece more is written
  pub walk_more : (piece rest' : List ℕ) → rest ≡ piece ++ rest' → Walk whole rest' out₀ at₀ (sets out at piece) (at + length piece)
  walk_more piece rest' e = record {
    long = omega (arith, t.long, ap length e, length-append piece rest');
    same = length-sets out at piece ∙ t.same;
    says = sym (sets_append piece rest' out at) ∙ ap (sets out at) (sym e) ∙ t.says;
  }

  -- there is room for it
  pub walk_room : (piece rest' : List ℕ) → rest ≡ piece ++ rest' → at₀ + length whole ≤ length out₀ → at + length piece ≤ length out
  walk_room piece rest' e fits = omega (arith, t.long, t.same, ap length e, length-append piece rest')

  -- nothing is left
  pub walk_end : rest ≡ [] → (at ≡ at₀ + length whole) × (out ≡ sets out₀ at₀ whole)
  walk_end e = (omega (arith, t.long, ap length e), ap (sets out at) (sym e) ∙ t.says)

-- the place, said another way
pub walk_at : {whole rest out₀ : List ℕ} {at₀ : ℕ} {out : List ℕ} {at : ℕ} (at' : ℕ) → Walk whole rest out₀ at₀ out at → at ≡ at' → Walk whole rest out₀ at₀ out at'
walk_at {whole} {rest} {out₀} {at₀} {out} {at} at' t e = subst (λ (k : ℕ). Walk whole rest out₀ at₀ out k) e t

-- a piece more, whose length is known
pub walk_piece : {whole rest out₀ : List ℕ} {at₀ : ℕ} {out : List ℕ} {at : ℕ} (w : ℕ) (piece rest' : List ℕ) → Walk whole rest out₀ at₀ out at
    → rest ≡ piece ++ rest' → length piece ≡ w → Walk whole rest' out₀ at₀ (sets out at piece) (at + w)
walk_piece {at} w piece rest' t e l = walk_at (at + w) (walk_more t piece rest' e) (omega arith)

pub walk_first : (whole rest out : List ℕ) (at : ℕ) → rest ≡ whole → Walk whole rest out at out (at + 0)
walk_first whole rest out at e = record { long = omega (arith, ap length e); same = refl; says = ap₂ (sets out) (add-zero at) e }

-- ---- a walk that appends a piece for each of n turns
pub each_step : {A : Type 0} (f : ℕ → A) (n r : ℕ) → r < n → each r (n - r) f ≡ f r ∷ each (suc r) (n - suc r) f
each_step f n r h = ap (λ (k : ℕ). each r k f) {x = n - r} {y = suc (n - suc r)} (omega arith)

pub each_none : {A : Type 0} (f : ℕ → A) (n r : ℕ) → n ≤ r → each r (n - r) f ≡ []
each_none f n r h = ap (λ (k : ℕ). each r k f) {x = n - r} {y = 0} (omega arith)

-- r of n pieces are written
abbrev pub Turns : (ℕ → List ℕ) → ℕ → List ℕ → ℕ → List ℕ → ℕ → ℕ → Type 0
Turns piece n out₀ at₀ out at r = (r ≤ n) × Walk (joined (each 0 n piece)) (joined (each r (n - r) piece)) out₀ at₀ out at

pub turns_begin : (piece : ℕ → List ℕ) (n : ℕ) (out : List ℕ) (at : ℕ) → Turns piece n out at out at 0
turns_begin piece n out at = (
  omega arith,
  subst (λ (k : ℕ). Walk (joined (each 0 n piece)) (joined (each 0 k piece)) out at out at) {x = n} {y = n - 0} (omega arith) (walk_start (joined (each 0 n piece)) out at),
)

module _ (piece : ℕ → List ℕ) (n : ℕ) (out₀ : List ℕ) (at₀ : ℕ) (out : List ℕ) (at r : ℕ) (t : Turns piece n out₀ at₀ out at r) where
  turns_rest : r < n → joined (each r (n - r) piece) ≡ piece r ++ joined (each (r + 1) (n - (r + 1)) piece)
  turns_rest h = ap joined (each_step piece n r h) ∙ rw (add-one r)

  pub turns_room : r < n → at₀ + length (joined (each 0 n piece)) ≤ length out₀ → at + length (piece r) ≤ length out
  turns_room h fits = walk_room t.1 (piece r) (joined (each (r + 1) (n - (r + 1)) piece)) (turns_rest h) fits

  pub turns_more : (w : ℕ) → r < n → length (piece r) ≡ w → Turns piece n out₀ at₀ (sets out at (piece r)) (at + w) (r + 1)
  turns_more w h l = (omega arith, walk_piece w (piece r) (joined (each (r + 1) (n - (r + 1)) piece)) t.1 (turns_rest h) l)

  pub turns_end : n ≤ r → (at ≡ at₀ + length (joined (each 0 n piece))) × (out ≡ sets out₀ at₀ (joined (each 0 n piece)))
  turns_end h = walk_end t.1 (ap joined (each_none piece n r h))
