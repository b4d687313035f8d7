-- The columns of a list: the bytes of a description, and that a list that passes has 1 to 64 columns, none wider than the
-- limit. Assumes nothing.
use Prim.Native.Nat.{ℕ, zero, suc, ◌+◌, ◌-◌, ◌*◌, ◌<◌, ◌≤◌}
use mathlib.Core.Path.{◌≡◌, refl}
use mathlib.Core.Bool.{Bool, true, false, cond, ◌||◌}
use mathlib.Core.List.{List, [], ◌∷◌}
use native.Mathlib.Omega.{arith}
use lib.Dec.{ltb, eqb, lit≤}
use lib.ListN.{length, get_or}
use borrow.Author.Tests.{eq-eqb, ne_eqb, eqb-false, lt-ltb, le-ltb, ltb-false}
use Rattle.format.specs.declared.Kind.{Kind}
use Rattle.format.specs.declared.Column.{Column}
use Rattle.std.specs.declared.result.Result.TheVariants.{Ok}
use Rattle.format.specs.Limits.{max_columns, max_width}
use Rattle.format.specs.Check.{both}
use Rattle.format.specs.Kinds.{last_kind, value_bytes}
use Rattle.format.specs.Columns.{kind_of, most_options, most_width, numbers_fault, description_bytes, width_at, column_at, description_fault, list_fault_from, columns_from, spelled_fault, spelled_columns}
use Rattle.basics.proofs.Lists.{Every}
use Rattle.basics.proofs.Checks.{fail_if_pass, enough, pass_enough, both_pass}

-- ---- one description

pub bytes_wide : (b : ℕ) → b ≡ 15 → description_bytes b ≡ 4
bytes_wide b e = rw (eq-eqb b 15 e)

pub bytes_plain : (b : ℕ) → (b ≡ 15 → ⊥) → description_bytes b ≡ 2
bytes_plain b e = rw (ne_eqb b 15 e)

pub bytes_least : (b : ℕ) → (2 ≤ description_bytes b) × (description_bytes b ≤ 4)
bytes_least b = go (eqb b 15)
  where
    go : (t : Bool) → (2 ≤ cond {A = ℕ} t 4 2) × (cond {A = ℕ} t 4 2 ≤ 4)
    go true = (omega arith, omega arith)
    go false = (omega arith, omega arith)

pub width_wide : (s : List ℕ) (at : ℕ) → get_or s at 0 ≡ 15 → width_at s at ≡ get_or s (at + 2) 0 + 256 * get_or s (at + 3) 0
width_wide s at e = rw (eq-eqb (get_or s at 0) 15 e)

pub width_plain : (s : List ℕ) (at : ℕ) → (get_or s at 0 ≡ 15 → ⊥) → width_at s at ≡ 0
width_plain s at e = rw (ne_eqb (get_or s at 0) 15 e)

-- a description that passes, by its numbers: the kind is known, the body whole, options and width are such as the kind has
pub record Fine (b : ℕ) (cut : Bool) (o w : ℕ) : Type 0 where
  pub least : 1 ≤ b
  pub most : b ≤ last_kind
  pub whole : cut ≡ false
  pub options : o ≤ most_options b
  pub width : w ≤ most_width b

neither : (a b : Bool) → (a || b) ≡ false → (a ≡ false) × (b ≡ false)
neither true b e = (e, cc)
neither false b e = (refl, e)

pub fine : (place b : ℕ) (cut : Bool) (o w : ℕ) → numbers_fault place b cut o w ≡ Ok tt → Fine b cut o w
fine place b cut o w e =
    let known = fail_if_pass (ltb b 1 || ltb last_kind b) _ _ e in
    let body = fail_if_pass cut _ _ known.1 in
    let bits = enough (most_options b) o _ _ body.1 in
    let within = neither (ltb b 1) (ltb last_kind b) known.0 in
    record {
      least = ltb-false b 1 within.0;
      most = ltb-false last_kind b within.1;
      whole = body.0;
      options = bits.0;
      width = (enough (most_width b) w _ _ bits.1).0;
    }

-- the other way, at any place
pub fine_pass : (place b : ℕ) (cut : Bool) (o w : ℕ) → Fine b cut o w → numbers_fault place b cut o w ≡ Ok tt
fine_pass place b cut o w f =
    rw (le-ltb b 1 f.least, le-ltb last_kind b f.most, f.whole)
    (pass_enough (most_options b) o _ _ f.options (pass_enough (most_width b) w _ _ f.width refl))

-- no kind has a width over the limit
pub most_width_lem : (b w : ℕ) → w ≤ most_width b → w ≤ max_width
most_width_lem b w = go (eqb b 15)
  where
    go : (t : Bool) → w ≤ cond t max_width 0 → w ≤ max_width
    go true l = l
    go false l = omega arith

-- what a description that passes says: it is whole, and its width is within the limit
pub description_passed : (s : List ℕ) (at : ℕ) → description_fault s at ≡ Ok tt
    → (description_bytes (get_or s at 0) ≤ length s - at) × (width_at s at ≤ max_width)
description_passed s at e =
    let f = fine at (get_or s at 0) (ltb (length s - at) (description_bytes (get_or s at 0))) (get_or s (at + 1) 0) (width_at s at) e in
    (ltb-false (length s - at) (description_bytes (get_or s at 0)) f.whole, most_width_lem (get_or s at 0) (width_at s at) f.width)

-- ---- the width of a kind
either : (t : Bool) (k l : Kind) → value_bytes k ≤ max_width → value_bytes l ≤ max_width → value_bytes (cond t k l) ≤ max_width
either true k l p q = p
either false k l p q = q

pub kind_narrow : (b w : ℕ) → w ≤ max_width → value_bytes (kind_of b w) ≤ max_width
kind_narrow b w h =
    either (eqb b 1) _ _ (lit≤ tt)
    (either (eqb b 2) _ _ (lit≤ tt)
    (either (eqb b 3) _ _ (lit≤ tt)
    (either (eqb b 4) _ _ (lit≤ tt)
    (either (eqb b 5) _ _ (lit≤ tt)
    (either (eqb b 6) _ _ (lit≤ tt)
    (either (eqb b 7) _ _ (lit≤ tt)
    (either (eqb b 8) _ _ (lit≤ tt)
    (either (eqb b 9) _ _ (lit≤ tt)
    (either (eqb b 10) _ _ (lit≤ tt)
    (either (eqb b 11) _ _ (lit≤ tt)
    (either (eqb b 12) _ _ (lit≤ tt)
    (either (eqb b 13) _ _ (lit≤ tt)
    (either (eqb b 14) _ _ (lit≤ tt)
    (either (eqb b 15) _ _ h
    (either (eqb b 16) _ _ (lit≤ tt)
    (either (eqb b 17) _ _ (lit≤ tt)
    (lit≤ tt)))))))))))))))))

-- ---- the columns of a list that passes

-- no column is wider than the limit
abbrev pub Narrow : List Column → Type 0
Narrow cols = Every (λ col. value_bytes col.kind ≤ max_width) cols

narrow_from : (room : ℕ) (s : List ℕ) (at : ℕ) → list_fault_from room s at ≡ Ok tt → Narrow (columns_from room s at)
narrow_from zero s at e = tt
narrow_from (suc room) s at e = go (narrow_from room s next) (ltb at (length s)) e
  where
    next : ℕ
    next = at + description_bytes (get_or s at 0)

    go : (list_fault_from room s next ≡ Ok tt → Narrow (columns_from room s next)) → (t : Bool)
        → cond t (both (description_fault s at) (list_fault_from room s next)) (Ok tt) ≡ Ok tt
        → Narrow (cond t (column_at s at ∷ columns_from room s next) [])
    go rest true e =
        let p = both_pass (description_fault s at) _ e in
        (kind_narrow (get_or s at 0) (width_at s at) (description_passed s at p.0).1, rest p.1)
    go rest false e = tt

few_cons : (t : Bool) (room : ℕ) (col : Column) (cols : List Column) → length cols ≤ room → length (cond t (col ∷ cols) []) ≤ suc room
few_cons true room col cols h = omega arith
few_cons false room col cols h = omega arith

few_from : (room : ℕ) (s : List ℕ) (at : ℕ) → length (columns_from room s at) ≤ room
few_from zero s at = omega arith
few_from (suc room) s at = few_cons (ltb at (length s)) room _ _ (few_from room s (at + description_bytes (get_or s at 0)))

some_from : (room : ℕ) (s : List ℕ) (at : ℕ) → at < length s → 1 ≤ length (columns_from (suc room) s at)
some_from room s at h = rw (lt-ltb at (length s) h) (some _)
  where
    some : (n : ℕ) → 1 ≤ suc n
    some n = omega arith

pub spelled_narrow : (s : List ℕ) → spelled_fault s ≡ Ok tt → Narrow (spelled_columns s)
unfolding spelled_fault spelled_columns
spelled_narrow s e = narrow_from max_columns s 0 (fail_if_pass (eqb (length s) 0) _ _ e).1

pub spelled_few : (s : List ℕ) → spelled_fault s ≡ Ok tt → (1 ≤ length (spelled_columns s)) × (length (spelled_columns s) ≤ max_columns)
unfolding spelled_fault spelled_columns
spelled_few s e = (some_from (max_columns - 1) s 0 (filled (eqb-false (length s) 0 (fail_if_pass (eqb (length s) 0) _ _ e).0)), few_from max_columns s 0)
  where
    filled : (length s ≡ 0 → ⊥) → 0 < length s
    filled h = omega arith
