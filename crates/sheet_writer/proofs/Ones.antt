-- Ones counted in packed validity: as many as slots are valid, so that the others are null. Assumes nothing.
use Prim.Native.Nat.{ℕ, zero, suc, ◌+◌, ◌*◌, ◌/◌, ◌%◌, ◌≤◌}
use mathlib.Core.Path.{◌≡◌, refl, sym, ap, ap₂, ◌∙◌}
use mathlib.Core.Bool.{Bool, true, false, cond}
use mathlib.Core.Option.{none, some}
use mathlib.Core.List.{List, [], ◌∷◌, ◌++◌, map}
use native.Mathlib.Omega.{arith}
use lib.Count.{ones, ones_step}
use lib.ListN.{length, take, drop, length-drop, length-map, take-append-drop}
use Rattle.format.specs.Kinds.{Slot}
use Rattle.format.specs.Sheet.{packed, nulls_in}
use Rattle.format.specs.Cleared.{byte_of, pack, valid}
use Rattle.bits.specs.Ones.{ones_in}

-- how many flags are set
abbrev trues : List Bool → ℕ
trues [] = 0
trues (b ∷ fs) = cond b 1 0 + trues fs

trues_append : (fs gs : List Bool) → trues (fs ++ gs) ≡ trues fs + trues gs
trues_append [] gs = omega arith
trues_append (b ∷ fs) gs = omega (arith, trues_append fs gs)

-- a byte has a one for each
digit : (b : Bool) (x : ℕ) → ((cond b 1 0 + 2 * x) % 2 ≡ cond b 1 0) × ((cond b 1 0 + 2 * x) / 2 ≡ x)
digit true x = (omega arith, omega arith)
digit false x = (omega arith, omega arith)

ones_byte : (fs : List Bool) → ones (byte_of fs) ≡ trues fs
unfolding ones
ones_byte [] = refl
ones_byte (b ∷ fs) =
    let d = digit b (byte_of fs) in
    ones_step (byte_of (b ∷ fs)) ∙ ap₂ (λ (x y : ℕ). x + ones y) d.0 d.1 ∙ ap (λ (k : ℕ). cond b 1 0 + k) (ones_byte fs)

-- and so have all bytes, where there is one for each eight flags
ones_pack : (m : ℕ) (fs : List Bool) → length fs ≤ 8 * m → ones_in (pack m fs) ≡ trues fs
ones_pack zero [] h = refl
ones_pack zero (b ∷ fs) h = absurd (omega arith)
ones_pack (suc m) fs h =
    ap₂ (λ (x y : ℕ). x + y) (ones_byte (take 8 fs)) (ones_pack m (drop 8 fs) (omega (arith, length-drop 8 fs)))
    ∙ sym (trues_append (take 8 fs) (drop 8 fs))
    ∙ ap trues (take-append-drop 8 fs)

-- a slot is valid or null
valid_or_null : (ss : List Slot) → trues (map valid ss) + nulls_in ss ≡ length ss
valid_or_null [] = refl
valid_or_null (none ∷ ss) = omega (arith, valid_or_null ss)
valid_or_null (some v ∷ ss) = omega (arith, valid_or_null ss)

-- the ones of a column's validity, and its nulls, are its slots together
pub ones_nulls : (ss : List Slot) → ones_in (pack (packed (length ss)) (map valid ss)) + nulls_in ss ≡ length ss
ones_nulls ss = ap (λ (k : ℕ). k + nulls_in ss) (ones_pack (packed (length ss)) (map valid ss) (omega (arith, length-map ss valid))) ∙ valid_or_null ss
