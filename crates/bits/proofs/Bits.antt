-- Flags packed into bytes, and read back: row i is bit i mod 8 of byte i div 8. Assumes nothing.
use Prim.Native.Nat.{ℕ, zero, suc, ◌+◌, ◌-◌, ◌*◌, ◌/◌, ◌%◌, ◌^◌, ◌<◌, ◌≤◌}
use mathlib.Core.Path.{◌≡◌, refl, ap, ◌∙◌}
use mathlib.Core.Bool.{Bool, false}
use mathlib.Core.List.{List, [], ◌∷◌, ◌++◌}
use native.Mathlib.Omega.{arith}
use lib.Dec.{eqb}
use lib.ListN.{length, get_or, take, drop, length-append, get_or-eq_default, get_or-append}
use lib.Seq.{take_at, drop-drop, get_or-take, get_or-drop}
use borrow.Author.Tests.{le-ltb}
use Rattle.std.specs.declared.result.Result.TheVariants.{Ok}
use Rattle.format.specs.Sheet.{packed, bit, any_bit, spare_set, bits_fault}
use Rattle.format.specs.Cleared.{byte_of, pack}
use Rattle.bits.proofs.Flags.{flag_eq, byte_bit}

-- ---- the bytes of packed flags
-- as many as asked for
pub length_pack : (m : ℕ) (fs : List Bool) → length (pack m fs) ≡ m
length_pack zero fs = refl
length_pack (suc m) fs = ap suc (length_pack m (drop 8 fs))

-- past the first 8 flags, 8 j flags further
past : (fs : List Bool) (j : ℕ) → drop (8 * j) (drop 8 fs) ≡ drop (8 * suc j) fs
past fs j = drop-drop (8 * j) 8 fs ∙ ap (λ (n : ℕ). drop n fs) (let e : 8 + 8 * j ≡ 8 * suc j = omega arith in e)

-- byte j
pub pack_at : (m : ℕ) (fs : List Bool) (j : ℕ) → j < m → get_or (pack m fs) j 0 ≡ byte_of (take 8 (drop (8 * j) fs))
pack_at zero fs j h = absurd (omega arith)
pack_at (suc m) fs zero h = refl
pack_at (suc m) fs (suc j) h = pack_at m (drop 8 fs) j (omega arith) ∙ ap (λ (l : List Bool). byte_of (take 8 l)) (past fs j)

-- one byte more
pub pack_last : (m : ℕ) (fs : List Bool) → pack (suc m) fs ≡ pack m fs ++ (byte_of (take 8 (drop (8 * m) fs)) ∷ [])
pack_last zero fs = refl
pack_last (suc m) fs =
    ap (λ (l : List ℕ). byte_of (take 8 fs) ∷ l)
    (pack_last m (drop 8 fs) ∙ ap (λ (l : List Bool). pack m (drop 8 fs) ++ (byte_of (take 8 l) ∷ [])) (past fs m))

-- ---- the rows
-- what is taken out at row i is what was put in there
pub bit_pack : (m : ℕ) (fs : List Bool) (i : ℕ) → i < 8 * m → bit (pack m fs) i ≡ get_or fs i false
bit_pack m fs i h =
    let small : i % 8 < 8 = omega arith in
    let e : 8 * (i / 8) + i % 8 ≡ i = omega arith in
    ap (λ (x : ℕ). eqb (x / 2 ^ (i % 8) % 2) 1) (pack_at m fs (i / 8) (omega arith))
    ∙ ap (λ (x : ℕ). eqb x 1) (byte_bit (i % 8) (take 8 (drop (8 * (i / 8)) fs)))
    ∙ flag_eq (get_or (take 8 (drop (8 * (i / 8)) fs)) (i % 8) false)
    ∙ get_or-take 8 (drop (8 * (i / 8)) fs) (i % 8) false small
    ∙ get_or-drop (8 * (i / 8)) fs (i % 8) false
    ∙ ap (λ (x : ℕ). get_or fs x false) e

-- the same before anything else
pub bit_before : (m : ℕ) (fs : List Bool) (t : List ℕ) (i : ℕ) → i < 8 * m → bit (pack m fs ++ t) i ≡ get_or fs i false
bit_before m fs t i h =
    ap (λ (x : ℕ). eqb (x / 2 ^ (i % 8) % 2) 1) (get_or-append (pack m fs) t 0 (i / 8) (omega (arith, length_pack m fs)))
    ∙ bit_pack m fs i h

-- the rows of the first m bytes
pub bit_take : (m : ℕ) (s : List ℕ) (i : ℕ) → i < 8 * m → bit (take m s) i ≡ bit s i
bit_take m s i h = ap (λ (x : ℕ). eqb (x / 2 ^ (i % 8) % 2) 1) (get_or-take m s (i / 8) 0 (omega arith))

-- ---- the spare bits
-- none of k bits is set where each is clear
pub any_none : (bs : List ℕ) (i k : ℕ) → ((j : ℕ) → i ≤ j → j < i + k → bit bs j ≡ false) → any_bit bs i k ≡ false
any_none bs i zero h = refl
any_none bs i (suc k) h = rw (h i (omega arith) (omega arith)) (any_none bs (suc i) k (λ j a b. h j (omega arith) (omega arith)))

-- past the last flag no bit is set
pub spare_pack : (n : ℕ) (fs : List Bool) → length fs ≡ n → spare_set (pack (packed n) fs) n ≡ false
spare_pack n fs e =
    any_none (pack (packed n) fs) n (8 * length (pack (packed n) fs) - n)
    (λ j a b. bit_pack (packed n) fs j (omega (arith, length_pack (packed n) fs)) ∙ get_or-eq_default fs false (omega arith))

-- what was packed, before t, passes
pub bits_pass : (n c : ℕ) (fs : List Bool) (t : List ℕ) → length fs ≡ n → bits_fault n c (pack (packed n) fs ++ t) ≡ Ok tt
bits_pass n c fs t e =
    rw (le-ltb (length (p ++ t)) (packed n) (omega (arith, length-append p t, l)))
    (rw (take_at p t (packed n) l) (rw (spare_pack n fs e)))
  where
    p : List ℕ
    p = pack (packed n) fs

    l : length p ≡ packed n
    l = length_pack (packed n) fs
