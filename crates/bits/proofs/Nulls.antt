-- Ones counted in validity bytes give the valid rows, and so the nulls. Assumes nothing.
use Prim.Native.Nat.{ℕ, zero, suc, ◌+◌, ◌-◌, ◌*◌, ◌/◌, ◌^◌, ◌<◌, ◌≤◌}
use mathlib.Core.Path.{◌≡◌, refl, sym, ap, ap₂, subst, ◌∙◌}
use mathlib.Core.Bool.{Bool, true, false, cond, ◌||◌}
use mathlib.Core.List.{List, [], ◌∷◌}
use native.Mathlib.Omega.{arith}
use lib.Count.{ones}
use lib.Dec.{T, ltb}
use lib.ListN.{length, get_or, take, drop}
use lib.Seq.{drop-cons, drop-length, length-take-le}
use borrow.Author.Tests.{ltb-false}
use Rattle.std.specs.declared.result.Result.TheVariants.{Ok}
use Rattle.format.specs.Lists.{Bytes, each}
use Rattle.format.specs.Kinds.{Slot}
use Rattle.format.specs.Sheet.{Layout, packed, bit, any_bit, spare_set, bits_fault, slot_if, value_at, slot_at, column_slots, nulls_in}
use Rattle.bits.specs.Ones.{ones_in}
use Rattle.bits.proofs.Bits.{bit_take}
use Rattle.bits.proofs.Digits.{set_in, byte_digits, set_digits}
use Rattle.basics.proofs.Bytes.{bytes_take}
use Rattle.basics.proofs.Checks.{fail_if_pass}

-- ---- the set bits of bytes
-- j of them, and then k
set_split : (bs : List ℕ) (i j k : ℕ) → set_in bs i (j + k) ≡ set_in bs i j + set_in bs (i + j) k
unfolding set_in
set_split bs i zero k =
    let z : 0 + k ≡ k = omega arith in
    let y : i + 0 ≡ i = omega arith in
    rw (z, y) (omega arith)
set_split bs i (suc j) k =
    let z : suc j + k ≡ suc (j + k) = omega arith in
    let y : i + suc j ≡ suc i + j = omega arith in
    rw (z, y) (omega (arith, set_split bs (suc i) j k))

-- the first m bytes have the rows below 8 m
set_take : (m : ℕ) (s : List ℕ) (i k : ℕ) → i + k ≤ 8 * m → set_in (take m s) i k ≡ set_in s i k
unfolding set_in
set_take m s i zero h = refl
set_take m s i (suc k) h = ap₂ (λ (t : Bool) (x : ℕ). cond t 1 0 + x) (bit_take m s i (omega arith)) (set_take m s (suc i) k (omega arith))

-- no bit counts where none is set
or_none : (a b : Bool) → (a || b) ≡ false → (a ≡ false) × (b ≡ false)
or_none true b e = absurd (subst T e tt)
or_none false b e = (refl, e)

set_none : (bs : List ℕ) (i k : ℕ) → any_bit bs i k ≡ false → set_in bs i k ≡ 0
unfolding set_in
set_none bs i zero e = refl
set_none bs i (suc k) e =
    let o = or_none (bit bs i) (any_bit bs (suc i) k) e in
    rw o.0 (omega (arith, set_none bs (suc i) k o.1))

-- ---- the ones of all bytes
-- each of them is a byte
byte_at : (bs : List ℕ) → Bytes bs → (i : ℕ) → get_or bs i 0 < 256
byte_at [] b i = omega arith
byte_at (x ∷ bs) b zero = b.0
byte_at (x ∷ bs) b (suc i) = byte_at bs b.1 i

-- the bits of byte a
ones_byte : (bs : List ℕ) → Bytes bs → (a : ℕ) → set_in bs (8 * a) 8 ≡ ones (get_or bs a 0)
ones_byte bs b a =
    let d = byte_digits bs a 0 8 (byte_at bs b a) (omega arith) in
    let z : 8 * a + 0 ≡ 8 * a = omega arith in
    let y : get_or bs a 0 / 2 ^ 0 ≡ get_or bs a 0 = omega arith in
    set_digits bs (8 * a) 8 (get_or bs a 0) (rw (z, y) at d)

-- the bits of the d bytes from byte a on, which are the last
ones_from : (bs : List ℕ) → Bytes bs → (a d : ℕ) → a + d ≡ length bs → set_in bs (8 * a) (8 * d) ≡ ones_in (drop a bs)
unfolding set_in
ones_from bs b a zero e =
    let z : a ≡ length bs = omega arith in
    rw (z, drop-length bs)
ones_from bs b a (suc d) e =
    let m : 8 * suc d ≡ 8 + 8 * d = omega arith in
    let n : 8 * a + 8 ≡ 8 * suc a = omega arith in
    ap (set_in bs (8 * a)) m
    ∙ set_split bs (8 * a) 8 (8 * d)
    ∙ ap₂ (λ (x y : ℕ). x + y) (ones_byte bs b a) (ap (λ (i : ℕ). set_in bs i (8 * d)) n ∙ ones_from bs b (suc a) d (omega arith))
    ∙ sym (ap ones_in (drop-cons bs a 0 (omega arith)))

-- ---- validity bytes of n rows in front of s
-- what passes: the bytes are there, and no spare bit is set
pub bits_passed : (n c : ℕ) (s : List ℕ) → bits_fault n c s ≡ Ok tt → (packed n ≤ length s) × (spare_set (take (packed n) s) n ≡ false)
bits_passed n c s e =
    let cut = fail_if_pass (ltb (length s) (packed n)) _ _ e in
    (ltb-false (length s) (packed n) cut.0, (fail_if_pass (spare_set (take (packed n) s) n) _ _ cut.1).0)

-- with the spare bits zero, the ones are the valid rows
valid_ones : (n : ℕ) (s : List ℕ) → Bytes s → packed n ≤ length s → spare_set (take (packed n) s) n ≡ false
    → set_in s 0 n ≡ ones_in (take (packed n) s)
valid_ones n s b room e =
    let l : length v ≡ packed n = length-take-le (packed n) s room in
    let z : 8 * length v ≡ n + (8 * length v - n) = omega arith in
    let y : 0 + n ≡ n = omega arith in
    let rest : set_in v (0 + n) (8 * length v - n) ≡ 0 = rw y (set_none v n (8 * length v - n) e) in
    let all : set_in v 0 (8 * length v) ≡ ones_in v = ones_from v (bytes_take (packed n) s b) 0 (length v) (omega arith) in
    omega (arith, set_take (packed n) s 0 n (omega arith), set_split v 0 n (8 * length v - n), ap (set_in v 0) z)
  where
    v : List ℕ
    v = take (packed n) s

-- a row is null or valid
null_slot : (t : Bool) (v : List ℕ) (ss : List Slot) → nulls_in (slot_if t v ∷ ss) + cond t 1 0 ≡ suc (nulls_in ss)
null_slot true v ss = omega arith
null_slot false v ss = omega arith

-- and so are the k from row i on
nulls_set : (ly : Layout) (n : ℕ) (s : List ℕ) (i k : ℕ) → nulls_in (each i k (slot_at ly n s)) + set_in s i k ≡ k
unfolding set_in
nulls_set ly n s i zero = refl
nulls_set ly n s i (suc k) =
    let row = null_slot (bit s i) (value_at ly n (drop (packed n) s) i) (each (suc i) k (slot_at ly n s)) in
    omega (arith, nulls_set ly n s (suc i) k)

-- the nulls of a column whose validity bytes pass, and their ones, are n together
pub column_nulls : (ly : Layout) (n c : ℕ) (s : List ℕ) → Bytes s → bits_fault n c s ≡ Ok tt
    → nulls_in (column_slots ly n s) + ones_in (take (packed n) s) ≡ n
column_nulls ly n c s b e =
    let p = bits_passed n c s e in
    omega (arith, nulls_set ly n s 0 n, valid_ones n s b p.0 p.1)
