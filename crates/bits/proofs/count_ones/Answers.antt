-- One byte on, its ones are at most eight; at the end there are none.
use Prim.Native.Nat.{ℕ, ◌+◌, ◌<◌}
use mathlib.Core.Path.{◌≡◌}
use mathlib.Core.List.{List}
use native.Mathlib.Numerals.{add-one}
use native.Mathlib.Omega.{arith}
use lib.Count.{ones, ones-le}
use lib.ListN.{length, get_or, drop}
use lib.Seq.{drop-cons, drop-length}
use Rattle.bits.specs.Ones.{ones_in}
use Rattle.bits.proofs.count_ones.Goals as goal

next : (s : List ℕ) (i : ℕ) → i < length s → ones_in (drop i s) ≡ ones (get_or s i 0) + ones_in (drop (i + 1) s)
next s i h = rw (add-one, drop-cons s i 0)

end : (s : List ℕ) (i : ℕ) → i ≡ length s → ones_in (drop i s) ≡ 0
end s i e = rw (e, drop-length s)

pub overflow_cast-n : goal.overflow_cast-n
overflow_cast-n c = omega (arith, ones-le 8 _ (c.type_inv.s c.loop-byte.byte-index).fits)

pub overflow_add-n : goal.overflow_add-n
overflow_add-n c = omega (arith, ones-le 8 _ (c.type_inv.s c.loop-byte.byte-index).fits)

pub loop-byte-preserved : goal.loop-byte-preserved
loop-byte-preserved c =
    let few = ones-le 8 _ (c.type_inv.s c.loop-byte.byte-index).fits in
    (omega (arith, next c.args.s.now c.loop-byte.byte-index (omega arith)), omega arith)

pub returns : goal.returns
returns c = let none = end c.args.s.now c.loop-byte.byte-index (omega arith) in record { value = omega arith; upper_bound = omega arith }
