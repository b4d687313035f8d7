-- `value_order::value::order_wide` meets its contract: the words of 64 bits from word i * n on are the bytes from byte i * (n * 8) on.
-- Assumes nothing.
use Prim.Native.Nat.{ℕ, ◌*◌}
use mathlib.Core.Path.{◌≡◌}
use mathlib.Core.List.{List}
use native.Mathlib.Omega.{arith}
use lib.ListN.{take, drop}
use Rattle.std.specs.declared.cmp.Ordering.{Ordering}
use Rattle.format.specs.Key.{signed_key}
use Rattle.number_order.specs.Orders.{Ordered}
use Rattle.value_order.proofs.value.order_wide.Goals as goal

-- the words of n at i and j, by their bytes
words_at : (n : ℕ) (a : List ℕ) (i : ℕ) (b : List ℕ) (j : ℕ) {r : Ordering}
    → Ordered (signed_key (take (8 * n) (drop (i * n * 8) a))) (signed_key (take (8 * n) (drop (j * n * 8) b))) r
    → Ordered (signed_key (take (8 * n) (drop (i * (8 * n)) a))) (signed_key (take (8 * n) (drop (j * (8 * n)) b))) r
words_at n a i b j o =
    let p : i * n * 8 ≡ i * (8 * n) = omega arith in
    let q : j * n * 8 ≡ j * (8 * n) = omega arith in
    rw (← p, ← q) o

pub returns-in-I128 : goal.returns-in-I128
returns-in-I128 c = let A = c.args in rw (c.in-I128.is) (words_at 2 A.a.now A.i A.b.now A.j c.order_words.ensures)

pub returns-in-I256 : goal.returns-in-I256
returns-in-I256 c = let A = c.args in rw (c.in-I256.is) (words_at 4 A.a.now A.i A.b.now A.j c.order_words-in-I256.ensures)
