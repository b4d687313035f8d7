-- The keys of fixed values stand as the values do, for every shape. Assumes nothing.
use Prim.Native.Nat.{ℕ, ◌+◌, min}
use mathlib.Core.Path.{◌≡◌, refl, ap, ap₂, sym, ◌∙◌}
use mathlib.Core.List.{List, [], ◌∷◌}
use native.Mathlib.Omega.{arith}
use lib.ListN.{length, take, drop, length-take, length-drop}
use lib.Seq.{length-take-le}
use Rattle.format.specs.Lists.{Bytes, sum}
use Rattle.format.specs.Kinds.{Fixed, bool, plain, number, integer, float, parts, width}
use Rattle.format.specs.Key.{key, parts_key, signed_key}
use Rattle.format.specs.Order.{cmp, then}
use Rattle.format.specs.Value.{fixed_order, parts_order}
use Rattle.basics.proofs.Bytes.{bytes_drop, bytes_take, long_signed}
use Rattle.basics.proofs.Sorts.{AllPositive, Signs}
use Rattle.laws.proofs.HighFirst.{unsigned_order}
use Rattle.byte_order.proofs.Alike.{cmp_even}
use Rattle.number_order.proofs.KeyLaws.{signed_order, float_order}

-- intervals: the first part decides, unless it ties
pub parts_step : (n : ℕ) (ns a b : List ℕ) → length a ≡ length b
    → cmp (parts_key (n ∷ ns) a) (parts_key (n ∷ ns) b)
    ≡ then (cmp (signed_key (take n a)) (signed_key (take n b))) (cmp (parts_key ns (drop n a)) (parts_key ns (drop n b)))
parts_step n ns a b e =
    cmp_even (signed_key (take n a)) (signed_key (take n b)) (parts_key ns (drop n a)) (parts_key ns (drop n b))
    (long_signed (take n a) ∙ length-take n a ∙ ap (min n) e ∙ sym (length-take n b) ∙ sym (long_signed (take n b)))

-- part by part
parts_order_lem : (ns a b : List ℕ) → AllPositive ns → Bytes a → Bytes b → length a ≡ sum ns → length b ≡ sum ns
    → cmp (parts_key ns a) (parts_key ns b) ≡ parts_order ns a b
parts_order_lem [] a b p ha hb la lb = refl
parts_order_lem (n ∷ ns) a b p ha hb la lb =
    parts_step n ns a b (la ∙ sym lb)
    ∙ ap₂ then
    (signed_order (take n a) (take n b) (fit a la ∙ sym (fit b lb)) (bytes_take n a ha) (bytes_take n b hb) (omega (arith, fit a la, p.0)))
    (parts_order_lem ns (drop n a) (drop n b) p.1 (bytes_drop n a ha) (bytes_drop n b hb) (left a la) (left b lb))
  where
    fit : (v : List ℕ) → length v ≡ n + sum ns → length (take n v) ≡ n
    fit v l = length-take-le n v (omega arith)

    left : (v : List ℕ) → length v ≡ n + sum ns → length (drop n v) ≡ sum ns
    left v l = omega (arith, length-drop n v)

-- of one length
pub key_order : (k : Fixed) → Signs k → (a b : List ℕ) → Bytes a → Bytes b → length a ≡ width k → length b ≡ width k
    → cmp (key k a) (key k b) ≡ fixed_order k a b
key_order bool so a b ha hb la lb = refl
key_order (plain n) so a b ha hb la lb = refl
key_order (number n) so a b ha hb la lb = unsigned_order a b (la ∙ sym lb) ha hb
key_order (integer n) so a b ha hb la lb = signed_order a b (la ∙ sym lb) ha hb (rw la so)
key_order (float n) so a b ha hb la lb = float_order a b (la ∙ sym lb) ha hb (rw la so)
key_order (parts ns) so a b ha hb la lb = parts_order_lem ns a b so ha hb la lb
