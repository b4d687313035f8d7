-- Numbers word by word, from the top down: the top word decides unless it ties. Over the count of words. Assumes nothing.
use Prim.Native.Nat.{ℕ, ◌+◌, ◌*◌, ◌<◌, ◌≤◌, Ordering}
use mathlib.Core.Path.{◌≡◌, ap, ap₂, sym, ◌∙◌}
use mathlib.Core.Bool.{false}
use mathlib.Core.List.{List, ◌++◌, reverse-append}
use native.Mathlib.Omega.{arith}
use lib.ListN.{length, take, drop, length-drop, length-reverse}
use lib.Seq.{length-take-le}
use Rattle.std.specs.declared.cmp.Ordering.{Ordering as Answer}
use Rattle.std.specs.Ordering.{is_ne}
use Rattle.format.specs.Key.{signed_key, unsigned_key}
use Rattle.format.specs.Order.{then, cmp}
use Rattle.basics.proofs.Bytes.{long_signed}
use Rattle.laws.proofs.TopWord.{words_apart, signed_apart}
use Rattle.byte_order.proofs.Alike.{cmp_even}
use Rattle.number_order.specs.Orders.{Ordered}
use Rattle.number_order.proofs.Found.{Found, found_more}

-- what the top word is keyed by, where the words below it are turned round
pub record TopKey : Type 0 where
  pub key_of : List ℕ → List ℕ
  pub apart : (x y : List ℕ) → 0 < length y → key_of (x ++ y) ≡ key_of y ++ unsigned_key x
  pub long : (y : List ℕ) → length (key_of y) ≡ length y

abbrev pub signed_top : TopKey
signed_top = record { key_of = signed_key; apart = signed_apart; long = long_signed }

abbrev pub unsigned_top : TopKey
unsigned_top = record { key_of = unsigned_key; apart = λ x y h. reverse-append x y; long = length-reverse }

-- the order of the n words from a place of each on
abbrev pub words_order : TopKey → List ℕ → ℕ → List ℕ → ℕ → ℕ → Ordering
words_order K a at b to n = cmp (K.key_of (take (8 * n) (drop at a))) (K.key_of (take (8 * n) (drop to b)))

-- n + 1 words are the one at u and v, and the n below it
module _ (K : TopKey) (a : List ℕ) (at : ℕ) (b : List ℕ) (to m n u v : ℕ) (e : m ≡ n + 1) (ia : at + 8 * m ≤ length a) (ib : to + 8 * m ≤ length b)
    (eu : u ≡ at + 8 * n) (ev : v ≡ to + 8 * n) where
  top_long : (l : List ℕ) (at u : ℕ) → at + 8 * m ≤ length l → u ≡ at + 8 * n → length (take 8 (drop u l)) ≡ 8
  top_long l at u h q = length-take-le 8 (drop u l) (omega (arith, length-drop u l))

  parted : (l : List ℕ) (at u : ℕ) → at + 8 * m ≤ length l → u ≡ at + 8 * n
      → K.key_of (take (8 * m) (drop at l)) ≡ K.key_of (take 8 (drop u l)) ++ unsigned_key (take (8 * n) (drop at l))
  parted l at u h q =
      ap K.key_of (words_apart m n e l at ∙ ap (λ (k : ℕ). take (8 * n) (drop at l) ++ take 8 (drop k l)) (sym q))
      ∙ K.apart (take (8 * n) (drop at l)) (take 8 (drop u l)) (omega (arith, top_long l at u h q))

  abbrev top : Ordering
  top = cmp (K.key_of (take 8 (drop u a))) (K.key_of (take 8 (drop v b)))

  word_step : words_order K a at b to m ≡ then top (words_order unsigned_top a at b to n)
  word_step =
      ap₂ cmp (parted a at u ia eu) (parted b to v ib ev)
      ∙ cmp_even (K.key_of (take 8 (drop u a))) (K.key_of (take 8 (drop v b))) (unsigned_key (take (8 * n) (drop at a))) (unsigned_key (take (8 * n) (drop to b)))
      (K.long (take 8 (drop u a)) ∙ top_long a at u ia eu ∙ sym (K.long (take 8 (drop v b)) ∙ top_long b to v ib ev))

  -- that one has the answer s
  pub words_more : (whole : Ordering) {r s : Answer} → Found whole (words_order K a at b to m) r → is_ne r ≡ false
      → Ordered (K.key_of (take 8 (drop u a))) (K.key_of (take 8 (drop v b))) s → Found whole (words_order unsigned_top a at b to n) s
  words_more whole f t o = found_more whole (words_order K a at b to m) f top (words_order unsigned_top a at b to n) t word_step o.says
