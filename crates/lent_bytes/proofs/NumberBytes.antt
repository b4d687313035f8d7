-- Numbers in bytes, eight bytes a number: stored one after the other, read one by one, and stored in front of those that were there.
-- Assumes nothing.
use Prim.Native.Nat.{ℕ, zero, suc, ◌+◌, ◌-◌, ◌*◌, ◌<◌, ◌≤◌}
use mathlib.Core.Path.{◌≡◌, refl, sym, ap, ap₂, subst, ◌∙◌}
use mathlib.Core.List.{List, [], ◌∷◌, ◌++◌, append_assoc}
use native.Mathlib.Omega.{arith}
use lib.ListN.{length, get_or, set, take, drop, length-append, length-drop, take-append-drop}
use lib.Seq.{sets, drop-drop, length-take-le, get_or-set_same, get_or-set_other}
use borrow.Author.Count.{below_more}
use Rattle.format.specs.Lists.{Bytes, each, joined, over, low_bytes}
use Rattle.format.specs.declared.Returned.{Returned}
use Rattle.format.specs.Lent.{answer_room, eight_bytes, number_bytes}
use Rattle.basics.proofs.Append.{Turns, over_sets, turns_more, turns_end}
use Rattle.basics.proofs.Bytes.{bytes_take, bytes_drop}
use Rattle.basics.proofs.Lists.{each_is, length_each, map_is}
use Rattle.basics.proofs.LowBytes.{length_low_bytes}
use Rattle.number.proofs.Words.{spelled}
use Rattle.lent_bytes.specs.Offsets.{eight_at, first_eights}

-- ---- how long they are, and joined
pub length_eights : (ns : List ℕ) → length (eight_bytes ns) ≡ 8 * length ns
length_eights [] = refl
length_eights (n ∷ ns) = length-append (low_bytes 8 n) (eight_bytes ns) ∙ omega (arith, length_eights ns, length_low_bytes 8 n)

pub eights_append : (ms ns : List ℕ) → eight_bytes (ms ++ ns) ≡ eight_bytes ms ++ eight_bytes ns
eights_append [] ns = refl
eights_append (m ∷ ms) ns =
    ap (λ (l : List ℕ). low_bytes 8 m ++ l) (eights_append ms ns) ∙ sym (append_assoc (low_bytes 8 m) (eight_bytes ms) (eight_bytes ns))

-- ---- stored: the four numbers of an answer
pub four_stored : (x y : Returned) (l m n o p : List ℕ) → x ≡ y → answer_room ≤ length l
    → m ≡ sets l 0 (low_bytes 8 x.0) → n ≡ sets m 8 (low_bytes 8 x.1) → o ≡ sets n 16 (low_bytes 8 x.2) → p ≡ sets o 24 (low_bytes 8 x.3)
    → p ≡ over (number_bytes y) l
four_stored x y l m n o p e h a b c d =
    d ∙ ap (λ (z : List ℕ). sets z 24 (low_bytes 8 x.3))
    (c ∙ ap (λ (z : List ℕ). sets z 16 (low_bytes 8 x.2)) (b ∙ ap (λ (z : List ℕ). sets z 8 (low_bytes 8 x.1)) a))
    ∙ sym (over_sets (number_bytes x) l h) ∙ ap (λ (z : Returned). over (number_bytes z) l) e

-- ---- stored: the numbers of a list, so many of them
abbrev pub Stored : List ℕ → List ℕ → List ℕ → ℕ → Type 0
Stored ns out₀ out i = Turns (λ j. low_bytes 8 (get_or ns j 0)) (length ns) out₀ 0 out (8 * i) i

pub stored_more : (ns out₀ out out' : List ℕ) (i : ℕ) → Stored ns out₀ out i → i < length ns → out' ≡ sets out (8 * i) (low_bytes 8 (get_or ns i 0))
    → Stored ns out₀ out' (i + 1)
stored_more ns out₀ out out' i t h e =
    subst (λ (at : ℕ). Turns (λ j. low_bytes 8 (get_or ns j 0)) (length ns) out₀ 0 out' at (i + 1)) {x = 8 * i + 8} {y = 8 * (i + 1)} (omega arith)
    (subst (λ (o : List ℕ). Turns (λ j. low_bytes 8 (get_or ns j 0)) (length ns) out₀ 0 o (8 * i + 8) (i + 1)) (sym e)
    (turns_more (λ j. low_bytes 8 (get_or ns j 0)) (length ns) out₀ 0 out (8 * i) i t 8 h (length_low_bytes 8 (get_or ns i 0))))

pub stored_end : (ns out₀ out : List ℕ) (i : ℕ) → Stored ns out₀ out i → length ns ≤ i → 8 * length ns ≤ length out₀
    → out ≡ over (eight_bytes ns) out₀
stored_end ns out₀ out i t h fits =
    (turns_end (λ j. low_bytes 8 (get_or ns j 0)) (length ns) out₀ 0 out (8 * i) i t h).1
    ∙ ap (λ (xs : List (List ℕ)). sets out₀ 0 (joined xs)) (sym (map_is (low_bytes 8) ns 0))
    ∙ sym (over_sets (eight_bytes ns) out₀ (omega (arith, length_eights ns)))

-- ---- read: the first i of them are there
abbrev pub Filled : List ℕ → List ℕ → ℕ → Type 0
Filled bs ns i = (j : ℕ) → j < i → eight_at bs j ≡ get_or ns j 0

pub filled_more : (bs ns : List ℕ) (i x : ℕ) → Filled bs ns i → i < length ns → x ≡ eight_at bs i → Filled bs (set ns i x) (i + 1)
filled_more bs ns i x r h e =
    below_more _ i (λ j l. r j l ∙ sym (get_or-set_other ns i j x 0 (λ q. omega arith))) (sym e ∙ sym (get_or-set_same ns i x 0 h))

pub filled_end : (bs ns : List ℕ) (k i : ℕ) → Filled bs ns i → k ≤ i → length ns ≡ k → ns ≡ first_eights k bs
filled_end bs ns k i r h e = sym (each_is ns 0 k (eight_at bs) e (λ j l. r j (omega arith)))

-- ---- stored in front of those that were there
drop_each : (f : ℕ → ℕ) (p i j : ℕ) → p ≤ j → drop p (each i j f) ≡ each (i + p) (j - p) f
drop_each f zero i j h = ap₂ (λ (a b : ℕ). each a b f) (let e : i ≡ i + zero = omega arith in e) (let e : j ≡ j - zero = omega arith in e)
drop_each f (suc p) i zero h = absurd (omega arith)
drop_each f (suc p) i (suc j) h =
    drop_each f p (suc i) j (omega arith)
    ∙ ap₂ (λ (a b : ℕ). each a b f) (let e : suc i + p ≡ i + suc p = omega arith in e) (let e : j - p ≡ suc j - suc p = omega arith in e)

module _ (bs : List ℕ) (b : Bytes bs) where
  -- one number, and the bytes after it
  one_back : (i : ℕ) → 8 * i + 8 ≤ length bs → low_bytes 8 (eight_at bs i) ++ drop (8 * suc i) bs ≡ drop (8 * i) bs
  one_back i h =
      let long : 8 ≤ length (drop (8 * i) bs) = omega (arith, length-drop (8 * i) bs) in
      let next : 8 * i + 8 ≡ 8 * suc i = omega arith in
      ap₂ (λ (x y : List ℕ). x ++ y)
      (spelled 8 (eight_at bs i) (take 8 (drop (8 * i) bs)) (bytes_take 8 (drop (8 * i) bs) (bytes_drop (8 * i) bs b))
      (length-take-le 8 (drop (8 * i) bs) long) refl)
      (ap (λ (k : ℕ). drop k bs) (sym next) ∙ sym (drop-drop 8 (8 * i) bs))
      ∙ take-append-drop 8 (drop (8 * i) bs)

  -- numbers i to i + j, and the bytes after them
  some_back : (i j : ℕ) → 8 * (i + j) ≤ length bs → eight_bytes (each i j (eight_at bs)) ++ drop (8 * (i + j)) bs ≡ drop (8 * i) bs
  some_back i zero h = ap (λ (k : ℕ). drop k bs) {x = 8 * (i + zero)} {y = 8 * i} (omega arith)
  some_back i (suc j) h =
      let next : 8 * (i + suc j) ≡ 8 * (suc i + j) = omega arith in
      append_assoc (low_bytes 8 (eight_at bs i)) (eight_bytes (each (suc i) j (eight_at bs))) (drop (8 * (i + suc j)) bs)
      ∙ ap (λ (l : List ℕ). low_bytes 8 (eight_at bs i) ++ l)
      (ap (λ (k : ℕ). eight_bytes (each (suc i) j (eight_at bs)) ++ drop k bs) next ∙ some_back (suc i) j (omega arith))
      ∙ one_back i (omega arith)

  -- numbers in front of those that were there, stored: the latter change nothing
  pub stored_back : (ns : List ℕ) (k : ℕ) → length ns ≤ k → 8 * k ≤ length bs → over (eight_bytes (over ns (first_eights k bs))) bs ≡ over (eight_bytes ns) bs
  stored_back ns k l h =
      ap (λ (x : List ℕ). over (eight_bytes (ns ++ x)) bs)
      (drop_each (eight_at bs) (length ns) 0 k l
      ∙ ap (λ (a : ℕ). each a (k - length ns) (eight_at bs)) {x = 0 + length ns} {y = length ns} (omega arith))
      ∙ ap (λ (x : List ℕ). over x bs) (eights_append ns rest)
      ∙ append_assoc (eight_bytes ns) (eight_bytes rest) (drop (length (eight_bytes ns ++ eight_bytes rest)) bs)
      ∙ ap (λ (x : List ℕ). eight_bytes ns ++ x)
      (ap (λ (a : ℕ). eight_bytes rest ++ drop a bs) long ∙ some_back (length ns) (k - length ns) (omega arith)
      ∙ ap (λ (a : ℕ). drop a bs) (sym (length_eights ns)))
    where
      rest : List ℕ
      rest = each (length ns) (k - length ns) (eight_at bs)

      long : length (eight_bytes ns ++ eight_bytes rest) ≡ 8 * (length ns + (k - length ns))
      long =
          length-append (eight_bytes ns) (eight_bytes rest)
          ∙ omega (arith, length_eights ns, length_eights rest, length_each (length ns) (k - length ns) (eight_at bs))
