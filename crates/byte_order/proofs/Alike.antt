-- Two byte strings that are alike so far, and the words that follow, of any count of bytes: a byte is a word of one. Assumes nothing.
use Prim.Native.Nat.Ordering.{eq}
use Prim.Native.Nat.Ordering.{gt}
use Prim.Native.Nat.Ordering.{lt}
use Prim.Native.Nat.{ℕ, ◌+◌, ◌^◌, ◌<◌, ◌≤◌, min, compare as cmpℕ, Ordering}
use mathlib.Core.Path.{◌≡◌, refl, sym, ap, ap₂, ◌∙◌}
use mathlib.Core.List.{List, [], ◌∷◌, ◌++◌, reverse, reverse-reverse}
use native.Mathlib.Nat.{suc_inj}
use native.Mathlib.Omega.{arith}
use lib.ListN.{length, get_or, take, drop, length-drop, take-append-drop, drop_of_length-le}
use lib.Seq.{drop-cons, drop-drop, take-add, take-take, length-take-le}
use Rattle.std.specs.declared.cmp.Ordering.{Ordering as Answer}
use Rattle.std.specs.declared.cmp.Ordering.TheVariants.{Equal}
use Rattle.std.specs.Ordering.{nat_cmp}
use Rattle.format.specs.Lists.{low_bytes}
use Rattle.format.specs.Order.{then, cmp}
use Rattle.basics.proofs.Compare.{Tri, below, same, above, tri, compare_eq}
use Rattle.basics.proofs.LowBytes.{length_low_bytes, bytes_low_bytes, low_low_bytes}
use Rattle.number.proofs.Words.{byte_back}
use Rattle.laws.proofs.HighFirst.{unsigned_order}
use Rattle.byte_order.specs.Answers.{ordering}
use Rattle.byte_order.proofs.Answered.{numbers}

-- the first i bytes are there in both, and are the same
pub record Alike (a b : List ℕ) (i : ℕ) : Type 0 where
  pub in_a : i ≤ length a
  pub in_b : i ≤ length b
  pub same : take i a ≡ take i b

pub alike_none : (a b : List ℕ) → Alike a b 0
alike_none a b = record { in_a = omega arith; in_b = omega arith; same = refl }

-- x and y, the words of w bytes at j, decide, or the two are alike past them
pub record Decides (a b : List ℕ) (j w x y : ℕ) : Type 0 where
  pub differs : (x ≡ y → ⊥) → (o : Answer) → o ≡ nat_cmp x y → o ≡ ordering (cmp a b)
  pub next : x ≡ y → Alike a b (j + w)

-- ---- comparing what is joined

-- what two begin with alike does not count
cmp_front : (p u v : List ℕ) → cmp (p ++ u) (p ++ v) ≡ cmp u v
cmp_front [] u v = refl
cmp_front (x ∷ p) u v = ap (λ (o : Ordering). then o (cmp (p ++ u) (p ++ v))) (compare_eq x x refl) ∙ cmp_front p u v

pub then_grouped : (o p q : Ordering) → then o (then p q) ≡ then (then o p) q
then_grouped lt p q = refl
then_grouped eq p q = refl
then_grouped gt p q = refl

-- two of one length decide, unless they tie
pub cmp_even : (u v r s : List ℕ) → length u ≡ length v → cmp (u ++ r) (v ++ s) ≡ then (cmp u v) (cmp r s)
cmp_even [] [] r s e = refl
cmp_even [] (y ∷ v) r s e = absurd (omega arith)
cmp_even (x ∷ u) [] r s e = absurd (omega arith)
cmp_even (x ∷ u) (y ∷ v) r s e =
    ap (then (cmpℕ x y)) (cmp_even u v r s (suc_inj e)) ∙ then_grouped (cmpℕ x y) (cmp u v) (cmp r s)

-- ---- words of w bytes, which spell f and g high byte first

spells : (w x : ℕ) (f : List ℕ) → low_bytes w x ≡ reverse f → f ≡ reverse (low_bytes w x)
spells w x f e = sym (reverse-reverse f) ∙ ap reverse (sym e)

-- they stand as the bytes do
pub word_order : (w x y : ℕ) (f g : List ℕ) → x < 256 ^ w → y < 256 ^ w → low_bytes w x ≡ reverse f → low_bytes w y ≡ reverse g → cmp f g ≡ cmpℕ x y
word_order w x y f g fx fy ex ey =
    ap₂ cmp (spells w x f ex) (spells w y g ey)
    ∙ unsigned_order (low_bytes w x) (low_bytes w y) (length_low_bytes w x ∙ sym (length_low_bytes w y)) (bytes_low_bytes w x) (bytes_low_bytes w y)
    ∙ ap₂ cmpℕ (low_low_bytes w x fx) (low_low_bytes w y fy)

-- where one of them ends, the lengths decide
lengths : (a b : List ℕ) (k : ℕ) → k ≤ length a → k ≤ length b → min (length a) (length b) ≤ k
    → nat_cmp (length a) (length b) ≡ ordering (cmp (drop k a) (drop k b))
lengths a b k ha hb h = numbers (length a) (length b) ∙ go (cmpℕ (length a) (length b)) (tri (length a) (length b))
  where
    gone : (s : List ℕ) → length s ≤ k → drop k s ≡ []
    gone s l = drop_of_length-le s l

    go : (o : Ordering) → Tri (length a) (length b) o → ordering o ≡ ordering (cmp (drop k a) (drop k b))
    go lt (below l) = rw (gone a (omega arith), drop-cons b k 0 (omega arith)) refl
    go eq (same e) = rw (gone a (omega arith), gone b (omega arith)) refl
    go gt (above l) = rw (drop-cons a k 0 (omega arith), gone b (omega arith)) refl

-- ---- alike up to i, and so up to any place before it
module _ {a b : List ℕ} {i : ℕ} (k : Alike a b i) (j : ℕ) (h : j ≤ i) where
  fronts : take j a ≡ take j b
  fronts = sym (take-take j i a h) ∙ ap (take j) k.same ∙ take-take j i b h

  so_far : cmp a b ≡ cmp (drop j a) (drop j b)
  so_far =
      ap₂ cmp (sym (take-append-drop j a)) (sym (take-append-drop j b))
      ∙ ap (λ (z : List ℕ). cmp (z ++ drop j a) (take j b ++ drop j b)) fronts ∙ cmp_front (take j b) (drop j a) (drop j b)

  -- ---- x and y are the words of w bytes there, high byte first
  module _ (w x y : ℕ) (fx : x < 256 ^ w) (fy : y < 256 ^ w) (ia : j + w ≤ length a) (ib : j + w ≤ length b)
      (ex : low_bytes w x ≡ reverse (take w (drop j a))) (ey : low_bytes w y ≡ reverse (take w (drop j b))) where
    even : length (take w (drop j a)) ≡ length (take w (drop j b))
    even = length-take-le w (drop j a) (omega (arith, length-drop j a)) ∙ sym (length-take-le w (drop j b) (omega (arith, length-drop j b)))

    cut : (l : List ℕ) → drop j l ≡ take w (drop j l) ++ drop (j + w) l
    cut l = sym (take-append-drop w (drop j l)) ∙ ap (λ (z : List ℕ). take w (drop j l) ++ z) (drop-drop w j l)

    decided : cmp a b ≡ then (cmpℕ x y) (cmp (drop (j + w) a) (drop (j + w) b))
    decided =
        so_far ∙ ap₂ cmp (cut a) (cut b) ∙ cmp_even (take w (drop j a)) (take w (drop j b)) (drop (j + w) a) (drop (j + w) b) even
        ∙ ap (λ (o : Ordering). then o (cmp (drop (j + w) a) (drop (j + w) b))) (word_order w x y (take w (drop j a)) (take w (drop j b)) fx fy ex ey)

    -- words that differ leave nothing to what follows
    kept : (x ≡ y → ⊥) → (o : Ordering) → Tri x y o → then o (cmp (drop (j + w) a) (drop (j + w) b)) ≡ o
    kept ne lt (below l) = refl
    kept ne eq (same e) = absurd (ne e)
    kept ne gt (above l) = refl

    pub decides : Decides a b j w x y
    decides = record {
      differs = λ ne o e. e ∙ numbers x y ∙ ap ordering (sym (decided ∙ kept ne (cmpℕ x y) (tri x y)));
      next = λ e.
          record {
            in_a = ia;
            in_b = ib;
            same =
                take-add j w a
                ∙ ap₂ (λ (p q : List ℕ). p ++ q) fronts
                (spells w x _ ex ∙ ap (λ (z : ℕ). reverse (low_bytes w z)) e ∙ sym (spells w y _ ey))
                ∙ sym (take-add j w b);
          };
    }

-- none is left of one of them
pub alike_ends : {a b : List ℕ} {i : ℕ} → Alike a b i → min (length a) (length b) ≤ i → nat_cmp (length a) (length b) ≡ ordering (cmp a b)
alike_ends {a} {b} {i} k h = lengths a b i k.in_a k.in_b h ∙ ap ordering (sym (so_far k i (omega arith)))

pub alike_whole : {a b : List ℕ} {i : ℕ} → Alike a b i → min (length a) (length b) ≤ i → length a ≡ length b → Equal ≡ ordering (cmp a b)
alike_whole {a} {b} k h e =
    ap ordering (sym (compare_eq (length a) (length b) e)) ∙ sym (numbers (length a) (length b)) ∙ alike_ends k h

-- a byte as a word of one
pub byte_word : (l : List ℕ) (at : ℕ) → ((i : ℕ) → get_or l i 0 < 256) → at < length l → low_bytes 1 (get_or l at 0) ≡ reverse (take 1 (drop at l))
byte_word l at b h = byte_back l at b (omega arith) ∙ rw (drop-cons l at 0 h) refl

-- the next bytes decide
pub bytes_decide : {a b : List ℕ} {i : ℕ} → Alike a b i → ((k : ℕ) → get_or a k 0 < 256) → ((k : ℕ) → get_or b k 0 < 256) → i < length a → i < length b
    → Decides a b i 1 (get_or a i 0) (get_or b i 0)
bytes_decide {a} {b} {i} k fa fb ia ib =
    decides k i (omega arith) 1 _ _ (fa i) (fb i) (omega arith) (omega arith) (byte_word a i fa ia) (byte_word b i fb ib)

-- and so do the words of eight at j, within the shorter
pub words_decide : {a b : List ℕ} {i : ℕ} → Alike a b i → (j : ℕ) → j ≤ i → j + 8 ≤ min (length a) (length b) → {x y : ℕ} → x < 256 ^ 8 → y < 256 ^ 8
    → low_bytes 8 x ≡ reverse (take 8 (drop j a)) → low_bytes 8 y ≡ reverse (take 8 (drop j b)) → Decides a b j 8 x y
words_decide k j h inside fx fy ex ey = decides k j h 8 _ _ fx fy (omega arith) (omega arith) ex ey
