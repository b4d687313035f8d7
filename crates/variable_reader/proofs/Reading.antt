-- Reading the blocks of a field, from any place on. t is the row's bytes, inverted back. Assumes nothing.
use Prim.Native.Nat.{ℕ, zero, suc, ◌+◌, ◌-◌, ◌<◌, ◌≤◌}
use mathlib.Core.Path.{◌≡◌, refl, sym, ap, ap₂, ◌∙◌, subst}
use mathlib.Core.Bool.{Bool, true, false, cond}
use mathlib.Core.List.{List, [], ◌∷◌}
use native.Mathlib.Numerals.{add-one}
use native.Mathlib.Omega.{arith}
use lib.Dec.{ltb, eqb}
use lib.ListN.{length, get_or, take, drop, length-drop}
use lib.Seq.{drop-drop, get_or-drop, length-take-le}
use borrow.Author.Tests.{lt-ltb, le-ltb, le-leb, lt-leb, ne_eqb}
use Rattle.format.specs.declared.RowFault.{RowFault}
use Rattle.format.specs.declared.RowFault.TheVariants.{Cut, Padding, TooLong}
use Rattle.format.specs.Limits.{max_slot}
use Rattle.format.specs.Field.{block_size}
use Rattle.format.specs.Read.{Parsed, got, fault, all_zero, from_bad, read_block, read_blocks, found_value, found_fault}
use Rattle.variable_reader.specs.Counted.{block_at, counted, LastCounted}
use Rattle.number.proofs.Tops.{drop_take}

-- what is read from block k on, at a place of t, with c bytes of the value before
abbrev pub Rest : List ℕ → ℕ → ℕ → ℕ → Parsed (List ℕ)
Rest t at k c = read_blocks block_size max_slot (length t - 1 - k) k c (drop at t)

-- ---- the block at a place

-- no whole block is there
pub rest_cut : (t : List ℕ) (at k c : ℕ) → length t - at ≤ block_size k → Rest t at k c ≡ fault Cut 0
rest_cut t at k c h = go (length t - 1 - k)
  where
    go : (fuel : ℕ) → read_blocks block_size max_slot fuel k c (drop at t) ≡ fault Cut 0
    go zero = refl
    go (suc fuel) = rw (le-leb (length (drop at t)) (block_size k) (omega (arith, length-drop at t)))

-- one is
module _ (t : List ℕ) (at k c size end : ℕ) (few : k < at) (is : size ≡ block_size k) (inside : at + size < length t)
    (e : end ≡ get_or t (at + size) 0) where
  -- what is read after it
  abbrev next : ℕ → ℕ → List ℕ → Parsed (List ℕ)
  next s n z = read_blocks block_size max_slot (length t - 1 - (k + 1)) n (c + s) z

  -- it, if its size is s, and its end byte x
  abbrev block : ℕ → ℕ → List ℕ → ℕ → Parsed (List ℕ)
  block s x z n = read_block s max_slot c (take s (drop at t)) x z (next s n z)

  after : drop (suc size) (drop at t) ≡ drop (at + (size + 1)) t
  after = drop-drop (suc size) at t ∙ ap (λ (n : ℕ). drop n t) {x = at + suc size} {y = at + (size + 1)} (omega arith)

  pub rest_block : Rest t at k c ≡ block_at t at size end c (Rest t (at + (size + 1)) (k + 1) (c + size))
  rest_block =
      ap (λ (n : ℕ). read_blocks block_size max_slot n k c (drop at t)) {x = length t - 1 - k} {y = suc (length t - 1 - (k + 1))} (omega arith)
      ∙ rw (lt-leb (length (drop at t)) (block_size k) (omega (arith, length-drop at t)))
      (ap (λ (s : ℕ). block s (get_or (drop at t) s 0) (drop (suc s) (drop at t)) (suc k)) (sym is)
      ∙ ap₂ (λ (x : ℕ) (z : List ℕ). block size x z (suc k)) (get_or-drop at t size 0 ∙ sym e) after
      ∙ ap (block size end (drop (at + (size + 1)) t)) (sym (add-one k)))

-- ---- the last block

-- the test for zeros, by the count from the first other byte on
pub zero_clear : (x : List ℕ) → from_bad x ≡ 0 → all_zero x ≡ true
zero_clear [] h = refl
zero_clear (y ∷ x) h = go (eqb y 0) refl h (zero_clear x)
  where
    go : (b : Bool) → eqb y 0 ≡ b → cond b (from_bad x) (suc (length x)) ≡ 0 → (from_bad x ≡ 0 → all_zero x ≡ true) → all_zero (y ∷ x) ≡ true
    go true e h ih = rw e (ih h)
    go false e h ih = absurd (omega arith)

bad_clear : (x : List ℕ) → 0 < from_bad x → all_zero x ≡ false
bad_clear [] h = absurd (omega arith)
bad_clear (y ∷ x) h = go (eqb y 0) refl h (bad_clear x)
  where
    go : (b : Bool) → eqb y 0 ≡ b → 0 < cond b (from_bad x) (suc (length x)) → (0 < from_bad x → all_zero x ≡ false) → all_zero (y ∷ x) ≡ false
    go true e h ih = rw e (ih h)
    go false e h ih = rw e

-- a fault is counted as itself
faulty : (n c : ℕ) (f : RowFault) (l k : ℕ) (m : Parsed (List ℕ)) → l ≡ k → m ≡ fault f k → found_fault f l ≡ counted n c m
faulty n c f l k m h e = ap (found_fault f) h ∙ sym (ap (counted n c) e)

module _ (t : List ℕ) (n at size end c : ℕ) (long : length t ≡ n) (inside : at + size < n) (last : end ≡ 255 → ⊥) where
  -- its data and padding, and the bytes after it
  abbrev data-in : List ℕ
  data-in = take size (drop at t)

  abbrev after-it : List ℕ
  after-it = drop (at + (size + 1)) t

  -- the bytes from the end byte on
  left : n - at - size ≡ suc (length after-it)
  left = omega (arith, length-drop (at + (size + 1)) t)

  module _ (o : 1 ≤ end) (h : end ≤ size) (bad : ℕ) (b : bad ≡ from_bad (take (at + size - (at + end)) (drop (at + end) t))) where
    -- a last block that may be: its padding, its length
    padding : bad ≡ from_bad (drop end data-in)
    padding =
        b ∙ ap₂ (λ (k : ℕ) (z : List ℕ). from_bad (take k z)) {x = at + size - (at + end)} {y = size - end} (omega arith) (sym (drop-drop end at t))
        ∙ ap from_bad (sym (drop_take end size (drop at t) h))

    ended : (more : Parsed (List ℕ)) → block_at t at size end c more
        ≡ cond (all_zero (drop end data-in))
        (cond (ltb max_slot (c + end)) (fault TooLong (suc (length after-it))) (got (take end data-in) after-it))
        (fault Padding (from_bad (drop end data-in) + suc (length after-it)))
    ended more = rw (ne_eqb end 255 last) (rw (le-ltb end 1 o) (rw (le-ltb size end h)))

    -- padding that is not zero
    pub ended_padding : 0 < bad → LastCounted t n at size end c (found_fault Padding (bad + (n - at - size)))
    ended_padding p more =
        faulty n c Padding _ _ (block_at t at size end c more) (ap₂ ◌+◌ padding left)
        (ended more ∙ rw (bad_clear (drop end data-in) (subst (λ (x : ℕ). 0 < x) padding p)))

    clean : bad ≤ 0 → all_zero (drop end data-in) ≡ true
    clean p = zero_clear (drop end data-in) (omega (arith, padding))

    -- too much, or a value
    pub ended_long : bad ≤ 0 → max_slot < c + end → LastCounted t n at size end c (found_fault TooLong (n - at - size))
    ended_long p l more =
        faulty n c TooLong _ _ (block_at t at size end c more) left (ended more ∙ rw (clean p) (rw (lt-ltb max_slot (c + end) l)))

    whole : length data-in ≡ size
    whole = length-take-le size (drop at t) (omega (arith, length-drop at t))

    pub ended_done : bad ≤ 0 → c + end ≤ max_slot → LastCounted t n at size end c (found_value (at + size + 1) (c + end))
    ended_done p l more =
        ap₂ found_value {x = at + size + 1} {y = n - length after-it} (omega (arith, length-drop (at + (size + 1)) t))
        (ap (λ (x : ℕ). c + x) (sym (length-take-le end data-in (omega (arith, whole)))))
        ∙ sym (ap (counted n c) {y = got (take end data-in) after-it} (ended more ∙ rw (clean p) (rw (le-ltb max_slot (c + end) l))))
