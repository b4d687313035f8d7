-- Blocks, for every size that a block may have: the blocks of a value are read back as the value, and nothing else is read.
use Prim.Native.Nat.{ℕ, zero, suc, ◌+◌, ◌-◌, ◌<◌, ◌≤◌}
use mathlib.Core.Path.{◌≡◌, refl, ap, ap₂, sym, ◌∙◌, subst}
use mathlib.Core.Logic.{◌⊎◌, inl, inr}
use mathlib.Core.Bool.{Bool, true, false, cond, ◌||◌}
use mathlib.Core.List.{List, [], ◌∷◌, ◌++◌, append_assoc}
use native.Mathlib.Omega.{arith}
use lib.Dec.{ltb, leb, eqb}
use lib.ListN.{length, take, drop, get_or, replicate, take-append-drop, length-drop, length-append, length-replicate}
use lib.Seq.{length-take-le, take_at, get_or_at, split_at, take-append_seam, drop-append_seam}
use borrow.Author.Tests.{le-ltb, lt-leb, ne_eqb, ltb-false, leb-false, eqb-true}
use Rattle.format.specs.Field.{block}
use Rattle.format.specs.Read.{Parsed, got, fault, after, all_zero, from_bad, read_block, read_blocks}
use Rattle.format.specs.declared.RowFault.TheVariants.{EndByte, Padding, TooLong}
use Rattle.basics.proofs.Compare.{choose}
use Rattle.laws.proofs.Parsed.{fault_got, not_fault, yes_got, or_false, zeros_zero, zero_zeros}
use Rattle.laws.proofs.Stream.{stream, stream_last, stream_more, stream_full, full_block}

-- ---- what was written is read back

-- what stands after p and one byte
drop_past : (p : List ℕ) (e : ℕ) (t : List ℕ) (n : ℕ) → length p ≡ n → drop (suc n) (p ++ e ∷ t) ≡ t
drop_past p e t n h = subst (λ (m : ℕ). drop (suc m) (p ++ e ∷ t) ≡ t) h (go p)
  where
    go : (p : List ℕ) → drop (suc (length p)) (p ++ e ∷ t) ≡ t
    go [] = refl
    go (x ∷ p) = go p

-- what is read of a string that is cut after p and one byte
pub cut : (size : ℕ → ℕ) (limit n k c : ℕ) (p : List ℕ) (e : ℕ) (t : List ℕ) → length p ≡ size k
    → read_blocks size limit (suc n) k c (p ++ e ∷ t) ≡ read_block (size k) limit c p e t (read_blocks size limit n (suc k) (c + size k) t)
cut size limit n k c p e t h =
    rw (lt-leb (length (p ++ e ∷ t)) (size k) (omega (arith, length-append p (e ∷ t))))
    (rw (take_at p (e ∷ t) (size k) h) (rw (get_or_at p e t 0 (size k) h) (rw (drop_past p e t (size k) h))))

-- a block, cut before its end byte
block_cut : (s : ℕ) (d : List ℕ) (e : ℕ) (t : List ℕ) → block s d e ++ t ≡ d ++ replicate (s - length d) 0 ++ e ∷ t
block_cut s d e t = append_assoc (d ++ replicate (s - length d) 0) (e ∷ []) t

-- data and padding fill the block
padded : (s : ℕ) (d : List ℕ) → length d ≤ s → length (d ++ replicate (s - length d) 0) ≡ s
padded s d h = length-append d (replicate (s - length d) 0) ∙ omega (arith, length-replicate {A = ℕ} (s - length d) 0)

-- a full block, cut before its end byte
full_cut : (s : ℕ) (d S t : List ℕ) → length d ≡ s → block s d 255 ++ S ++ t ≡ d ++ 255 ∷ (S ++ t)
full_cut s d S t h =
    append_assoc (block s d 255) S t
    ∙ ap (λ (z : List ℕ). z ++ (S ++ t)) (full_block d s 255 h)
    ∙ append_assoc d (255 ∷ []) (S ++ t)

-- a last block is read
last_read : (size limit c : ℕ) (x t : List ℕ) (more : Parsed (List ℕ)) → size < 255 → 0 < length x → length x ≤ size → c + length x ≤ limit
    → read_block size limit c (x ++ replicate (size - length x) 0) (length x) t more ≡ got x t
last_read size limit c x t more small pos fits ok =
    rw (ne_eqb (length x) 255 (omega arith)) (rw (le-ltb (length x) 1 pos) (rw (le-ltb size (length x) fits)
    (rw (drop-append_seam x (replicate (size - length x) 0)) (rw (zeros_zero (size - length x)) (rw (le-ltb limit (c + length x) ok)
    (rw (take-append_seam x (replicate (size - length x) 0))))))))

-- a full block with more after it is read
full_read : (size limit c : ℕ) (d t v r : List ℕ) → c + size ≤ limit → read_block size limit c d 255 t (got v r) ≡ got (d ++ v) r
full_read size limit c d t v r ok = rw (le-ltb limit (c + size) ok)

module _ (size : ℕ → ℕ) (room : (k : ℕ) → 0 < size k) (small : (k : ℕ) → size k < 255) (limit : ℕ) where
  -- the blocks of x are read back as x, and what follows them is left
  pub stream_read : (n : ℕ) (x t : List ℕ) (k c : ℕ) → 0 < length x → length x ≤ n → c + length x ≤ limit
      → read_blocks size limit n k c (stream size k 0 x ++ t) ≡ got x t
  stream_read zero x t k c pos h ok = absurd (omega arith)
  stream_read (suc n) x t k c pos h ok = go (choose (size k) (length x)) (stream_read n (drop (size k) x) t (suc k) (c + size k))
    where
      d : List ℕ
      d = take (size k) x

      y : List ℕ
      y = drop (size k) x

      go : (size k < length x) ⊎ (length x ≤ size k)
          → (0 < length y → length y ≤ n → c + size k + length y ≤ limit → read_blocks size limit n (suc k) (c + size k) (stream size (suc k) 0 y ++ t) ≡ got y t)
          → read_blocks size limit (suc n) k c (stream size k 0 x ++ t) ≡ got x t
      go (inl l) ih =
          ap (λ (z : List ℕ). read_blocks size limit (suc n) k c (z ++ t)) (stream_more size room x k l)
          ∙ ap (read_blocks size limit (suc n) k c) (full_cut (size k) d (stream size (suc k) 0 y) t long)
          ∙ cut size limit n k c d 255 (stream size (suc k) 0 y ++ t) long
          ∙ ap (read_block (size k) limit c d 255 (stream size (suc k) 0 y ++ t)) (ih (omega (arith, ly)) (omega (arith, ly, room k)) (omega (arith, ly)))
          ∙ full_read (size k) limit c d (stream size (suc k) 0 y ++ t) y t (omega arith)
          ∙ ap (λ (z : List ℕ). got z t) (take-append-drop (size k) x)
        where
          long : length (take (size k) x) ≡ size k
          long = length-take-le (size k) x (omega arith)

          ly : length (drop (size k) x) ≡ length x - size k
          ly = length-drop (size k) x
      go (inr l) ih =
          ap (λ (z : List ℕ). read_blocks size limit (suc n) k c (z ++ t)) (stream_last size x k l)
          ∙ ap (read_blocks size limit (suc n) k c) (block_cut (size k) x (length x) t)
          ∙ cut size limit n k c (x ++ replicate (size k - length x) 0) (length x) t (padded (size k) x l)
          ∙ last_read (size k) limit c x t (read_blocks size limit n (suc k) (c + size k) t) (small k) pos l ok

-- ---- the converse: what is read is the blocks of a value

-- what was read after this block's data
pub after_got : (p : List ℕ) (m : Parsed (List ℕ)) {v r : List ℕ} → after p m ≡ got v r → (w : List ℕ) × (m ≡ got w r) × (v ≡ p ++ w)
after_got p (got w s) e = (w, cc, cc)
after_got p (fault f l) e = absurd (fault_got e)

-- the block ends the value
record Last (size limit c : ℕ) (p : List ℕ) (e : ℕ) (t v r : List ℕ) : Type 0 where
  pub some_data : 1 ≤ e
  pub fits : e ≤ size
  pub padding : drop e p ≡ replicate (length (drop e p)) 0
  pub within : c + e ≤ limit
  pub value : take e p ≡ v
  pub rest : t ≡ r

-- full: its data, and then what was read after it
record Full (size limit c : ℕ) (p : List ℕ) (e : ℕ) (more : Parsed (List ℕ)) (v r : List ℕ) : Type 0 where
  pub is_full : e ≡ 255
  pub within : c + size ≤ limit
  pub tail : List ℕ
  pub read : more ≡ got tail r
  pub value : v ≡ p ++ tail

-- a block that was read is one of the two
block_got : (size limit c : ℕ) (p : List ℕ) (e : ℕ) (t : List ℕ) (more : Parsed (List ℕ)) {v r : List ℕ} → read_block size limit c p e t more ≡ got v r
    → Full size limit c p e more v r ⊎ Last size limit c p e t v r
block_got size limit c p e t more {v} {r} h = go (eqb e 255) refl h
  where
    last : Parsed (List ℕ)
    last = cond (ltb limit (c + e)) (fault TooLong (suc (length t))) (got (take e p) t)

    padded' : Parsed (List ℕ)
    padded' = cond (all_zero (drop e p)) last (fault Padding (from_bad (drop e p) + suc (length t)))

    go : (b : Bool) → eqb e 255 ≡ b
        → cond b (cond (ltb limit (c + size)) (fault TooLong (suc (length t))) (after p more)) (cond (ltb e 1 || ltb size e) (fault EndByte (suc (length t))) padded') ≡ got v r
        → Full size limit c p e more v r ⊎ Last size limit c p e t v r
    go true q h =
        let a : (ltb limit (c + size) ≡ false) × (after p more ≡ got v r) = not_fault (ltb limit (c + size)) _ _ h in
        let m : (w : List ℕ) × (more ≡ got w r) × (v ≡ p ++ w) = after_got p more a.1 in
        inl (record { is_full = eqb-true e 255 q; within = ltb-false limit (c + size) a.0; tail = m.0; read = m.1; value = m.2 })
    go false q h =
        let a : (ltb e 1 || ltb size e ≡ false) × (padded' ≡ got v r) = not_fault (ltb e 1 || ltb size e) _ _ h in
        let b : (ltb e 1 ≡ false) × (ltb size e ≡ false) = or_false (ltb e 1) (ltb size e) a.0 in
        let z : (all_zero (drop e p) ≡ true) × (last ≡ got v r) = yes_got (all_zero (drop e p)) _ _ a.1 in
        let l : (ltb limit (c + e) ≡ false) × (got (take e p) t ≡ got v r) = not_fault (ltb limit (c + e)) _ _ z.1 in
        inr (record {
          some_data = ltb-false e 1 b.0;
          fits = ltb-false size e b.1;
          padding = zero_zeros (drop e p) z.0;
          within = ltb-false limit (c + e) l.0;
          value = cc l.1;
          rest = cc l.1;
        })

module _ (size : ℕ → ℕ) (room : (k : ℕ) → 0 < size k) (limit : ℕ) where
  -- s is the blocks of v from block k on, and then r; c bytes came before, and the limit holds
  pub record Spelled (k c : ℕ) (s v r : List ℕ) : Type 0 where
    pub bytes : s ≡ stream size k 0 v ++ r
    pub some_data : 0 < length v
    pub within : c + length v ≤ limit

  -- one block, then the others
  spelled_full : (k c : ℕ) (p : List ℕ) (e : ℕ) (t v r : List ℕ) (more : Parsed (List ℕ)) → length p ≡ size k
      → (f : Full (size k) limit c p e more v r) → Spelled (suc k) (c + size k) t f.tail r → Spelled k c (p ++ e ∷ t) v r
  spelled_full k c p e t v r more lp f i = record {
    bytes =
        ap₂ (λ (a : ℕ) (z : List ℕ). p ++ a ∷ z) f.is_full i.bytes
        ∙ sym (full_cut (size k) p (stream size (suc k) 0 f.tail) r lp)
        ∙ ap (λ (z : List ℕ). z ++ r) (sym (stream_full size room p f.tail k lp i.some_data))
        ∙ ap (λ (z : List ℕ). stream size k 0 z ++ r) (sym f.value);
    some_data = rw f.value (omega (arith, length-append p f.tail, i.some_data));
    within = rw f.value (omega (arith, length-append p f.tail, i.within, lp));
  }

  spelled_last : (k c : ℕ) (p : List ℕ) (e : ℕ) (t v r : List ℕ) → length p ≡ size k → Last (size k) limit c p e t v r → Spelled k c (p ++ e ∷ t) v r
  spelled_last k c p e t v r lp l = record {
    bytes =
        ap₂ (λ (a : List ℕ) (z : List ℕ). a ++ e ∷ z) split l.rest
        ∙ ap (λ (a : ℕ). v ++ replicate (size k - length v) 0 ++ a ∷ r) (sym lv)
        ∙ sym (block_cut (size k) v (length v) r)
        ∙ ap (λ (z : List ℕ). z ++ r) (sym (stream_last size v k (omega (arith, lv, l.fits))));
    some_data = omega (arith, lv, l.some_data);
    within = omega (arith, lv, l.within);
  }
    where
      lv : length v ≡ e
      lv = ap length (sym l.value) ∙ length-take-le e p (omega (arith, l.fits, lp))

      left : length (drop e p) ≡ size k - length v
      left = length-drop e p ∙ omega (arith, lv, lp)

      split : p ≡ v ++ replicate (size k - length v) 0
      split = sym (take-append-drop e p) ∙ ap₂ (λ (a b : List ℕ). a ++ b) l.value (l.padding ∙ ap (λ (n : ℕ). replicate n 0) left)

  -- what was read is the blocks of the value, and what follows them was left
  pub read_stream : (n k c : ℕ) (s v r : List ℕ) → read_blocks size limit n k c s ≡ got v r → Spelled k c s v r
  read_stream zero k c s v r h = absurd (fault_got h)
  read_stream (suc n) k c s v r h = go (block_got (size k) limit c p e t more a.1) (λ w i. read_stream n (suc k) (c + size k) t w r i)
    where
      p : List ℕ
      p = take (size k) s

      e : ℕ
      e = get_or s (size k) 0

      t : List ℕ
      t = drop (suc (size k)) s

      more : Parsed (List ℕ)
      more = read_blocks size limit n (suc k) (c + size k) t

      a : (leb (length s) (size k) ≡ false) × (read_block (size k) limit c p e t more ≡ got v r)
      a = not_fault (leb (length s) (size k)) _ _ h

      long : size k < length s
      long = leb-false (length s) (size k) a.0

      lp : length p ≡ size k
      lp = length-take-le (size k) s (omega (arith, long))

      go : Full (size k) limit c p e more v r ⊎ Last (size k) limit c p e t v r
          → ((w : List ℕ) → more ≡ got w r → Spelled (suc k) (c + size k) t w r) → Spelled k c s v r
      go (inl f) ih = subst (λ (z : List ℕ). Spelled k c z v r) (sym (split_at s (size k) 0 long)) (spelled_full k c p e t v r more lp f (ih f.tail f.read))
      go (inr l) ih = subst (λ (z : List ℕ). Spelled k c z v r) (sym (split_at s (size k) 0 long)) (spelled_last k c p e t v r lp l)
