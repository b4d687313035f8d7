-- The first clear bit: bits that are set are passed over, a word of ones at a time. Assumes nothing.
use Prim.Native.Nat.{ℕ, zero, suc, ◌+◌, ◌-◌, ◌*◌, ◌/◌, ◌%◌, ◌^◌, ◌<◌, ◌≤◌}
use mathlib.Core.Path.{◌≡◌, refl, sym, ap, subst, ◌∙◌}
use mathlib.Core.Bool.{Bool, true, false, cond}
use mathlib.Core.List.{List, [], ◌∷◌}
use mathlib.Core.Logic.{◌⊎◌, inl, inr}
use native.Mathlib.Nat.{pow-suc}
use native.Mathlib.Omega.{arith}
use lib.Dec.{eqb}
use lib.ListN.{length, get_or, take, drop, replicate, length-drop, get_or-replicate}
use lib.Seq.{get_or-take, get_or-drop, length-take-le}
use Rattle.format.specs.Lists.{Bytes, low}
use Rattle.format.specs.Sheet.{bit, first_clear}
use Rattle.basics.proofs.Bytes.{bytes_take, bytes_drop}
use Rattle.basics.proofs.Compare.{choose}
use Rattle.bits.proofs.Flags.{byte_bit}

-- the bits from i up to j are set
abbrev pub Set : List ℕ → ℕ → ℕ → Type 0
Set bs i j = (t : ℕ) → i ≤ t → t < j → bit bs t ≡ true

-- row i alone
pub set_one : (bs : List ℕ) (i : ℕ) → bit bs i ≡ true → Set bs i (i + 1)
set_one bs i e t a b = subst (λ (x : ℕ). bit bs x ≡ true) (let same : i ≡ t = omega arith in same) e

-- ---- past bits that are set
pub clear_past : (bs : List ℕ) (i j k : ℕ) → Set bs i (i + j) → first_clear bs i (j + k) ≡ first_clear bs (i + j) k
clear_past bs i zero k h =
    let z : 0 + k ≡ k = omega arith in
    let y : i + 0 ≡ i = omega arith in
    rw (z, y)
clear_past bs i (suc j) k h =
    let z : suc j + k ≡ suc (j + k) = omega arith in
    let y : i + suc j ≡ suc i + j = omega arith in
    rw (z, y) (rw (h i (omega arith) (omega arith)) (clear_past bs (suc i) j k (λ t a b. h t (omega arith) (omega arith))))

-- where all are set there is none
pub clear_none : (bs : List ℕ) (n : ℕ) → Set bs 0 n → first_clear bs 0 n ≡ n
clear_none bs n h =
    let z : n ≡ n + 0 = omega arith in
    ap (first_clear bs 0) z ∙ clear_past bs 0 n 0 (λ t a b. h t a (omega arith)) ∙ omega arith

-- and where there is none all are set
pub all_set : (bs : List ℕ) (i k : ℕ) → i + k ≤ first_clear bs i k → Set bs i (i + k)
all_set bs i zero h t a b = absurd (omega arith)
all_set bs i (suc k) h t a b = go (bit bs i) refl h (choose i t) (λ h l. all_set bs (suc i) k h t l (omega arith))
  where
    go : (d : Bool) → bit bs i ≡ d → i + suc k ≤ cond d (first_clear bs (suc i) k) i → (i < t) ⊎ (t ≤ i)
        → (suc i + k ≤ first_clear bs (suc i) k → i < t → bit bs t ≡ true) → bit bs t ≡ true
    go true e h (inl l) next = next (omega arith) l
    go true e h (inr l) next = set_one bs i e t a (omega arith)
    go false e h l next = absurd (omega arith)

-- ---- in a loop over n rows, where row i is the next
module _ (bs : List ℕ) (n i : ℕ) where
  -- j rows more are set
  pub clear_on : (j : ℕ) → i + j ≤ n → Set bs i (i + j) → first_clear bs i (n - i) ≡ first_clear bs 0 n
      → first_clear bs (i + j) (n - (i + j)) ≡ first_clear bs 0 n
  clear_on j l h e =
      let z : j + (n - (i + j)) ≡ n - i = omega arith in
      sym (clear_past bs i j (n - (i + j)) h) ∙ ap (first_clear bs i) z ∙ e

  -- row i is clear, and so it is the first
  pub clear_here : i < n → bit bs i ≡ false → i ≡ first_clear bs i (n - i)
  clear_here l e =
      let z : n - i ≡ suc (n - suc i) = omega arith in
      rw (z, e)

  -- or past the last
  pub clear_end : n ≤ i → i ≡ first_clear bs i (n - i)
  clear_end l =
      let z : n - i ≡ 0 = omega arith in
      rw z

-- ---- a word of ones
-- as many bytes as spell the highest number are all ones
low_ones : (bs : List ℕ) → Bytes bs → suc (low bs) ≡ 256 ^ length bs → (i : ℕ) → i < length bs → get_or bs i 0 ≡ 255
low_ones [] b e i l = absurd (omega arith)
low_ones (x ∷ bs) b e zero l = omega (arith, b.0, pow-suc 256 (length bs))
low_ones (x ∷ bs) b e (suc i) l = low_ones bs b.1 (omega (arith, b.0, pow-suc 256 (length bs))) i (omega arith)

-- and each bit of such a byte is set
ones_bit : (m : ℕ) → m < 8 → eqb (255 / 2 ^ m % 2) 1 ≡ true
ones_bit m h =
    ap (λ (x : ℕ). eqb x 1) (byte_bit m (replicate 8 true) ∙ ap (λ (d : Bool). cond d 1 0) (get_or-replicate 8 m true false h))

-- word k, the eight bytes from byte 8 k on
module _ (bs : List ℕ) (k : ℕ) (b : Bytes bs) (room : 8 * k + 8 ≤ length bs) (e : suc (low (take 8 (drop (8 * k) bs))) ≡ 256 ^ 8) where
  abbrev word : List ℕ
  word = take 8 (drop (8 * k) bs)

  word_long : length word ≡ 8
  word_long = length-take-le 8 (drop (8 * k) bs) (omega (arith, length-drop (8 * k) bs))

  word_byte : (i : ℕ) → i < 8 → get_or bs (8 * k + i) 0 ≡ 255
  word_byte i h =
      sym (get_or-drop (8 * k) bs i 0)
      ∙ sym (get_or-take 8 (drop (8 * k) bs) i 0 h)
      ∙ low_ones word (bytes_take 8 (drop (8 * k) bs) (bytes_drop (8 * k) bs b)) (e ∙ ap (λ (n : ℕ). 256 ^ n) (sym word_long)) i (omega (arith, word_long))

  pub word_set : Set bs (64 * k) (64 * k + 64)
  word_set t lo hi =
      let at : t / 8 ≡ 8 * k + (t / 8 - 8 * k) = omega arith in
      let byte : get_or bs (t / 8) 0 ≡ 255 = rw at (word_byte (t / 8 - 8 * k) (omega arith)) in
      rw byte (ones_bit (t % 8) (omega arith))
