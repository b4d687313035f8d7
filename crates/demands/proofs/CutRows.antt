-- Offsets that cut rows out of bytes pass, and the rows that they cut out come to the same bytes and offsets again. Assumes nothing.
use Prim.Native.Nat.{ℕ, zero, suc, ◌+◌, ◌-◌, ◌<◌, ◌≤◌}
use mathlib.Core.Path.{◌≡◌, refl, ap, sym, ◌∙◌}
use mathlib.Core.List.{List, ◌∷◌, ◌++◌}
use native.Mathlib.Nat.{zero-add, sub-zero}
use native.Mathlib.Omega.{arith}
use lib.ListN.{length, get_or, take, drop, length-drop}
use lib.Seq.{take-add, drop-drop, drop-cons, length-take-le}
use borrow.Author.Tests.{eq-eqb}
use Rattle.std.specs.declared.result.Result.TheVariants.{Ok}
use Rattle.format.specs.Limits.{max_total}
use Rattle.format.specs.Lists.{each, ends_from, joined}
use Rattle.format.specs.Passed.{Cuts}
use Rattle.format.specs.Entries.{offset_room_fault, fall_fault, offsets_fault, row_bytes, cut_rows}
use Rattle.basics.proofs.Checks.{pass_enough, pass_both}

rising_pass : (offsets : List ℕ) (i k : ℕ) → ((j : ℕ) → i ≤ j → j < i + k → get_or offsets j 0 ≤ get_or offsets (suc j) 0)
    → fall_fault offsets i k ≡ Ok tt
rising_pass offsets i zero h = refl
rising_pass offsets i (suc k) h =
    pass_enough (get_or offsets (suc i) 0) (get_or offsets i 0) _ _ (h i (omega arith) (omega arith))
    (rising_pass offsets (suc i) k (λ j a b. h j (omega arith) (omega arith)))

pub cuts_pass : (n : ℕ) (bytes offsets : List ℕ) → Cuts n bytes offsets → offsets_fault n bytes offsets ≡ Ok tt
cuts_pass n bytes offsets c =
    pass_both (offset_room_fault n (length offsets)) _ (pass_enough (length offsets) (suc n) _ _ c.there refl)
    (rw (eq-eqb (get_or offsets 0 0) 0 c.first)
    (pass_both (fall_fault offsets 0 n) _ (rising_pass offsets 0 n (λ j a b. c.rising j (omega arith)))
    (pass_enough (length bytes) (get_or offsets n 0) _ _ c.inside
    (pass_enough max_total (get_or offsets n 0) _ _ c.small refl))))

-- ---- rows that were cut out
module _ (n : ℕ) (bytes offsets : List ℕ) (there : suc n ≤ length offsets)
    (rising : (j : ℕ) → j < n → get_or offsets j 0 ≤ get_or offsets (suc j) 0) (inside : get_or offsets n 0 ≤ length bytes) where
  -- no offset is past the last
  below : (d i : ℕ) → i + d ≡ n → get_or offsets i 0 ≤ get_or offsets n 0
  below zero i e = omega (arith, ap (λ (m : ℕ). get_or offsets m 0) (let q : i ≡ n = omega arith in q))
  below (suc d) i e = omega (arith, rising i (omega arith), below d (suc i) (omega arith))

  -- the bytes from a to b, and then those from b to the end
  whole : (a b e : ℕ) → a ≤ b → b ≤ e → take (b - a) (drop a bytes) ++ take (e - b) (drop b bytes) ≡ take (e - a) (drop a bytes)
  whole a b e l m =
      let o : a + (b - a) ≡ b = omega arith in
      let k : b - a + (e - b) ≡ e - a = omega arith in
      ap (λ (z : List ℕ). take (b - a) (drop a bytes) ++ take (e - b) z) (ap (λ (i : ℕ). drop i bytes) (sym o) ∙ sym (drop-drop (b - a) a bytes))
      ∙ sym (take-add (b - a) (e - b) (drop a bytes))
      ∙ ap (λ (i : ℕ). take i (drop a bytes)) k

  -- joined, those from row i on are the bytes from its offset to the last
  pub joined_from : (i k : ℕ) → i + k ≡ n → joined (each i k (row_bytes bytes offsets)) ≡ take (get_or offsets n 0 - get_or offsets i 0) (drop (get_or offsets i 0) bytes)
  joined_from i zero e =
      let z : get_or offsets n 0 - get_or offsets i 0 ≡ 0 = omega (arith, ap (λ (m : ℕ). get_or offsets m 0) (let q : i ≡ n = omega arith in q)) in
      ap (λ (m : ℕ). take m (drop (get_or offsets i 0) bytes)) (sym z)
  joined_from i (suc k) e =
      ap (λ (z : List ℕ). row_bytes bytes offsets i ++ z) (joined_from (suc i) k (omega arith))
      ∙ whole (get_or offsets i 0) (get_or offsets (suc i) 0) (get_or offsets n 0) (rising i (omega arith)) (below k (suc i) (omega arith))

  -- all of them, where the first offset is 0, are the bytes up to the last
  pub cut_joined : get_or offsets 0 0 ≡ 0 → joined (cut_rows n bytes offsets) ≡ take (get_or offsets n 0) bytes
  cut_joined first =
      joined_from 0 n (zero-add n)
      ∙ ap (λ (o : ℕ). take (get_or offsets n 0 - o) (drop o bytes)) first
      ∙ ap (λ (m : ℕ). take m bytes) (sub-zero (get_or offsets n 0))

  cut_length : (i : ℕ) → i < n → get_or offsets i 0 + length (row_bytes bytes offsets i) ≡ get_or offsets (suc i) 0
  cut_length i l =
      let a = rising i l in
      let b = below (n - suc i) (suc i) (omega arith) in
      let d = length-drop (get_or offsets i 0) bytes in
      let room : get_or offsets (suc i) 0 - get_or offsets i 0 ≤ length (drop (get_or offsets i 0) bytes) = omega (arith, inside) in
      omega (arith, length-take-le (get_or offsets (suc i) 0 - get_or offsets i 0) (drop (get_or offsets i 0) bytes) room)

  -- they end where the offsets say
  pub ends_from_lem : (i k : ℕ) → i + k ≡ n → ends_from (get_or offsets i 0) (each i k (row_bytes bytes offsets)) ≡ take (suc k) (drop i offsets)
  ends_from_lem i zero e = sym (ap (take 1) (drop-cons offsets i 0 (omega (arith, there))))
  ends_from_lem i (suc k) e =
      ap (λ (z : ℕ). get_or offsets i 0 ∷ ends_from z (each (suc i) k (row_bytes bytes offsets))) (cut_length i (omega arith))
      ∙ ap (λ (z : List ℕ). get_or offsets i 0 ∷ z) (ends_from_lem (suc i) k (omega arith))
      ∙ sym (ap (take (suc (suc k))) (drop-cons offsets i 0 (omega (arith, there))))

  pub cut_ends : get_or offsets 0 0 ≡ 0 → ends_from 0 (cut_rows n bytes offsets) ≡ take (suc n) offsets
  cut_ends first = ap (λ (k : ℕ). ends_from k (cut_rows n bytes offsets)) (sym first) ∙ ends_from_lem 0 n (zero-add n)
