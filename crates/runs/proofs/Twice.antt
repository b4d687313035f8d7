-- Bytes that are written twice: two pieces of one run, which overlap, are the run. Assumes nothing.
use Prim.Native.Nat.{ℕ, suc, ◌+◌, ◌-◌, ◌≤◌}
use mathlib.Core.Path.{◌≡◌, refl, sym, ap, ◌∙◌}
use mathlib.Core.Bool.{Bool}
use mathlib.Core.List.{List, [], ◌∷◌, ◌++◌}
use native.Mathlib.Omega.{arith}
use lib.ListN.{length, set, take, drop, length-drop}
use lib.Seq.{sets, length-sets, sets-eq, take-set-le, drop-set-lt, take_all, length-take-le}
use Rattle.std.proofs.Math.Seq.{drop-append_seam}
use Rattle.format.specs.Field.{directed}
use Rattle.basics.proofs.Append.{over_sets}
use Rattle.laws.proofs.Directed.{length_directed}
use Rattle.runs.proofs.Copying.{copy_two, sets_whole}

-- what stands before a run, and after it
take_before : (b l : List ℕ) (n i : ℕ) → n ≤ i → take n (sets l i b) ≡ take n l
take_before [] l n i h = refl
take_before (x ∷ b) l n i h = take_before b (set l i x) n (suc i) (omega arith) ∙ take-set-le n l i x h

drop_after : (b l : List ℕ) (n i : ℕ) → i + length b ≤ n → drop n (sets l i b) ≡ drop n l
drop_after [] l n i h = refl
drop_after (x ∷ b) l n i h = drop_after b (set l i x) n (suc i) (omega arith) ∙ drop-set-lt n l i x (omega arith)

-- a run over one that is no longer
sets_over : (b c l : List ℕ) (i : ℕ) → length b ≤ length c → i + length c ≤ length l → sets (sets l i b) i c ≡ sets l i c
sets_over b c l i h k =
    sets-eq c (sets l i b) i (omega (arith, length-sets l i b))
    ∙ ap (λ (z : List ℕ). z ++ c ++ drop (i + length c) (sets l i b)) (take_before b l i i (omega arith))
    ∙ ap (λ (z : List ℕ). take i l ++ c ++ z) (drop_after b l (i + length c) i (omega arith))
    ∙ sym (sets-eq c l i k)

module _ (l : List ℕ) (q m : ℕ) (d : Bool) (out₀ : List ℕ) (at : ℕ) (inside : q + m ≤ length l) (room : at + m ≤ length out₀) where
  -- n bytes after the first k
  abbrev piece : ℕ → ℕ → List ℕ
  piece k n = directed d (take n (drop (q + k) l))

  long : (k n : ℕ) → k + n ≤ m → length (piece k n) ≡ n
  long k n h = length_directed d (take n (drop (q + k) l)) ∙ length-take-le n (drop (q + k) l) (omega (arith, length-drop (q + k) l))

  -- the first k bytes, written
  abbrev front : ℕ → List ℕ
  front k = sets out₀ at (directed d (take k (drop q l)))

  -- the first w bytes, and then all after the first k, which are no more
  pub copy_twice : (k w v : ℕ) (mid last : List ℕ) → k ≤ w → w ≤ m → k + v ≡ m → mid ≡ front w → last ≡ sets mid (at + k) (piece k v)
      → last ≡ front m
  copy_twice k w v mid last hk hw h e f =
      f
      ∙ ap (λ (z : List ℕ). sets z (at + k) (piece k v)) (e ∙ sym (copy_two l q w k d out₀ at (front k) _ hk (omega arith) refl refl))
      ∙ sets_over (piece k (w - k)) (piece k v) (front k) (at + k) (omega (arith, long k (w - k) (omega arith), long k v (omega arith)))
      (omega (arith, long k v (omega arith), length-sets out₀ at (directed d (take k (drop q l)))))
      ∙ ap (λ (n : ℕ). sets (front k) (at + k) (piece k n)) {x = v} {y = m - k} (omega arith)
      ∙ copy_two l q m k d out₀ at (front k) _ (omega arith) inside refl refl

-- the same of a whole run, in a buffer as long as it
pub whole_twice : (l : List ℕ) (d : Bool) (k w : ℕ) (mid rest last : List ℕ) → k ≤ w → w ≤ length l → mid ≡ directed d (take w l) ++ rest
    → length mid ≡ length l → last ≡ sets mid k (directed d (drop k l)) → last ≡ directed d l
whole_twice l d k w mid rest last hk hw e same f =
    copy_twice l 0 (length l) d mid 0 (omega arith) (omega (arith, same)) k w (length l - k) mid last hk hw (omega arith) written
    (f ∙ ap (λ (z : List ℕ). sets mid k (directed d z)) (sym (take_all (length l - k) (drop k l) (omega (arith, length-drop k l))))
    ∙ ap (λ (n : ℕ). sets mid n (directed d (take (length l - k) (drop n l)))) {x = k} {y = 0 + k} (omega arith))
    ∙ ap (λ (z : List ℕ). sets mid 0 (directed d z)) (take_all (length l) l (omega arith))
    ∙ sets_whole (directed d l) mid (omega (arith, same, length_directed d l))
  where
    first : List ℕ
    first = directed d (take w l)

    written : mid ≡ sets mid 0 first
    written =
        e ∙ ap (λ (z : List ℕ). first ++ z) (sym (ap (drop (length first)) e ∙ drop-append_seam first rest))
        ∙ over_sets first mid (omega (arith, same, length_directed d (take w l), length-take-le w l hw))
