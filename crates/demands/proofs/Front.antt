-- Row bytes past the last offset mean nothing, nor do offsets past index n: two inputs that agree up to there are decoded alike.
-- Assumes nothing.
use Prim.Native.Nat.{ℕ, zero, suc, ◌+◌, ◌-◌, ◌<◌, ◌≤◌}
use mathlib.Core.Path.{◌≡◌, refl, ap, ap₂, sym, ◌∙◌}
use mathlib.Core.Bool.{Bool, not}
use mathlib.Core.Logic.{◌⊎◌, inl, inr}
use mathlib.Core.List.{List, [], ◌∷◌}
use native.Mathlib.Nat.{sub-zero}
use native.Mathlib.Omega.{arith}
use lib.Dec.{ltb, eqb}
use lib.ListN.{length, get_or, take, drop, length-take}
use lib.Seq.{get_or-take, take-take, take-nil}
use borrow.Author.Tests.{lt-ltb, le-ltb}
use Rattle.format.specs.Check.{Check, both, fail_if}
use Rattle.std.specs.declared.result.Result.TheVariants.{Ok, Err}
use Rattle.format.specs.declared.Refusal.{Refusal}
use Rattle.format.specs.declared.Refusal.TheVariants.{OffsetRoom, Offsets}
use Rattle.format.specs.Described.{ColumnList, list_fault}
use Rattle.format.specs.Passed.{Cuts}
use Rattle.format.specs.Entries.{row_count_fault, total_fault, fall_fault, offsets_fault, row_bytes, cut_rows, decode_check, decode_answer, decode_sheet}
use Rattle.basics.proofs.Compare.{choose}
use Rattle.basics.proofs.Lists.{each_same}
use Rattle.laws.proofs.Cuts.{offsets_passed, below_last}

-- lists that agree in their first k elements: one is shorter than k only if the other is
shorter : (k : ℕ) (l m : List ℕ) → take k l ≡ take k m → ltb (length l) k ≡ ltb (length m) k
shorter k l m e = go (choose (length l) k) (choose (length m) k)
  where
    same : length (take k l) ≡ length (take k m)
    same = ap length e

    go : (length l < k) ⊎ (k ≤ length l) → (length m < k) ⊎ (k ≤ length m) → ltb (length l) k ≡ ltb (length m) k
    go (inl x) (inl y) = lt-ltb (length l) k x ∙ sym (lt-ltb (length m) k y)
    go (inl x) (inr y) = absurd (omega (arith, same, length-take k l, length-take k m))
    go (inr x) (inl y) = absurd (omega (arith, same, length-take k l, length-take k m))
    go (inr x) (inr y) = le-ltb (length l) k x ∙ sym (le-ltb (length m) k y)

-- what is cut out of the first m elements is cut out of all
drop_take : (a m : ℕ) (l : List ℕ) → drop a (take m l) ≡ take (m - a) (drop a l)
drop_take zero m l = ap (λ (k : ℕ). take k l) (sym (sub-zero m))
drop_take (suc a) zero l = ap (λ (k : ℕ). take k (drop (suc a) l)) (let z : 0 ≡ zero - suc a = omega arith in z)
drop_take (suc a) (suc m) [] = sym (take-nil (suc m - suc a))
drop_take (suc a) (suc m) (x ∷ l) = drop_take a m l ∙ ap (λ (k : ℕ). take k (drop a l)) (let z : m - a ≡ suc m - suc a = omega arith in z)

cut_front : (a b m : ℕ) (l : List ℕ) → b ≤ m → take (b - a) (drop a (take m l)) ≡ take (b - a) (drop a l)
cut_front a b m l h = ap (take (b - a)) (drop_take a m l) ∙ take-take (b - a) (m - a) (drop a l) (omega arith)

-- a refusal of the offsets is one of what comes before them or their own
no_rows : (x y : Check) (r : Refusal) → (z : Refusal) × (both x (both y (Err r)) ≡ Err z)
no_rows (Ok _) (Ok _) r = (r, refl)
no_rows (Ok _) (Err q) r = (q, refl)
no_rows (Err p) y r = (p, refl)

module _ (list : ColumnList) (n : ℕ) (bytes bytes' offsets offsets' sheet : List ℕ) (ends : take (suc n) offsets ≡ take (suc n) offsets')
    (front : take (get_or offsets n 0) bytes ≡ take (get_or offsets n 0) bytes') where
  at : (i : ℕ) → i ≤ n → get_or offsets i 0 ≡ get_or offsets' i 0
  at i l =
      sym (get_or-take (suc n) offsets i 0 (omega arith)) ∙ ap (λ (z : List ℕ). get_or z i 0) ends ∙ get_or-take (suc n) offsets' i 0 (omega arith)

  falls : (i k : ℕ) → i + k ≤ n → fall_fault offsets i k ≡ fall_fault offsets' i k
  falls i zero l = refl
  falls i (suc k) l =
      ap₂ (λ (b : Bool) (next : Check). fail_if b (Offsets (suc i)) next)
      (ap₂ {C = Bool} (λ (x y : ℕ). ltb x y) (at (suc i) (omega arith)) (at i (omega arith)))
      (falls (suc i) k (omega arith))

  -- the offsets are judged alike
  offsets_alike : offsets_fault n bytes offsets ≡ offsets_fault n bytes' offsets'
  offsets_alike =
      ap₂ (λ (x y : Check). both x y)
      (ap (λ (b : Bool). fail_if b (OffsetRoom (suc n)) (Ok tt)) (shorter (suc n) offsets offsets' ends))
      (ap₂ (λ (b : Bool) (next : Check). fail_if b (Offsets 0) next)
      (ap (λ (x : ℕ). not (eqb x 0)) (at 0 (omega arith)))
      (ap₂ (λ (x y : Check). both x y) (falls 0 n (omega arith))
      (ap₂ (λ (b : Bool) (next : Check). fail_if b (Offsets n) next)
      (shorter (get_or offsets n 0) bytes bytes' front ∙ ap (ltb (length bytes')) (at n (omega arith)))
      (ap total_fault (at n (omega arith))))))

  -- and cut the same rows out
  rows_alike : Cuts n bytes offsets → cut_rows n bytes offsets ≡ cut_rows n bytes' offsets'
  rows_alike c = each_same 0 n (row_bytes bytes offsets) (row_bytes bytes' offsets') (λ r x y.
      let a : ℕ = get_or offsets r 0 in
      let b : ℕ = get_or offsets (suc r) 0 in
      let last : b ≤ get_or offsets n 0 = below_last n bytes offsets c (n - suc r) (suc r) (omega arith) in
      sym (cut_front a b (get_or offsets n 0) bytes last)
      ∙ ap (λ (z : List ℕ). take (b - a) (drop a z)) front
      ∙ cut_front a b (get_or offsets n 0) bytes' last
      ∙ ap₂ {C = List ℕ} (λ (u v : ℕ). take (u - v) (drop v bytes')) (at (suc r) (omega arith)) (at r (omega arith)))

  -- so decode answers and writes the same
  pub decode_front : (decode_answer list n bytes offsets (length sheet) ≡ decode_answer list n bytes' offsets' (length sheet))
      × (decode_sheet list n bytes offsets sheet ≡ decode_sheet list n bytes' offsets' sheet)
  unfolding decode_answer decode_sheet decode_check
  decode_front = go (offsets_fault n bytes offsets) refl
    where
      go : (k : Check) → offsets_fault n bytes offsets ≡ k
          → (decode_answer list n bytes offsets (length sheet) ≡ decode_answer list n bytes' offsets' (length sheet))
          × (decode_sheet list n bytes offsets sheet ≡ decode_sheet list n bytes' offsets' sheet)
      go (Ok tt) e = let rows = rows_alike (offsets_passed n bytes offsets e) in (rw (← offsets_alike, e, rows), rw (← offsets_alike, e, rows))
      go (Err x) e = let z = no_rows (list_fault list) (row_count_fault n) x in (rw (← offsets_alike, e, z.1), rw (← offsets_alike, e, z.1))
