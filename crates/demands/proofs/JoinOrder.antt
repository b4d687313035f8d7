-- The joined order: sorted by row bytes, every row of both passes once, equal rows in their order, pass 0 before pass 1; and these say
-- which list it is. Assumes nothing.
use Prim.Native.Nat.{ℕ, suc, ◌+◌, ◌-◌, ◌*◌, ◌<◌, ◌≤◌}
use mathlib.Core.Path.{◌≡◌, refl, ap, ap₂, sym, subst, ◌∙◌}
use mathlib.Core.Bool.{Bool, true, false, cond}
use mathlib.Core.List.{List, [], ◌∷◌, ◌++◌}
use native.Mathlib.Nat.{zero-add}
use native.Mathlib.Omega.{arith}
use lib.Dec.{ltb, eqb}
use lib.ListN.{length, get_or, take, drop}
use lib.Seq.{take_at}
use borrow.Author.Tests.{lt-ltb, le-ltb, ltb-true, ltb-false, eqb-true, eqb-false}
use Rattle.format.specs.Numbers.{Answer}
use Rattle.std.specs.declared.result.Result.TheVariants.{Ok}
use Rattle.format.specs.Check.{Check}
use Rattle.format.specs.declared.Refusal.TheVariants.{ManyRows}
use Rattle.format.specs.Limits.{max_rows}
use Rattle.format.specs.Entries.{answer, written, row_count_fault, row_bytes, cut_rows}
use Rattle.format.specs.Batch.{below, pass_fault}
use Rattle.format.specs.Join.{Entry, entries_from, entries_of, sorted, join_order, join_check, join_answer, join_list}
use Rattle.format.specs.Promises.{Joined}
use Rattle.basics.proofs.Checks.{answer_done, both_pass, enough}
use Rattle.basics.proofs.Lists.{Every, length_each}
use Rattle.laws.proofs.Below.{up_antisym}
use Rattle.laws.proofs.Numbers.{numbers_injective}
use Rattle.joiner.proofs.Sorting.{Each, Up, numbers, length_order, every_sorted, every_append}
use Rattle.demands.specs.JoinOrder.{entry_row, wanted, times, InOrder}
use Rattle.demands.proofs.Insertion.{Kept, After, sorted_up, sorted_kept, sorted_times}
use Rattle.demands.proofs.Sorted.{sorted_unique, along_each, each_along}

-- ---- these determine the order

abbrev Stands : List (List ℕ) → List (List ℕ) → ℕ → ℕ → Type 0
Stands xs ys d e = (below (entry_row xs ys e) (entry_row xs ys d) ≡ false) × (entry_row xs ys d ≡ entry_row xs ys e → d < e)

pub order_unique : (xs ys : List (List ℕ)) (p q : List ℕ) → InOrder xs ys p → InOrder xs ys q → p ≡ q
order_unique xs ys p q g h =
    sorted_unique (Stands xs ys) apart p q (λ e. g.once e ∙ sym (h.once e))
    (along_each (Stands xs ys) p (λ i j l m. (g.rises i j l m, g.keeps i j l m)))
    (along_each (Stands xs ys) q (λ i j l m. (h.rises i j l m, h.keeps i j l m)))
  where
    apart : (d e : ℕ) → Stands xs ys d e → Stands xs ys e d → ⊥
    apart d e u v =
        let same = up_antisym (entry_row xs ys d) (entry_row xs ys e) v.0 u.0 in
        let a : d < e = u.1 same in
        let b : e < d = v.1 (sym same) in
        omega arith

-- ---- the entries of two passes

-- numbers rise within a pass
from_after : (p r : ℕ) (xs : List (List ℕ)) (n : ℕ) → n < max_rows * p + r → Every (λ e. n < e.number) (entries_from p r xs)
from_after p r [] n h = tt
from_after p r (x ∷ xs) n h = (h, from_after p (suc r) xs n (omega arith))

from_sorted : (p r : ℕ) (xs : List (List ℕ)) → Each After (entries_from p r xs)
from_sorted p r [] = tt
from_sorted p r (x ∷ xs) = (from_after p (suc r) xs (max_rows * p + r) (omega arith), from_sorted p (suc r) xs)

-- and from pass 0 to pass 1
two_sorted : (r : ℕ) (xs ys : List (List ℕ)) → r + length xs ≤ max_rows → Each After (entries_from 0 r xs ++ entries_from 1 0 ys)
two_sorted r [] ys h = from_sorted 1 0 ys
two_sorted r (x ∷ xs) ys h = (
  every_append (λ e. max_rows * 0 + r < e.number) (entries_from 0 (suc r) xs) (entries_from 1 0 ys)
      (from_after 0 (suc r) xs (max_rows * 0 + r) (omega arith)) (from_after 1 0 ys (max_rows * 0 + r) (omega arith)),
  two_sorted (suc r) xs ys (omega arith),
)

-- how often i is among k numbers from a on
abbrev within : ℕ → ℕ → ℕ → ℕ
within i a k = cond (ltb i a) 0 (cond (ltb i (a + k)) 1 0)

-- each number once
from_times : (i p r : ℕ) (xs : List (List ℕ)) → times i (numbers (entries_from p r xs)) ≡ within i (max_rows * p + r) (length xs)
from_times i p r [] = go (ltb i (max_rows * p + r)) (ltb i (max_rows * p + r + 0)) refl refl
  where
    go : (s t : Bool) → ltb i (max_rows * p + r) ≡ s → ltb i (max_rows * p + r + 0) ≡ t → ◌≡◌ {A = ℕ} 0 (cond s 0 (cond t 1 0))
    go true t a b = refl
    go false false a b = refl
    go false true a b = absurd (omega (arith, ltb-false i (max_rows * p + r) a, ltb-true i (max_rows * p + r + 0) b))
from_times i p r (x ∷ xs) =
    go (ltb i (max_rows * p + r)) (eqb i (max_rows * p + r)) (ltb i (max_rows * p + suc r)) refl refl refl (from_times i p (suc r) xs)
  where
    go : (s t u : Bool) → ltb i (max_rows * p + r) ≡ s → eqb i (max_rows * p + r) ≡ t → ltb i (max_rows * p + suc r) ≡ u
        → times i (numbers (entries_from p (suc r) xs)) ≡ cond u 0 (cond (ltb i (max_rows * p + suc r + length xs)) 1 0)
        → cond t 1 0 + times i (numbers (entries_from p (suc r) xs)) ≡ cond s 0 (cond (ltb i (max_rows * p + r + suc (length xs))) 1 0)
    go true true u a b c ih = absurd (omega (arith, ltb-true i (max_rows * p + r) a, eqb-true i (max_rows * p + r) b))
    go true false true a b c ih = omega arith
    go true false false a b c ih = absurd (omega (arith, ltb-true i (max_rows * p + r) a, ltb-false i (max_rows * p + suc r) c))
    go false true true a b c ih = rw (lt-ltb i (max_rows * p + r + suc (length xs)) (omega (arith, eqb-true i (max_rows * p + r) b))) (omega arith)
    go false true false a b c ih = absurd (omega (arith, eqb-true i (max_rows * p + r) b, ltb-false i (max_rows * p + suc r) c))
    go false false true a b c ih =
        absurd (eqb-false i (max_rows * p + r) b (omega (arith, ltb-false i (max_rows * p + r) a, ltb-true i (max_rows * p + suc r) c)))
    go false false false a b c ih =
        let long : max_rows * p + suc r + length xs ≡ max_rows * p + r + suc (length xs) = omega arith in
        zero-add (times i (numbers (entries_from p (suc r) xs))) ∙ ih ∙ ap {B = ℕ} (λ (m : ℕ). cond (ltb i m) 1 0) long

append_times : (i : ℕ) (xs ys : List Entry) → times i (numbers (xs ++ ys)) ≡ times i (numbers xs) + times i (numbers ys)
append_times i [] ys = let q : 0 + times i (numbers ys) ≡ times i (numbers ys) = omega arith in sym q
append_times i (x ∷ xs) ys =
    let ih = append_times i xs ys in
    let here : ℕ = cond (eqb i x.number) 1 0 in
    let q : here + times i (numbers (xs ++ ys)) ≡ here + times i (numbers xs) + times i (numbers ys) = omega (arith, ih) in q

of_times : (xs ys : List (List ℕ)) → length xs ≤ max_rows → (i : ℕ) → times i (numbers (entries_of xs ys)) ≡ wanted xs ys i
of_times xs ys few i =
    append_times i (entries_from 0 0 xs) (entries_from 1 0 ys)
    ∙ ap₂ {C = ℕ} (λ a b. a + b) (from_times i 0 0 xs) (from_times i 1 0 ys)
    ∙ go (ltb i max_rows) (ltb i (length xs)) (ltb (i - max_rows) (length ys)) refl refl refl
  where
    go : (s t u : Bool) → ltb i max_rows ≡ s → ltb i (length xs) ≡ t → ltb (i - max_rows) (length ys) ≡ u
        → within i (max_rows * 0 + 0) (length xs) + within i (max_rows * 1 + 0) (length ys) ≡ cond s (cond t 1 0) (cond u 1 0)
    go true true u a b c =
        rw (
          le-ltb i (max_rows * 0 + 0) (omega arith),
          lt-ltb i (max_rows * 0 + 0 + length xs) (omega (arith, ltb-true i (length xs) b)),
          lt-ltb i (max_rows * 1 + 0) (omega (arith, ltb-true i max_rows a)),
        ) refl
    go true false u a b c =
        rw (
          le-ltb i (max_rows * 0 + 0) (omega arith),
          le-ltb i (max_rows * 0 + 0 + length xs) (omega (arith, ltb-false i (length xs) b)),
          lt-ltb i (max_rows * 1 + 0) (omega (arith, ltb-true i max_rows a)),
        ) refl
    go false t true a b c =
        rw (
          le-ltb i (max_rows * 0 + 0) (omega arith),
          le-ltb i (max_rows * 0 + 0 + length xs) (omega (arith, ltb-false i max_rows a)),
          le-ltb i (max_rows * 1 + 0) (omega (arith, ltb-false i max_rows a)),
          lt-ltb i (max_rows * 1 + 0 + length ys) (omega (arith, ltb-false i max_rows a, ltb-true (i - max_rows) (length ys) c)),
        ) refl
    go false t false a b c =
        rw (
          le-ltb i (max_rows * 0 + 0) (omega arith),
          le-ltb i (max_rows * 0 + 0 + length xs) (omega (arith, ltb-false i max_rows a)),
          le-ltb i (max_rows * 1 + 0) (omega (arith, ltb-false i max_rows a)),
          le-ltb i (max_rows * 1 + 0 + length ys) (omega (arith, ltb-false i max_rows a, ltb-false (i - max_rows) (length ys) c)),
        ) refl

-- each stands for its row
abbrev Named : List (List ℕ) → List (List ℕ) → Entry → Type 0
Named xs ys e = entry_row xs ys e.number ≡ e.bytes

first_named : (xs ys : List (List ℕ)) → (r : ℕ) (zs : List (List ℕ)) → r + length zs ≤ max_rows
    → ((i : ℕ) → i < length zs → get_or xs (r + i) [] ≡ get_or zs i []) → Every (Named xs ys) (entries_from 0 r zs)
first_named xs ys r [] few at = tt
first_named xs ys r (z ∷ zs) few at = (
  ap (λ (t : Bool). cond t (get_or xs (max_rows * 0 + r) []) (get_or ys (max_rows * 0 + r - max_rows) [])) (lt-ltb (max_rows * 0 + r) max_rows (omega arith))
      ∙ ap (λ (n : ℕ). get_or xs n []) (let q : max_rows * 0 + r ≡ r + 0 = omega arith in q)
      ∙ at 0 (omega arith),
  first_named xs ys (suc r) zs (omega arith)
      (λ i l. ap (λ (n : ℕ). get_or xs n []) (let q : suc r + i ≡ r + suc i = omega arith in q) ∙ at (suc i) (omega arith)),
)

second_named : (xs ys : List (List ℕ)) → (r : ℕ) (zs : List (List ℕ)) → ((i : ℕ) → i < length zs → get_or ys (r + i) [] ≡ get_or zs i [])
    → Every (Named xs ys) (entries_from 1 r zs)
second_named xs ys r [] at = tt
second_named xs ys r (z ∷ zs) at = (
  ap (λ (t : Bool). cond t (get_or xs (max_rows * 1 + r) []) (get_or ys (max_rows * 1 + r - max_rows) [])) (le-ltb (max_rows * 1 + r) max_rows (omega arith))
      ∙ ap (λ (n : ℕ). get_or ys n []) (let q : max_rows * 1 + r - max_rows ≡ r + 0 = omega arith in q)
      ∙ at 0 (omega arith),
  second_named xs ys (suc r) zs
      (λ i l. ap (λ (n : ℕ). get_or ys n []) (let q : suc r + i ≡ r + suc i = omega arith in q) ∙ at (suc i) (omega arith)),
)

of_named : (xs ys : List (List ℕ)) → length xs ≤ max_rows → Every (Named xs ys) (entries_of xs ys)
of_named xs ys few =
    every_append (Named xs ys) (entries_from 0 0 xs) (entries_from 1 0 ys)
    (first_named xs ys 0 xs (omega arith) (λ i l. ap (λ (n : ℕ). get_or xs n []) (let q : 0 + i ≡ i = omega arith in q)))
    (second_named xs ys 0 ys (λ i l. ap (λ (n : ℕ). get_or ys n []) (let q : 0 + i ≡ i = omega arith in q)))

-- ---- the joined order is in order

-- from entries to their numbers
sorted_numbers : (xs ys : List (List ℕ)) (R : Entry → Entry → Type 0) (Q : ℕ → ℕ → Type 0)
    → ((d e : Entry) → Named xs ys d → Named xs ys e → R d e → Q d.number e.number)
    → (es : List Entry) → Every (Named xs ys) es → Each R es → Each Q (numbers es)
sorted_numbers xs ys R Q turn [] n h = tt
sorted_numbers xs ys R Q turn (e ∷ es) n h = (all es n.1 h.0, sorted_numbers xs ys R Q turn es n.1 h.1)
  where
    all : (ds : List Entry) → Every (Named xs ys) ds → Every (R e) ds → Every (Q e.number) (numbers ds)
    all [] m k = tt
    all (d ∷ ds) m k = (turn e d n.0 m.0 k.0, all ds m.1 k.1)

pub join_in_order : (xs ys : List (List ℕ)) → length xs ≤ max_rows → InOrder xs ys (join_order xs ys)
join_in_order xs ys few =
    let named = every_sorted (Named xs ys) (entries_of xs ys) (of_named xs ys few) in
    record {
      rises = each_along (λ d e. below (entry_row xs ys e) (entry_row xs ys d) ≡ false) (join_order xs ys)
          (sorted_numbers xs ys Up (λ d e. below (entry_row xs ys e) (entry_row xs ys d) ≡ false)
          (λ d e a b u. ap₂ {C = Bool} (λ p q. below p q) b a ∙ u) (sorted (entries_of xs ys)) named (sorted_up (entries_of xs ys)));
      once = λ e. sorted_times e (entries_of xs ys) ∙ of_times xs ys few e;
      keeps = each_along (λ d e. entry_row xs ys d ≡ entry_row xs ys e → d < e) (join_order xs ys)
          (sorted_numbers xs ys Kept (λ d e. entry_row xs ys d ≡ entry_row xs ys e → d < e)
          (λ d e a b u q. u (sym a ∙ q ∙ b)) (sorted (entries_of xs ys)) named (sorted_kept (entries_of xs ys) (two_sorted 0 xs ys (omega arith))));
    }

-- ---- what join writes

-- it is in order, where nothing is refused
pub joined_in_order : {n₀ : ℕ} {rows₀ offsets₀ : List ℕ} {n₁ : ℕ} {rows₁ offsets₁ list : List ℕ} {r : Answer} {list' : List ℕ}
    → Joined n₀ rows₀ offsets₀ n₁ rows₁ offsets₁ list r list' → (a b : ℕ) → r ≡ Ok (a, b)
    → InOrder (cut_rows n₀ rows₀ offsets₀) (cut_rows n₁ rows₁ offsets₁) (take (n₀ + n₁) list')
unfolding join_list join_answer join_check pass_fault
joined_in_order {n₀} {rows₀} {offsets₀} {n₁} {rows₁} {offsets₁} {list} {r} {list'} g a b e =
    let check = join_check n₀ rows₀ offsets₀ n₁ rows₁ offsets₁ (length list) in
    let xs = cut_rows n₀ rows₀ offsets₀ in
    let ys = cut_rows n₁ rows₁ offsets₁ in
    let says : r ≡ answer check (n₀ + n₁) 0 = numbers_injective r (answer check (n₀ + n₁) 0) g.answers in
    let pass : check ≡ Ok tt = (answer_done check (n₀ + n₁) 0 a b (sym says ∙ e)).0 in
    let first = (both_pass (pass_fault 0 n₀ rows₀ offsets₀) _ pass).0 in
    let few : n₀ ≤ max_rows = (enough max_rows n₀ (ManyRows n₀) (Ok tt) (both_pass (row_count_fault n₀) _ first).0).0 in
    let many : length (join_order xs ys) ≡ n₀ + n₁ =
    length_order xs ys ∙ ap₂ {C = ℕ} (λ a b. a + b) (length_each 0 n₀ (row_bytes rows₀ offsets₀)) (length_each 0 n₁ (row_bytes rows₁ offsets₁)) in
    let front : take (n₀ + n₁) list' ≡ join_order xs ys =
    ap (take (n₀ + n₁)) (g.order ∙ ap (λ (c : Check). written c (join_order xs ys) list) pass)
    ∙ take_at (join_order xs ys) (drop (length (join_order xs ys)) list) (n₀ + n₁) many in
    subst (InOrder xs ys) (sym front) (join_in_order xs ys (omega (arith, length_each 0 n₀ (row_bytes rows₀ offsets₀))))
