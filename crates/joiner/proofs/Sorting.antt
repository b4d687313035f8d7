-- Entries sorted by their rows: what insertion makes of those that are in order already. Assumes nothing.
use Prim.Native.Nat.{ℕ, suc, ◌+◌}
use mathlib.Core.Path.{◌≡◌, refl, ap, ap₂, sym, ◌∙◌}
use mathlib.Core.Bool.{Bool, true, false, cond}
use mathlib.Core.List.{List, [], ◌∷◌, ◌++◌, map}
use native.Mathlib.Omega.{arith}
use lib.ListN.{length, length-append, length-map}
use Rattle.std.specs.declared.result.Result.TheVariants.{Ok}
use Rattle.format.specs.declared.Refusal.TheVariants.{OutOfOrder}
use Rattle.format.specs.Batch.{below, order_from, order_fault}
use Rattle.format.specs.Join.{Entry, entries_from, entries_of, insert, sorted, join_order}
use Rattle.basics.proofs.Checks.{fail_if_pass}
use Rattle.basics.proofs.Lists.{Every}
use Rattle.laws.proofs.Below.{up_trans}

-- each stands so to all after it
abbrev pub Each : {A : Type 0} → (A → A → Type 0) → List A → Type 0
Each R [] = Unit {0}
Each R (x ∷ xs) = Every (R x) xs × Each R xs

-- d may stand before e: the row of e is not below that of d
abbrev pub Up : Entry → Entry → Type 0
Up d e = below e.bytes d.bytes ≡ false

abbrev pub numbers : List Entry → List ℕ
numbers es = map (λ (e : Entry). e.number) es

-- ---- what holds of every entry, sorted and joined
pub every_insert : (P : Entry → Type 0) (a : Entry) (es : List Entry) → P a → Every P es → Every P (insert a es)
every_insert P a [] h k = (h, tt)
every_insert P a (d ∷ ds) h k = go (below d.bytes a.bytes) (every_insert P a ds h k.1)
  where
    go : (t : Bool) → Every P (insert a ds) → Every P (cond t (d ∷ insert a ds) (a ∷ d ∷ ds))
    go true ih = (k.0, ih)
    go false ih = (h, k)

pub every_sorted : (P : Entry → Type 0) (es : List Entry) → Every P es → Every P (sorted es)
every_sorted P [] h = tt
every_sorted P (e ∷ es) h = every_insert P e (sorted es) h.0 (every_sorted P es h.1)

pub every_append : (P : Entry → Type 0) (xs ys : List Entry) → Every P xs → Every P ys → Every P (xs ++ ys)
every_append P [] ys h k = k
every_append P (x ∷ xs) ys h k = (h.0, every_append P xs ys h.1 k)

-- ---- there are as many
length_insert : (a : Entry) (es : List Entry) → length (insert a es) ≡ suc (length es)
length_insert a [] = refl
length_insert a (d ∷ ds) = go (below d.bytes a.bytes) (length_insert a ds)
  where
    go : (t : Bool) → length (insert a ds) ≡ suc (length ds) → length (cond t (d ∷ insert a ds) (a ∷ d ∷ ds)) ≡ suc (suc (length ds))
    go true ih = ap suc ih
    go false ih = refl

length_sorted : (es : List Entry) → length (sorted es) ≡ length es
length_sorted [] = refl
length_sorted (e ∷ es) = length_insert e (sorted es) ∙ ap suc (length_sorted es)

length_entries : (p r : ℕ) (xs : List (List ℕ)) → length (entries_from p r xs) ≡ length xs
length_entries p r [] = refl
length_entries p r (x ∷ xs) = ap suc (length_entries p (suc r) xs)

pub length_order : (xs ys : List (List ℕ)) → length (join_order xs ys) ≡ length xs + length ys
length_order xs ys =
    length-map (sorted (entries_of xs ys)) (λ (e : Entry). e.number) ∙ length_sorted (entries_of xs ys)
    ∙ length-append (entries_from 0 0 xs) (entries_from 1 0 ys)
    ∙ ap₂ {C = ℕ} (λ a b. a + b) (length_entries 0 0 xs) (length_entries 1 0 ys)

-- ---- which entry stands first

-- one below which none is
first : (e : Entry) (es : List Entry) → Every (Up e) es → insert e es ≡ e ∷ es
first e [] h = refl
first e (d ∷ ds) h = ap (λ (t : Bool). cond t (d ∷ insert e ds) (e ∷ d ∷ ds)) h.0

-- what stands before d, which stands before ds, stands before ds
pub raise : (e d : Entry) (ds : List Entry) → Up e d → Every (Up d) ds → Every (Up e) ds
raise e d [] h k = tt
raise e d (c ∷ ds) h k = (up_trans e.bytes d.bytes c.bytes h k.0, raise e d ds h k.1)

-- the first of es, where only they are left
pub takes_only : (e : Entry) (es : List Entry) → Each Up (e ∷ es) → sorted ((e ∷ es) ++ []) ≡ e ∷ sorted (es ++ [])
takes_only e es h = first e (sorted (es ++ [])) (every_sorted (Up e) (es ++ []) (every_append (Up e) es [] h.0 tt))

-- the first of es, unless that of ds is below it
pub takes_first : (e d : Entry) (es ds : List Entry) → Each Up (e ∷ es) → Each Up (d ∷ ds) → below d.bytes e.bytes ≡ false
    → sorted ((e ∷ es) ++ (d ∷ ds)) ≡ e ∷ sorted (es ++ (d ∷ ds))
takes_first e d es ds h k q =
    first e (sorted (es ++ (d ∷ ds)))
    (every_sorted (Up e) (es ++ (d ∷ ds)) (every_append (Up e) es (d ∷ ds) h.0 (q, raise e d ds q k.0)))

-- d, which is below every one of es
pub takes_past : (d : Entry) (es ds : List Entry) → Every (λ e. below d.bytes e.bytes ≡ true) es → Each Up (d ∷ ds)
    → sorted (es ++ (d ∷ ds)) ≡ d ∷ sorted (es ++ ds)
takes_past d [] ds h k = first d (sorted ds) (every_sorted (Up d) ds k.0)
takes_past d (e ∷ es) ds h k =
    ap (insert e) (takes_past d es ds h.1 k)
    ∙ ap (λ (t : Bool). cond t (d ∷ insert e (sorted (es ++ ds))) (e ∷ d ∷ sorted (es ++ ds))) h.0

-- and so the first of ds, where it is below the first of es
pub takes_second : (e d : Entry) (es ds : List Entry) → Each Up (e ∷ es) → Each Up (d ∷ ds) → below d.bytes e.bytes ≡ true
    → sorted ((e ∷ es) ++ (d ∷ ds)) ≡ d ∷ sorted ((e ∷ es) ++ ds)
takes_second e d es ds h k q = takes_past d (e ∷ es) ds (q, all es h.0) k
  where
    strictly : (c : Entry) (t : Bool) → below d.bytes c.bytes ≡ t → Up e c → below d.bytes c.bytes ≡ true
    strictly c true r u = r
    strictly c false r u = r ∙ sym (up_trans e.bytes c.bytes d.bytes u r) ∙ q

    all : (cs : List Entry) → Every (Up e) cs → Every (λ c. below d.bytes c.bytes ≡ true) cs
    all [] u = tt
    all (c ∷ cs) u = (strictly c (below d.bytes c.bytes) refl u.0, all cs u.1)

-- ---- a pass that is not refused 26

-- x is below none of the rows after it
row_up : (p r q s : ℕ) (d : Entry) (ys : List (List ℕ)) → order_from p r d.bytes ys ≡ Ok tt → Every (Up d) (entries_from q s ys)
row_up p r q s d [] e = tt
row_up p r q s d (y ∷ ys) e =
    let t = fail_if_pass (below y d.bytes) (OutOfOrder p (suc r)) _ e in
    (t.0, raise d (record { number = 0; bytes = y }) (entries_from q (suc s) ys) t.0 (row_up p (suc r) q (suc s) (record { number = 0; bytes = y }) ys t.1))

rows_up : (p r q s : ℕ) (x : List ℕ) (ys : List (List ℕ)) → order_from p r x ys ≡ Ok tt → Each Up (entries_from q s (x ∷ ys))
rows_up p r q s x [] e = (tt, tt)
rows_up p r q s x (y ∷ ys) e =
    let t = fail_if_pass (below y x) (OutOfOrder p (suc r)) _ e in
    (row_up p r q (suc s) (record { number = 0; bytes = x }) (y ∷ ys) e, rows_up p (suc r) q (suc s) y ys t.1)

pub pass_up : (p q : ℕ) (xs : List (List ℕ)) → order_fault p xs ≡ Ok tt → Each Up (entries_from q 0 xs)
pass_up p q [] e = tt
pass_up p q (x ∷ xs) e = rows_up p 0 q 0 x xs e
