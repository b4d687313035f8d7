-- Sorting by insertion: sorted by row bytes, equal rows by number, every entry as often as before. Assumes nothing.
use Prim.Native.Nat.{ℕ, ◌+◌, ◌<◌}
use mathlib.Core.Path.{◌≡◌, refl, ap, sym, ◌∙◌}
use mathlib.Core.Bool.{Bool, true, false, cond, true≢false}
use mathlib.Core.List.{List, [], ◌∷◌}
use native.Mathlib.Omega.{arith}
use lib.Dec.{eqb}
use Rattle.format.specs.Batch.{below}
use Rattle.format.specs.Join.{Entry, insert, sorted}
use Rattle.basics.proofs.Lists.{Every}
use Rattle.laws.proofs.Below.{below_not, below_self}
use Rattle.joiner.proofs.Sorting.{Each, Up, numbers, raise, every_insert, every_sorted}
use Rattle.demands.specs.JoinOrder.{times}

-- sorted by row bytes
insert_up : (a : Entry) (es : List Entry) → Each Up es → Each Up (insert a es)
insert_up a [] h = (tt, tt)
insert_up a (d ∷ ds) h = go (below d.bytes a.bytes) refl (insert_up a ds h.1)
  where
    go : (t : Bool) → below d.bytes a.bytes ≡ t → Each Up (insert a ds) → Each Up (cond t (d ∷ insert a ds) (a ∷ d ∷ ds))
    go true q ih = (every_insert (Up d) a ds (below_not d.bytes a.bytes q) h.0, ih)
    go false q ih = ((q, raise a d ds q h.0), h)

pub sorted_up : (es : List Entry) → Each Up (sorted es)
sorted_up [] = tt
sorted_up (e ∷ es) = insert_up e (sorted es) (sorted_up es)

-- equal rows by number
abbrev pub Kept : Entry → Entry → Type 0
Kept d e = d.bytes ≡ e.bytes → d.number < e.number

abbrev pub After : Entry → Entry → Type 0
After d e = d.number < e.number

insert_kept : (a : Entry) (es : List Entry) → Every (After a) es → Each Kept es → Each Kept (insert a es)
insert_kept a [] n h = (tt, tt)
insert_kept a (d ∷ ds) n h = go (below d.bytes a.bytes) refl (insert_kept a ds n.1 h.1)
  where
    weaken : (es : List Entry) → Every (After a) es → Every (Kept a) es
    weaken [] k = tt
    weaken (e ∷ es) k = (λ q. k.0, weaken es k.1)

    go : (t : Bool) → below d.bytes a.bytes ≡ t → Each Kept (insert a ds) → Each Kept (cond t (d ∷ insert a ds) (a ∷ d ∷ ds))
    go true q ih =
        let apart : Kept d a = λ same. absurd (true≢false (sym q ∙ ap (λ (z : List ℕ). below z a.bytes) same ∙ below_self a.bytes)) in
        (every_insert (Kept d) a ds apart h.0, ih)
    go false q ih = ((λ same. n.0, weaken ds n.1), h)

pub sorted_kept : (es : List Entry) → Each After es → Each Kept (sorted es)
sorted_kept [] h = tt
sorted_kept (e ∷ es) h = insert_kept e (sorted es) (every_sorted (After e) es h.0) (sorted_kept es h.1)

-- every entry as often as before
insert_times : (i : ℕ) (a : Entry) (es : List Entry) → times i (numbers (insert a es)) ≡ cond (eqb i a.number) 1 0 + times i (numbers es)
insert_times i a [] = refl
insert_times i a (d ∷ ds) = go (below d.bytes a.bytes) (insert_times i a ds)
  where
    go : (t : Bool) → times i (numbers (insert a ds)) ≡ cond (eqb i a.number) 1 0 + times i (numbers ds)
        → times i (numbers (cond t (d ∷ insert a ds) (a ∷ d ∷ ds))) ≡ cond (eqb i a.number) 1 0 + (cond (eqb i d.number) 1 0 + times i (numbers ds))
    go true ih = omega arith
    go false ih = refl

pub sorted_times : (i : ℕ) (es : List Entry) → times i (numbers (sorted es)) ≡ times i (numbers es)
sorted_times i [] = refl
sorted_times i (e ∷ es) = insert_times i e (sorted es) ∙ ap (λ (n : ℕ). cond (eqb i e.number) 1 0 + n) (sorted_times i es)
