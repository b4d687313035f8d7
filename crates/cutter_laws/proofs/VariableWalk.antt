-- A field of variable bytes, byte by byte, is read as the field reader reads it. Assumes nothing.
use Prim.Native.Nat.{ℕ, zero, suc, ◌+◌, ◌-◌, ◌^◌, ◌≤◌}
use mathlib.Core.Path.{◌≡◌, refl, ap, ap₂, sym, subst, ◌∙◌}
use mathlib.Core.Bool.{Bool, true, false, cond, ◌||◌}
use mathlib.Core.Option.{none}
use mathlib.Core.List.{List, [], ◌∷◌, ◌++◌, append_assoc, append-nil}
use native.Mathlib.Omega.{arith}
use lib.Dec.{ltb, eqb}
use lib.ListN.{length, take, drop, length-append, length-drop}
use borrow.Author.Tests.{le-leb, ltb-true, ltb-false}
use Rattle.format.specs.declared.SortOptions.{SortOptions}
use Rattle.format.specs.declared.RowFault.TheVariants.{Cut, Lead, EndByte, Padding, TooLong}
use Rattle.format.specs.declared.Spot.{Spot}
use Rattle.format.specs.declared.Spot.TheVariants.{Start, Block}
use Rattle.format.specs.Limits.{max_slot}
use Rattle.format.specs.Lists.{Bytes}
use Rattle.format.specs.Kinds.{Slot, variable}
use Rattle.format.specs.Field.{directed, block_size}
use Rattle.format.specs.Read.{Parsed, got, fault, after, all_zero, from_bad, null_lead, read_block, read_blocks, value_slot, read_variable}
use Rattle.format.specs.CutterRule.{before}
use Rattle.format.specs.Cutter.{on, whole, bad, turn, lowest, end_move}
use Rattle.laws.proofs.Directed.{directed_none, directed_cons, directed_twice, length_directed}
use Rattle.laws.proofs.Parsed.{or_false}
use Rattle.laws.proofs.ReadBlocks.{cut}
use Rattle.cutter_laws.proofs.RuleMoves.{before_next, size_most}
use Rattle.cutter_laws.proofs.Walk.{Walk, still, ended, broken, walk_then, walk, Alike}
use Rattle.cutter_laws.proofs.Marks.{marks_of, marks_next, marks_drop, marks_zero, lowest_bad}

-- data that came before a reading makes no difference
alike_after : (end : ℕ) (w : Walk) (d : Bool) (p : List ℕ) (m : Parsed (List ℕ)) → Alike end w (value_slot d m) → Alike end w (value_slot d (after p m))
alike_after end (still spot) d p (got v r) h = h
alike_after end (still spot) d p (fault f l) h = h
alike_after end (ended bs) d p (got v r) h = h
alike_after end (ended bs) d p (fault f l) h = h
alike_after end (broken f place) d p (got v r) h = h
alike_after end (broken f place) d p (fault g l) h = h

module _ (o : SortOptions) (end : ℕ) where
  abbrev d : Bool
  d = o.descending

  -- what is read of the bytes p of block k seen so far, inverted back, and of those that follow
  abbrev blocks_from : ℕ → ℕ → List ℕ → List ℕ → Parsed Slot
  blocks_from n k p s = value_slot d (read_blocks block_size max_slot n k (before k) (p ++ directed d s))

  -- the end byte
  end_walk : (k at e : ℕ) (p s : List ℕ) (more : Parsed (List ℕ)) (next : Spot → Walk) → length p ≡ block_size k → block_size k ≤ at → Bytes s
      → end ≡ at + suc (length s) → Alike end (next (Block (suc k) 0 0)) (value_slot d more)
      → Alike end (walk_then (end_move k (marks_of p) at e) s next) (value_slot d (read_block (block_size k) max_slot (before k) p e (directed d s) more))
  end_walk k at e p s more next w l bs q ih = rw (marks_drop e p, marks_zero (drop e p)) (go (eqb e 255) (ltb max_slot (before k + block_size k)))
    where
      size : ℕ
      size = block_size k

      ds : List ℕ
      ds = directed d s

      there : at ≡ end - suc (length ds)
      there = omega (arith, length_directed d s)

      bad_byte : all_zero (drop e p) ≡ false → e ≤ size → at - size + e + lowest 32 (marks_of (drop e p)) ≡ end - (from_bad (drop e p) + suc (length ds))
      bad_byte z f =
          omega (arith, lowest_bad 32 (drop e p) (omega (arith, length-drop e p, size_most k)) z, length-drop e p, length_directed d s)

      last : (t u v : Bool) → (ltb e 1 || ltb size e) ≡ t → all_zero (drop e p) ≡ u
          → Alike end
          (walk_then (cond t (bad EndByte at) (cond u (cond v (bad TooLong at) whole) (bad Padding (at - size + e + lowest 32 (marks_of (drop e p)))))) s next)
          (value_slot d (cond t (fault EndByte (suc (length ds)))
          (cond u (cond v (fault TooLong (suc (length ds))) (got (take e p) ds)) (fault Padding (from_bad (drop e p) + suc (length ds))))))
      last true u v a b = (refl, there, refl)
      last false true true a b = (refl, there, refl)
      last false true false a b = sym (directed_twice d s bs)
      last false false v a b = (refl, bad_byte b (ltb-false size e (or_false (ltb e 1) (ltb size e) a).1), refl)

      go : (t u : Bool)
          → Alike end
          (walk_then (cond t (cond u (bad TooLong at) (on (Block (suc k) 0 0)))
          (cond (ltb e 1 || ltb size e) (bad EndByte at)
          (cond (all_zero (drop e p)) (cond (ltb max_slot (before k + e)) (bad TooLong at) whole)
          (bad Padding (at - size + e + lowest 32 (marks_of (drop e p))))))) s next)
          (value_slot d (cond t (cond u (fault TooLong (suc (length ds))) (after p more))
          (cond (ltb e 1 || ltb size e) (fault EndByte (suc (length ds)))
          (cond (all_zero (drop e p)) (cond (ltb max_slot (before k + e)) (fault TooLong (suc (length ds))) (got (take e p) ds))
          (fault Padding (from_bad (drop e p) + suc (length ds)))))))
      go true true = (refl, there, refl)
      go true false = alike_after end (next (Block (suc k) 0 0)) d p more ih
      go false u = last (ltb e 1 || ltb size e) (all_zero (drop e p)) (ltb max_slot (before k + e)) refl refl

  -- a block of which nothing, or not all, is there
  blocks_cut : (n k : ℕ) (p : List ℕ) → length p ≤ block_size k → blocks_from n k p [] ≡ fault Cut 0
  blocks_cut zero k p l = refl
  blocks_cut (suc n) k p l =
      rw (directed_none d, append-nil p, le-leb (length p) (block_size k) l)

  -- from any spot in a block, with as much fuel as there are bytes
  abbrev BlockWalk : List ℕ → Type 0
  BlockWalk s = (n k at : ℕ) (p : List ℕ) → length p ≤ block_size k → length p ≤ at → end ≡ at + length s → length p + length s ≤ n
      → Alike end (walk variable o (Block k (length p) (marks_of p)) at s) (blocks_from n k p s)

  block_walk : (s : List ℕ) → Bytes s → BlockWalk s
  block_walk [] bs n k at p l a q fuel = rw (blocks_cut n k p l) (refl, refl)
  block_walk (b ∷ s) bs n k at p l a q fuel = go (ltb (length p) (block_size k)) refl n fuel (block_walk s bs.1)
    where
      x : ℕ
      x = turn o b

      f : List ℕ
      f = p ++ x ∷ []

      long : length f ≡ suc (length p)
      long = length-append p (x ∷ []) ∙ omega arith

      same : f ++ directed d s ≡ p ++ directed d (b ∷ s)
      same = append_assoc p (x ∷ []) (directed d s) ∙ ap (λ (z : List ℕ). p ++ z) (sym (directed_cons d b s))

      next : Spot → Walk
      next spot = walk variable o spot (suc at) s

      go : (t : Bool) → ltb (length p) (block_size k) ≡ t → (n : ℕ) → length p + suc (length s) ≤ n → BlockWalk s
          → Alike end (walk_then (cond t (on (Block k (suc (length p)) (marks_of p + cond (eqb x 0) 0 (2 ^ length p)))) (end_move k (marks_of p) at x)) s next)
          (blocks_from n k p (b ∷ s))
      go true u n fuel ih =
          subst (λ (spot : Spot). Alike end (next spot) (blocks_from n k p (b ∷ s))) (ap₂ (Block k) long (marks_next p x))
          (subst (λ (z : List ℕ). Alike end (next (Block k (length f) (marks_of f))) (value_slot d (read_blocks block_size max_slot n k (before k) z))) same
          (ih n k (suc at) f (omega (arith, long, ltb-true (length p) (block_size k) u)) (omega (arith, long)) (omega arith) (omega (arith, long))))
      go false u zero fuel ih = absurd (omega arith)
      go false u (suc n) fuel ih =
          subst (λ (m : Parsed (List ℕ)). Alike end (walk_then (end_move k (marks_of p) at x) s next) (value_slot d m))
          (sym (ap (λ (z : List ℕ). read_blocks block_size max_slot (suc n) k (before k) (p ++ z)) (directed_cons d b s)
          ∙ cut block_size max_slot n k (before k) p x (directed d s) full))
          (end_walk k at x p s (read_blocks block_size max_slot n (suc k) (before k + block_size k) (directed d s)) next full (omega (arith, full)) bs.1 q
          (subst (λ (c : ℕ). Alike end (next (Block (suc k) 0 0)) (value_slot d (read_blocks block_size max_slot n (suc k) c (directed d s)))) (before_next k)
          (ih n (suc k) (suc at) [] (omega arith) (omega arith) (omega arith) (omega arith))))
        where
          full : length p ≡ block_size k
          full = omega (arith, ltb-false (length p) (block_size k) u)

-- ---- a field

pub variable_walk : (o : SortOptions) (at : ℕ) (xs : List ℕ) → Bytes xs → Alike (at + length xs) (walk variable o Start at xs) (read_variable max_slot o xs)
variable_walk o at [] bs = (refl, refl)
variable_walk o at (b ∷ s) bs = rw (directed_cons o.descending b s) (go (null_lead o b) (eqb (turn o b) 1) (eqb (turn o b) 2))
  where
    d : Bool
    d = o.descending

    end : ℕ
    end = at + suc (length s)

    next : Spot → Walk
    next spot = walk variable o spot (suc at) s

    go : (n u v : Bool)
        → Alike end
        (walk_then (cond n whole (cond u whole (cond v (on (Block 0 0 0)) (bad Lead at)))) s next)
        (cond n (got none s)
        (value_slot d (cond u (got [] (directed d s))
        (cond v (read_blocks block_size max_slot (length (directed d s)) 0 0 (directed d s)) (fault Lead (suc (length (directed d s))))))))
    go true u v = refl
    go false true v = sym (directed_twice d s bs.1)
    go false false true =
        block_walk o end s bs.1 (length (directed d s)) 0 (suc at) [] (omega arith) (omega arith) (omega arith) (omega (arith, length_directed d s))
    go false false false = (refl, omega (arith, length_directed d s), refl)
