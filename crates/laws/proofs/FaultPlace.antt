-- A fault's place is inside the bytes that were read: no more bytes are left from the bad byte on than there were.
use Prim.Native.Nat.{ℕ, zero, suc, ◌+◌, ◌<◌, ◌≤◌}
use mathlib.Core.Path.{◌≡◌, refl, ap, sym, ◌∙◌, subst}
use mathlib.Core.Bool.{Bool, true, false, cond, ◌||◌}
use mathlib.Core.List.{List, [], ◌∷◌}
use native.Mathlib.Omega.{arith}
use lib.Dec.{ltb, leb, eqb}
use lib.ListN.{length, take, drop, get_or, take-append-drop, length-append, length-drop}
use lib.Seq.{length-take-le}
use borrow.Author.Tests.{leb-false}
use Rattle.format.specs.Field.{block_size, directed}
use Rattle.format.specs.Fold.{is_folded}
use Rattle.format.specs.Key.{allowed, unkey}
use Rattle.format.specs.Kinds.{Fixed, Shape, fixed, variable, width}
use Rattle.format.specs.Limits.{max_slot}
use Rattle.format.specs.Read.{Parsed, got, fault, after, all_zero, from_bad, null_lead, read_block, read_blocks, read_value, read_variable, value_slot}
use Rattle.format.specs.Read.{read_bytes, read_field, read_fixed, read_null}
use Rattle.format.specs.declared.RowFault.{RowFault}
use Rattle.format.specs.declared.SortOptions.{SortOptions}
use Rattle.laws.proofs.Directed.{length_directed}

-- no more than n bytes are left after what was read, or from the bad byte on
abbrev pub Inside : {A : Type 0} → ℕ → Parsed A → Type 0
Inside n (got v r) = length r ≤ n
Inside n (fault f l) = l ≤ n

-- nor more than a greater number
weaken : {A : Type 0} (m n : ℕ) (p : Parsed A) → m ≤ n → Inside m p → Inside n p
weaken m n (got v r) h i = omega arith
weaken m n (fault f l) h i = omega arith

-- whichever way a test goes; the second way knows that it failed
inside_if : {A : Type 0} (n : ℕ) (b : Bool) (p q : Parsed A) → Inside n p → (b ≡ false → Inside n q) → Inside n (cond b p q)
inside_if n true p q hp hq = hp
inside_if n false p q hp hq = hq refl

-- the first byte that is not zero is one of them
bad_inside : (p : List ℕ) → from_bad p ≤ length p
bad_inside [] = omega arith
bad_inside (x ∷ p) = go (eqb x 0) (bad_inside p)
  where
    go : (b : Bool) → from_bad p ≤ length p → cond b (from_bad p) (suc (length p)) ≤ suc (length p)
    go true h = omega arith
    go false h = omega arith

-- cut in two
two_parts : (n : ℕ) (s : List ℕ) → length (take n s) + length (drop n s) ≡ length s
two_parts n s = sym (length-append (take n s) (drop n s)) ∙ ap length (take-append-drop n s)

-- ---- variable bytes

inside_after : (n : ℕ) (d : List ℕ) (p : Parsed (List ℕ)) → Inside n p → Inside n (after d p)
inside_after n d (got v r) h = h
inside_after n d (fault f l) h = h

inside_block : (size limit c : ℕ) (p : List ℕ) (e : ℕ) (t : List ℕ) (more : Parsed (List ℕ)) → Inside (length t) more
    → Inside (length p + suc (length t)) (read_block size limit c p e t more)
inside_block size limit c p e t more h =
    inside_if n (eqb e 255) _ _
    (inside_if n (ltb limit (c + size)) _ _ end (λ q. inside_after n p more (weaken (length t) n more (omega arith) h)))
    (λ q. inside_if n (ltb e 1 || ltb size e) _ _ end (λ q.
    inside_if n (all_zero (drop e p)) _ _ (inside_if n (ltb limit (c + e)) _ _ end (λ q. omega arith))
    (λ q. omega (arith, bad_inside (drop e p), two_parts e p))))
  where
    n : ℕ
    n = length p + suc (length t)

    end : suc (length t) ≤ length p + suc (length t)
    end = omega arith

inside_blocks : (size : ℕ → ℕ) (limit n k c : ℕ) (s : List ℕ) → Inside (length s) (read_blocks size limit n k c s)
inside_blocks size limit zero k c s = omega arith
inside_blocks size limit (suc n) k c s =
    inside_if (length s) (leb (length s) (size k)) _ _ (omega arith) (λ q.
    weaken (length p + suc (length t)) (length s) (read_block (size k) limit c p (get_or s (size k) 0) t more) (long (leb-false (length s) (size k) q))
    (inside_block (size k) limit c p (get_or s (size k) 0) t more (inside_blocks size limit n (suc k) (c + size k) t)))
  where
    p : List ℕ
    p = take (size k) s

    t : List ℕ
    t = drop (suc (size k)) s

    more : Parsed (List ℕ)
    more = read_blocks size limit n (suc k) (c + size k) t

    long : size k < length s → length p + suc (length t) ≤ length s
    long h = omega (arith, length-take-le (size k) s (omega arith), length-drop (suc (size k)) s)

inside_value : (limit : ℕ) (s : List ℕ) → Inside (length s) (read_value limit s)
inside_value limit [] = omega arith
inside_value limit (b ∷ s) =
    inside_if (suc (length s)) (eqb b 1) _ _ (omega arith) (λ q.
    inside_if (suc (length s)) (eqb b 2) _ _
    (weaken (length s) (suc (length s)) (read_blocks block_size limit (length s) 0 0 s) (omega arith) (inside_blocks block_size limit (length s) 0 0 s))
    (λ q. omega arith))

inside_slot : (n : ℕ) (d : Bool) (p : Parsed (List ℕ)) → Inside n p → Inside n (value_slot d p)
inside_slot n d (got v r) h = omega (arith, length_directed d r)
inside_slot n d (fault f l) h = h

inside_variable : (limit : ℕ) (o : SortOptions) (s : List ℕ) → Inside (length s) (read_variable limit o s)
inside_variable limit o [] = omega arith
inside_variable limit o (b ∷ s) =
    inside_if (suc (length s)) (null_lead o b) _ _ (omega arith) (λ q.
    inside_slot (suc (length s)) d (read_value limit (directed d (b ∷ s)))
    (subst (λ (n : ℕ). Inside n (read_value limit (directed d (b ∷ s)))) (length_directed d (b ∷ s)) (inside_value limit (directed d (b ∷ s)))))
  where
    d : Bool
    d = o.descending

-- ---- fixed kinds

inside_null : (w : ℕ) (s : List ℕ) → Inside (length s) (read_null w s)
inside_null w s =
    inside_if (length s) (ltb (length s) w) _ _ (omega arith) (λ q.
    inside_if (length s) (all_zero (take w s)) _ _ (omega (arith, two_parts w s)) (λ q. omega (arith, bad_inside (take w s), two_parts w s)))

inside_bytes : (k : Fixed) (o : SortOptions) (s : List ℕ) → Inside (length s) (read_bytes k o s)
inside_bytes k o s =
    inside_if (length s) (ltb (length s) (width k)) _ _ (omega arith) (λ q.
    inside_if (length s) (allowed k f) _ _
    (inside_if (length s) (is_folded k o.fold (unkey k f)) _ _ (omega (arith, two_parts (width k) s)) (λ q. bad)) (λ q. bad))
  where
    f : List ℕ
    f = directed o.descending (take (width k) s)

    bad : length (directed o.descending (take (width k) s)) + length (drop (width k) s) ≤ length s
    bad = omega (arith, length_directed o.descending (take (width k) s), two_parts (width k) s)

inside_fixed : (k : Fixed) (o : SortOptions) (s : List ℕ) → Inside (length s) (read_fixed k o s)
inside_fixed k o [] = omega arith
inside_fixed k o (b ∷ s) =
    inside_if (suc (length s)) (null_lead o b) _ _
    (weaken (length s) (suc (length s)) (read_null (width k) s) (omega arith) (inside_null (width k) s)) (λ q.
    inside_if (suc (length s)) (eqb b 1) _ _
    (weaken (length s) (suc (length s)) (read_bytes k o s) (omega arith) (inside_bytes k o s))
    (λ q. omega arith))

-- ---- one column

inside_field : (sh : Shape) (o : SortOptions) (f : List ℕ) → Inside (length f) (read_field sh o f)
inside_field (fixed k) o f = inside_fixed k o f
inside_field variable o f = inside_variable max_slot o f

-- so the place of a fault is the length less what is left
pub fault_inside : (sh : Shape) (o : SortOptions) (f : List ℕ) (e : RowFault) (l : ℕ) → read_field sh o f ≡ fault e l → l ≤ length f
fault_inside sh o f e l h = subst (Inside (length f)) h (inside_field sh o f)
