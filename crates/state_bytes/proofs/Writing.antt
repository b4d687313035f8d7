-- A state, written part after part: what is there at the end. Assumes nothing.
use Prim.Native.Nat.{ℕ, ◌+◌, ◌-◌, ◌*◌, ◌≤◌}
use mathlib.Core.Path.{◌≡◌, refl, sym, ap, ap₂, ◌∙◌}
use mathlib.Core.Bool.{Bool}
use mathlib.Core.List.{List, [], ◌∷◌, ◌++◌, append_assoc, append-nil}
use native.Mathlib.Omega.{arith}
use lib.ListN.{length, take, drop, replicate, length-append, length-replicate, length-drop, drop_of_length-le}
use lib.Seq.{sets, sets-eq, drop-drop, take_all, take_at}
use borrow.Rule.Slice.PartMut.{mid_of, post_of, put_mid}
use Rattle.format.specs.declared.Schema.{Schema}
use Rattle.format.specs.declared.Refusal.{Refusal}
use Rattle.format.specs.Check.{Check}
use Rattle.std.specs.declared.result.Result.TheVariants.{Err}
use Rattle.format.specs.declared.Returned.{Returned}
use Rattle.format.specs.Limits.{max_columns}
use Rattle.format.specs.Lists.{over, low_bytes}
use Rattle.format.specs.Schemas.{schema_of, cols_of}
use Rattle.format.specs.Described.{codes}
use Rattle.format.specs.Lent.{eight_bytes, number_bytes}
use Rattle.format.specs.Cutter.{refused}
use Rattle.format.specs.CutterBytes.{check_numbers, spot_numbers, numbers_size, state_bytes, state_size, same}
use Rattle.basics.proofs.Append.{sets_append, over_sets}
use Rattle.laws.proofs.InUse.{Held, in_use}
use Rattle.lent_bytes.proofs.NumberBytes.{length_eights}
use Rattle.cutter_laws.proofs.Coding.{length_codes}
use Rattle.cutter_laws.proofs.StateBack.{length_spot}
use Rattle.cutter_step.specs.declared.Place.{Place}
use Rattle.cutter_step.specs.Places.{place_of}
use Rattle.state_bytes.specs.Written.{four_numbers, state_with, place_numbers, column_bytes}

-- a run of bytes, and another after it
pub then_sets : (xs ys l m : List ℕ) (at at' : ℕ) → m ≡ sets l at xs → at + length xs ≡ at' → sets m at' ys ≡ sets l at (xs ++ ys)
then_sets xs ys l m at at' e p = ap₂ (λ (z : List ℕ) (k : ℕ). sets z k ys) e (sym p) ∙ sym (sets_append xs ys l at)

-- ---- the numbers

pub four_put : (x : Returned) (at : ℕ) (l m n o p : List ℕ) → m ≡ sets l at (low_bytes 8 x.0) → n ≡ sets m (at + 8) (low_bytes 8 x.1)
    → o ≡ sets n (at + 16) (low_bytes 8 x.2) → p ≡ sets o (at + 24) (low_bytes 8 x.3) → p ≡ sets l at (number_bytes x)
four_put x at l m n o p a b c d =
    d
    ∙ then_sets w₂ w₃ n o (at + 16) (at + 24) c (omega arith)
    ∙ then_sets w₁ (w₂ ++ w₃) m n (at + 8) (at + 16) b (omega arith)
    ∙ then_sets w₀ (w₁ ++ w₂ ++ w₃) l m at (at + 8) a refl
  where
    w₀ : List ℕ
    w₀ = low_bytes 8 x.0

    w₁ : List ℕ
    w₁ = low_bytes 8 x.1

    w₂ : List ℕ
    w₂ = low_bytes 8 x.2

    w₃ : List ℕ
    w₃ = low_bytes 8 x.3

-- four and four and four, and the count
thirteen : (x y z : Returned) (count : ℕ) (l m n o p : List ℕ) → numbers_size ≤ length l → m ≡ sets l 0 (number_bytes x) → n ≡ sets m 32 (number_bytes y)
    → o ≡ sets n 64 (number_bytes z) → p ≡ sets o 96 (low_bytes 8 count)
    → p ≡ over (eight_bytes (four_numbers x ++ four_numbers y ++ four_numbers z ++ (count ∷ []))) l
thirteen x y z count l m n o p room a b c d =
    d
    ∙ then_sets (number_bytes z) (low_bytes 8 count) n o 64 96 c refl
    ∙ then_sets (number_bytes y) (number_bytes z ++ low_bytes 8 count) m n 32 64 b refl
    ∙ then_sets (number_bytes x) (number_bytes y ++ (number_bytes z ++ low_bytes 8 count)) l m 0 32 a refl
    ∙ sym (over_sets (eight_bytes (four_numbers x ++ four_numbers y ++ four_numbers z ++ (count ∷ []))) l room)

pub numbers_put : (check : Check) (p : Place) (count : ℕ) (x z : Returned) (l m n o q : List ℕ) → numbers_size ≤ length l
    → x ≡ check_numbers check → four_numbers z ≡ spot_numbers p.spot
    → m ≡ sets l 0 (number_bytes x) → n ≡ sets m 32 (number_bytes (record { 0 = p.rows; 1 = p.bytes; 2 = p.row; 3 = p.column }))
    → o ≡ sets n 64 (number_bytes z) → q ≡ sets o 96 (low_bytes 8 count)
    → q ≡ over (eight_bytes (place_numbers check p count)) l
numbers_put check p count x z l m n o q room e f a b c d =
    thirteen x y z count l m n o q room a b c d
    ∙ ap₂ (λ (u : Returned) (s : List ℕ). over (eight_bytes (four_numbers u ++ four_numbers y ++ s ++ (count ∷ []))) l) e f
  where
    y : Returned
    y = record { 0 = p.rows; 1 = p.bytes; 2 = p.row; 3 = p.column }

-- ---- the columns

module _ (schema : Schema) (held : Held schema) (few : schema.count ≤ max_columns) where
  length_used : length (codes (cols_of schema)) ≡ 4 * schema.count
  length_used = length_codes (cols_of schema) ∙ ap (λ (n : ℕ). 4 * n) (in_use schema held few)

  pub length_columns : length (column_bytes schema) ≡ 4 * max_columns
  length_columns =
      length-append (codes (cols_of schema)) (replicate (4 * (max_columns - schema.count)) 0)
      ∙ omega (arith, length_used, length-replicate {A = ℕ} (4 * (max_columns - schema.count)) 0)

  pub columns_put : (l m n : List ℕ) → 4 * max_columns ≤ length l → m ≡ over (codes (cols_of schema)) l
      → n ≡ sets m (4 * schema.count) (replicate (4 * (max_columns - schema.count)) 0) → n ≡ over (column_bytes schema) l
  columns_put l m n room a b =
      b
      ∙ then_sets (codes (cols_of schema)) (replicate (4 * (max_columns - schema.count)) 0) l m 0 (4 * schema.count)
      (a ∙ over_sets (codes (cols_of schema)) l (omega (arith, length_used))) (omega (arith, length_used))
      ∙ sym (over_sets (column_bytes schema) l (omega (arith, length_columns)))

-- ---- the whole

-- a part of lent bytes, from a place on, with something written in front of it
pub part_put : (a : ℕ) (new l : List ℕ) → a + length new ≤ length l → put_mid a (length l - a) l (over new (mid_of a (length l - a) l)) ≡ sets l a new
part_put a new l room =
    ap₂ (λ (y z : List ℕ). take a l ++ (over new y ++ z)) all none
    ∙ ap (λ (z : List ℕ). take a l ++ z) (append-nil (over new (drop a l)) ∙ ap (λ (z : List ℕ). new ++ z) (drop-drop (length new) a l))
    ∙ sym (append_assoc (take a l) new (drop (a + length new) l))
    ∙ sym (sets-eq new l a room)
  where
    all : mid_of a (length l - a) l ≡ drop a l
    all = take_all (length l - a) (drop a l) (omega (arith, length-drop a l))

    none : post_of a (length l - a) l ≡ []
    none = drop_of_length-le (drop a l) {i = length l - a} (omega (arith, length-drop a l))

pub length_numbers : (check : Check) (p : Place) (count : ℕ) → length (eight_bytes (place_numbers check p count)) ≡ numbers_size
length_numbers check p count = length_eights (place_numbers check p count) ∙ omega (arith, length_spot p.spot count)

-- a state: its numbers, and its columns
pub state_parts : (check : Check) (p : Place) (schema : Schema)
    → state_bytes (state_with check p schema) ≡ eight_bytes (place_numbers check p schema.count) ++ column_bytes schema
unfolding state_bytes
state_parts check p schema =
    append_assoc (eight_bytes (place_numbers check p schema.count)) (codes (cols_of schema)) (replicate (4 * (max_columns - schema.count)) 0)

-- as many bytes as any
pub state_size_lem : (check : Check) (p : Place) (schema : Schema) → length (column_bytes schema) ≡ 4 * max_columns
    → length (state_bytes (state_with check p schema)) ≡ state_size
state_size_lem check p schema long =
    ap length (state_parts check p schema)
    ∙ length-append (eight_bytes (place_numbers check p schema.count)) (column_bytes schema)
    ∙ omega (arith, length_numbers check p schema.count, long)

-- written in front of others, and compared with others
pub written_same : (check : Check) (p : Place) (schema : Schema) → length (column_bytes schema) ≡ 4 * max_columns → (l m : List ℕ)
    → m ≡ over (state_bytes (state_with check p schema)) l → (x : List ℕ) {r : Bool} → r ≡ same (take state_size m) x
    → r ≡ same (state_bytes (state_with check p schema)) x
written_same check p schema long l m put x e =
    e
    ∙ ap (λ (z : List ℕ). same z x)
    (ap (take state_size) put
    ∙ take_at (state_bytes (state_with check p schema)) (drop (length (state_bytes (state_with check p schema))) l) state_size (state_size_lem check p schema long))

module _ (check : Check) (p : Place) (schema : Schema) (l m : List ℕ) (room : state_size ≤ length l)
    (a : m ≡ over (eight_bytes (place_numbers check p schema.count)) l) (long : length (column_bytes schema) ≡ 4 * max_columns) where
  abbrev ns : List ℕ
  ns = eight_bytes (place_numbers check p schema.count)

  size : length ns ≡ numbers_size
  size = length_numbers check p schema.count

  -- the numbers in front, and then the columns
  numbers_then : (n : List ℕ) → n ≡ sets m numbers_size (column_bytes schema) → n ≡ over (state_bytes (state_with check p schema)) l
  numbers_then n b =
      b
      ∙ then_sets ns (column_bytes schema) l m 0 numbers_size (a ∙ over_sets ns l (omega (arith, size))) (omega (arith, size))
      ∙ sym (over_sets (ns ++ column_bytes schema) l (omega (arith, size, long, length-append ns (column_bytes schema))))
      ∙ ap (λ (z : List ℕ). over z l) (sym (state_parts check p schema))

  length_first : length m ≡ length l
  length_first = ap length a ∙ length-append ns (drop (length ns) l) ∙ omega (arith, size, length-drop (length ns) l)

  pub state_put : (n : List ℕ) → n ≡ over (column_bytes schema) (mid_of numbers_size (length m - numbers_size) m)
      → put_mid numbers_size (length m - numbers_size) m n ≡ over (state_bytes (state_with check p schema)) l
  state_put n b =
      numbers_then (put_mid numbers_size (length m - numbers_size) m n)
      (ap (put_mid numbers_size (length m - numbers_size) m) b ∙ part_put numbers_size (column_bytes schema) m (omega (arith, long, length_first)))

-- a refused state
pub refused_put : (r : Refusal) (l m n : List ℕ) → state_size ≤ length l → m ≡ over (eight_bytes (place_numbers (Err r) (place_of (refused r)) 0)) l
    → n ≡ sets m numbers_size (replicate (4 * max_columns) 0) → n ≡ over (state_bytes (refused r)) l
refused_put r l m n room a b = numbers_then (Err r) (place_of (refused r)) (schema_of []) l m room a refl n b
