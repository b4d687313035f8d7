-- A field of one width that does not fold is good by its length. Assumes nothing.
use Prim.Native.Nat.{ℕ, ◌+◌, ◌-◌, ◌<◌, ◌≤◌}
use mathlib.Core.Path.{◌≡◌, refl, ap, sym, ◌∙◌, subst}
use mathlib.Core.Bool.{false}
use mathlib.Core.List.{List, []}
use native.Mathlib.Omega.{arith}
use lib.ListN.{length, take, drop, length-take, drop_of_length-le}
use Rattle.format.specs.declared.Kind.{Kind}
use Rattle.format.specs.declared.SortOptions.{SortOptions}
use Rattle.format.specs.Kinds.{Fixed, bool, plain, number, integer, float, parts, Shape, value_bytes}
use Rattle.format.specs.Fold.{folds}
use Rattle.format.specs.Read.{all_zero, field_read, from_bad, null_lead, read_field, found_value}
use Rattle.format.specs.Sheet.{Layout}
use Rattle.format.specs.Cleared.{added}
use Rattle.basics.specs.Wide.{WideKind}
use Rattle.basics.proofs.Sorts.{wide_shape, wide_layout}
use Rattle.laws.proofs.Fields.{not_null}
use Rattle.variable_reader.proofs.Reading.{zero_clear}
use Rattle.fixed_reader.proofs.Scan.{Clean}
use Rattle.fixed_reader.proofs.Reading.{null_end, read_null_lem, read_whole}
use Rattle.plain_fields.specs.Plain.{Plain}

-- values fold only where the options say so
unfolded : (k : Fixed) → folds k false ≡ false
unfolded bool = refl
unfolded (plain n) = refl
unfolded (number n) = refl
unfolded (integer n) = refl
unfolded (float n) = refl
unfolded (parts ns) = refl

-- n bytes that are zeros, as the scan for another one ends
all_clean : (n : ℕ) (s : List ℕ) → from_bad (take n s) ≡ 0 → Clean (take n s) n
all_clean n s z =
    let none : drop n (take n s) ≡ [] = drop_of_length-le (take n s) {i = n} (omega (arith, length-take n s)) in
    record { all = zero_clear (take n s) z ∙ sym (ap all_zero none); bad = z ∙ sym (ap from_bad none) }

-- a field of one width that does not fold is good wherever it opens with 01 and is there whole, and so is a null
pub plain_field : (k : Kind) (o : SortOptions) (w : WideKind k) → o.fold ≡ false → (n : ℕ) → n ≡ value_bytes k
    → Plain (record { kind = k; options = o }) (1 + n)
plain_field k o w free n e = record {
  reads = λ s l one.
      let null = subst (λ (b : ℕ). null_lead o b ≡ false) (sym one) (not_null o 1 (omega arith) (omega arith)) in
      let whole = read_whole s n o w.k (rw e (wide_shape w)) (ap (folds w.k) free ∙ unfolded w.k) (omega arith) null one (omega arith) in
      ap (λ (sh : Shape). field_read s (read_field sh o s)) w.says ∙ sym whole ∙ ap (found_value (1 + n)) (omega arith);
  nulls = λ s l null z.
      let some_lead : 0 < length s = omega arith in
      let fits : n ≤ length s - 1 = omega arith in
      let bad = ap (λ (m : ℕ). from_bad (take m (drop 1 s))) {x = n} {y = 1 + n - 1} (omega arith) ∙ z in
      ap (λ (sh : Shape). field_read s (read_field sh o s)) w.says
      ∙ sym (null_end s n some_lead fits n (all_clean n (drop 1 s) bad) (omega arith)
      ∙ read_null_lem s n o w.k (rw e (wide_shape w)) (ap (folds w.k) free ∙ unfolded w.k) some_lead null);
  adds = λ x. ap (λ (ly : Layout). added ly x) (wide_layout w);
}
