-- `sheet_columns::check_column` meets its contract: the fault of the validity bytes, or else of nulls in a required column, or
-- else of the values, which stand in the part after the validity bytes. Assumes nothing.
use Prim.Native.Nat.{ℕ, ◌-◌, ◌≤◌}
use mathlib.Core.Path.{◌≡◌, sym, ◌∙◌}
use mathlib.Core.Bool.{Bool}
use mathlib.Core.List.{List}
use native.Mathlib.Omega.{arith}
use lib.ListN.{length, take, drop}
use Rattle.std.proofs.lemmas.Result.{err_from_is_err_and}
use Rattle.format.specs.declared.Refusal.{Refusal}
use Rattle.format.specs.Check.{Check, both}
use Rattle.std.specs.declared.result.Result.TheVariants.{Ok, Err}
use Rattle.format.specs.Sheet.{Layout, layout, packed, bits_fault, required_fault, values_fault, column_fault}
use Rattle.bits.proofs.Nulls.{bits_passed}
use Rattle.basics.proofs.Checks.{and_both}
use Rattle.laws.proofs.Parts.{part_rest}
use Rattle.sheet_columns.proofs.check_column.Goals as goal

module _ (q : Bool) (ly : Layout) (n c : ℕ) (s : List ℕ) where
  validity : (r : Refusal) → bits_fault n c s ≡ Err r → Err r ≡ column_fault q ly n c s
  validity r e = rw e

  rest : (p : ℕ) (missing values r : Check) → bits_fault n c s ≡ Ok tt → p ≡ packed n → missing ≡ required_fault q n c s
      → values ≡ values_fault ly n c (take (length s - p) (drop p s)) → r ≡ both missing values → r ≡ column_fault q ly n c s
  rest p missing values r e w m v f = f ∙ rw (m, v, part_rest s p, w, e)

-- validity bytes that pass are there
there : (n c : ℕ) (s : List ℕ) → bits_fault n c s ≡ Ok tt → packed n ≤ length s
there n c s e = (bits_passed n c s e).0

pub returns-in_err-check_bits : goal.returns-in_err-check_bits
returns-in_err-check_bits c =
    let p = err_from_is_err_and c.from_residual.result c.from_residual.ensures.1 in
    rw (p.1, p.2) (let a = c.args in
    validity a.column.options.required (layout a.column) a.n a.c a.part.now _ (sym c.check_bits.ensures ∙ c.in_err-check_bits.was))

pub check_required-missing-requires : goal.check_required-missing-requires
check_required-missing-requires c = there c.args.n c.args.c c.args.part.now (sym c.check_bits.ensures ∙ c.in_ok-check_bits.was)

pub slice_bounds-check_values-count : goal.slice_bounds-check_values-count
slice_bounds-check_values-count c = omega (arith, there c.args.n c.args.c c.args.part.now (sym c.check_bits.ensures ∙ c.in_ok-check_bits.was))

pub slice_bounds-check_values-start : goal.slice_bounds-check_values-start
slice_bounds-check_values-start c = omega (arith, there c.args.n c.args.c c.args.part.now (sym c.check_bits.ensures ∙ c.in_ok-check_bits.was))

pub returns : goal.returns
returns c =
    let a = c.args in
    rest a.column.options.required (layout a.column) a.n a.c a.part.now _ _ _ _ (sym c.check_bits.ensures ∙ c.in_ok-check_bits.was)
    c.packed-valid.ensures.0 c.check_required-missing.ensures c.check_values-values.ensures (c.and.ensures ∙ and_both c.check_required-missing.result c.check_values-values.result)
