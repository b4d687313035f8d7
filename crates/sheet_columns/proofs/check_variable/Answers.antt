-- `sheet_columns::check_variable` meets its contract: each return is the definition's case for the tests that led there.
-- Assumes nothing.
use borrow.Author.Tests.{lt-ltb, le-ltb}
use Prim.Native.Nat.{ℕ, suc, ◌+◌, ◌*◌, ◌<◌, ◌≤◌}
use mathlib.Core.Path.{◌≡◌, sym, ◌∙◌}
use mathlib.Core.List.{List}
use native.Mathlib.Numerals.{add-one}
use lib.ListN.{length}
use Rattle.std.proofs.lemmas.Result.{err_from_is_err_and}
use Rattle.format.specs.declared.Refusal.{Refusal}
use Rattle.format.specs.declared.Refusal.TheVariants.{ColumnCut}
use Rattle.std.specs.declared.result.Result.TheVariants.{Ok, Err}
use Rattle.format.specs.Sheet.{end, ends_fault, variable_fault}
use Rattle.sheet_columns.proofs.check_variable.Goals as goal

module _ (n c : ℕ) (s : List ℕ) where
  cut : length s < 4 * (n + 1) → Err (ColumnCut c) ≡ variable_fault n c s
  cut h = rw (lt-ltb (length s) (4 * suc n) (rw add-one at h))

  ends : 4 * (n + 1) ≤ length s → (r : Refusal) → ends_fault c s 0 n ≡ Err r → Err r ≡ variable_fault n c s
  ends h r f = rw (le-ltb (length s) (4 * suc n) (rw add-one at h), f)

  bytes : 4 * (n + 1) ≤ length s → ends_fault c s 0 n ≡ Ok tt → length s < 4 * (n + 1) + end s n → Err (ColumnCut c) ≡ variable_fault n c s
  bytes h f l = rw (le-ltb (length s) (4 * suc n) (rw add-one at h), f, lt-ltb (length s) (4 * suc n + end s n) (rw add-one at l))

  whole : 4 * (n + 1) ≤ length s → ends_fault c s 0 n ≡ Ok tt → 4 * (n + 1) + end s n ≤ length s → Ok tt ≡ variable_fault n c s
  whole h f l = rw (le-ltb (length s) (4 * suc n) (rw add-one at h), f, le-ltb (length s) (4 * suc n + end s n) (rw add-one at l))

pub returns-then-part-ends : goal.returns-then-part-ends
returns-then-part-ends c = cut _ _ c.args.part.now c.if-part-ends.true

pub returns-in_err-check_ends : goal.returns-in_err-check_ends
returns-in_err-check_ends c =
    let p = err_from_is_err_and c.from_residual.result c.from_residual.ensures.1 in
    rw (p.1, p.2) (ends _ _ _ c.if-part-ends.false _ (sym c.check_ends.ensures ∙ c.in_err-check_ends.was))

pub returns-then-part-ends-2 : goal.returns-then-part-ends-2
returns-then-part-ends-2 c =
    bytes _ _ _ c.if-part-ends.false (sym c.check_ends.ensures ∙ c.in_ok-check_ends.was)
    (rw c.end_at.ensures.0 at c.if-part-ends-2.true)

pub returns : goal.returns
returns c =
    whole _ _ _ c.if-part-ends.false (sym c.check_ends.ensures ∙ c.in_ok-check_ends.was)
    (rw c.end_at.ensures.0 at c.if-part-ends-2.false)
