-- `sheet_columns::check_required` meets its contract: what is found is the first null row, or n where there is none. Assumes
-- nothing.
use Prim.Native.Nat.{ℕ, ◌<◌, ◌≤◌}
use mathlib.Core.Path.{◌≡◌}
use mathlib.Core.Bool.{Bool, true, false}
use mathlib.Core.List.{List}
use borrow.Author.Tests.{lt-ltb, le-ltb}
use Rattle.std.specs.declared.result.Result.TheVariants.{Ok, Err}
use Rattle.format.specs.declared.Refusal.TheVariants.{Missing}
use Rattle.format.specs.Sheet.{first_clear, required_fault}
use Rattle.sheet_columns.proofs.check_required.Goals as goal

module _ (q : Bool) (n c : ℕ) (s : List ℕ) where
  free : q ≡ false → Ok tt ≡ required_fault q n c s
  free e = rw e

  module _ (row : ℕ) (e : q ≡ true) (f : row ≡ first_clear s 0 n) where
    missing : row < n → Err (Missing c row) ≡ required_fault q n c s
    missing l = rw (e, ← f, lt-ltb row n l)

    full : n ≤ row → Ok tt ≡ required_fault q n c s
    full l = rw (e, ← f, le-ltb row n l)

pub returns-then-not-required : goal.returns-then-not-required
returns-then-not-required c =
    let A = c.args in
    free A.required A.n A.c A.part.now c.if-not-required.true

pub returns-then-row-n : goal.returns-then-row-n
returns-then-row-n c =
    let A = c.args in
    missing A.required A.n A.c A.part.now _ c.if-not-required.false c.first_clear-row.ensures c.if-row-n.true

pub returns : goal.returns
returns c =
    let A = c.args in
    full A.required A.n A.c A.part.now _ c.if-not-required.false c.first_clear-row.ensures c.if-row-n.false
