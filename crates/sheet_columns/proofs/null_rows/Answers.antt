-- `sheet_columns::null_rows` meets its contract: with no spare bit set, the ones of the validity bytes and the nulls of the
-- column are n together. Assumes nothing.
use borrow.Author.Tests.{le-ltb}
use Prim.Native.Nat.{ℕ, ◌+◌, ◌-◌, ◌<◌, ◌≤◌}
use mathlib.Core.Path.{◌≡◌, sym}
use mathlib.Core.Bool.{false}
use mathlib.Core.List.{List}
use native.Mathlib.Omega.{arith}
use lib.ListN.{length, get_or, take}
use lib.Seq.{length-take-le}
use Rattle.std.specs.declared.result.Result.TheVariants.{Ok}
use Rattle.format.specs.Sheet.{Layout, bits, packed, spare_set, bits_fault, column_slots, nulls_in}
use Rattle.bits.specs.Ones.{ones_in}
use Rattle.bits.proofs.Nulls.{column_nulls}
use Rattle.basics.proofs.Bytes.{bytes_of}
use Rattle.sheet_columns.proofs.null_rows.Goals as goal
use Rattle.sheet_columns.proofs.null_rows.Goals.{After-count_ones}

module _ (n : ℕ) (s : List ℕ) (b : (i : ℕ) → get_or s i 0 < 256) (room : packed n ≤ length s) (clear : spare_set (take (packed n) s) n ≡ false) where
  passes : bits_fault n 0 s ≡ Ok tt
  passes = rw (le-ltb (length s) (packed n) room, clear)

  together : (ly : Layout) (p ones : ℕ) → p ≡ packed n → ones ≡ ones_in (take p s) → nulls_in (column_slots ly n s) + ones ≡ n
  together ly p ones w e = rw (e, w) (column_nulls ly n 0 s (bytes_of s b) passes)

nulls : (c : After-count_ones) (ly : Layout) → nulls_in (column_slots ly c.args.n c.args.part.now) + c.count_ones.result ≡ c.args.n
nulls c ly =
    together c.args.n c.args.part.now (λ i. (c.type_inv.part i).fits) c.requires.n_in_bounds c.requires.n_value ly _ _
    c.packed-valid.ensures.0 c.count_ones.ensures.value

pub slice_bounds-count_ones-end : goal.slice_bounds-count_ones-end
slice_bounds-count_ones-end c = sym (length-take-le _ _ (omega arith))

pub count_ones-requires : goal.count_ones-requires
count_ones-requires c = omega (arith, length-take-le c.packed-valid.result c.args.part.now (omega arith))

pub overflow_sub-result : goal.overflow_sub-result
overflow_sub-result c = omega (arith, nulls (goal.at.overflow_sub-result c).After-count_ones bits)

pub returns : goal.returns
returns c = record { value = λ ly. omega (arith, nulls (goal.at.returns c).After-count_ones ly); upper_bound = omega arith }
