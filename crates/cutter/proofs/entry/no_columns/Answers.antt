-- `cutter::entry::no_columns` meets its contract: the store puts what is there. Assumes nothing.
use Prim.Native.Nat.{ℕ, ◌<◌}
use mathlib.Core.Path.{◌≡◌, ap, sym, ◌∙◌}
use native.Mathlib.Omega.{arith}
use lib.ListN.{set, replicate, get_or-replicate}
use lib.Seq.{set-get_or}
use Rattle.format.specs.declared.Column.{Column}
use Rattle.format.specs.Limits.{max_columns}
use Rattle.cutter.proofs.entry.no_columns.Goals as goal

-- of so many that are alike, one more in the place of one
put_same : (n i : ℕ) (col : Column) → i < n → set (replicate n col) i col ≡ replicate n col
put_same n i col l = ap (set (replicate n col) i) (sym (get_or-replicate n i col col l)) ∙ set-get_or (replicate n col) i col

pub offset_bounds-columns-c : goal.offset_bounds-columns-c
offset_bounds-columns-c c = omega (arith, c.requires)

pub bounds-columns-c : goal.bounds-columns-c
bounds-columns-c c = omega (arith, c.requires)

pub returns : goal.returns
returns c = put_same max_columns c.args.c _ c.requires ∙ ap (replicate max_columns) c.default-none.ensures
