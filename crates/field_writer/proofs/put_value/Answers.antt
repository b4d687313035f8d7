-- `field_writer::put_value` meets its contract: each call is the definition's case for the kinds that are left to it. Assumes
-- nothing.
use Prim.Native.Nat.{◌+◌}
use mathlib.Core.Path.{◌≡◌}
use mathlib.Core.Option.{some}
use native.Mathlib.Omega.{arith}
use Rattle.format.specs.declared.Kind.{Kind}
use Rattle.format.specs.Kinds.{Slot, shape, value_bytes}
use Rattle.format.specs.Field.{field_length}
use Rattle.format.specs.Sheet.{layout, value_at}
use Rattle.basics.specs.Wide.{WideKind}
use Rattle.basics.proofs.Sorts.{wide_arm}
use Rattle.sheet_slots.proofs.Values.{wide_asked}
use Rattle.field_writer.proofs.put_value.Goals as goal

-- the field of each value of one width is as long
wide_long : {kind : Kind} (s : Slot) → WideKind kind → field_length (shape kind) s ≡ 1 + value_bytes kind
wide_long s k = rw k.says

pub encode-requires : goal.encode-requires
encode-requires c =
    let A = c.args in
    let w = wide_arm A.column.kind c.in_default-kind.not-Bool c.in_default.not-Variable in
    record {
      wide_kind = w;
      kind_in_bounds = wide_asked A.n A.r A.values.now c.requires.n_le_max_rows.1 c.requires.passes w;
      kind_in_bounds_2 = omega (arith, c.requires.r_in_bounds, wide_long (some (value_at (layout A.column) A.n A.values.now A.r)) w);
    }
