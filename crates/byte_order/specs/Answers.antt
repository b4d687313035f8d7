-- Orders, as the code answers them.
use Prim.Native.Nat.Ordering.{eq}
use Prim.Native.Nat.Ordering.{gt}
use Prim.Native.Nat.Ordering.{lt}
use Prim.Native.Nat.{Ordering as Order}
use Rattle.std.specs.declared.cmp.Ordering.{Ordering}
use Rattle.std.specs.declared.cmp.Ordering.TheVariants.{Less, Equal, Greater}

-- an order of the definitions, as the library's type
abbrev pub ordering : Order → Ordering
ordering lt = Less
ordering eq = Equal
ordering gt = Greater
