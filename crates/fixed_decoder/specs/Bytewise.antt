-- The kinds of one width that are not decoded word by word, nor packed as bools are.
use Rattle.std.specs.Prelude.{Bool as Truth, true, false}
use Rattle.format.specs.declared.Kind.{Kind}
use Rattle.format.specs.declared.Kind.TheVariants.{Bool, I8, I16, I32, I64, U8, U16, U32, U64, F16, F32, F64}
use Rattle.format.specs.declared.Kind.TheVariants.{DayTime, MonthDayNano, FixedBinary, Variable, I128, I256}

abbrev pub bytewise : Kind → Truth
bytewise Bool = false
bytewise I8 = true
bytewise I16 = false
bytewise I32 = false
bytewise I64 = false
bytewise U8 = true
bytewise U16 = false
bytewise U32 = false
bytewise U64 = false
bytewise F16 = false
bytewise F32 = false
bytewise F64 = false
bytewise DayTime = true
bytewise MonthDayNano = false
bytewise (FixedBinary w) = true
bytewise Variable = false
bytewise I128 = true
bytewise I256 = true
