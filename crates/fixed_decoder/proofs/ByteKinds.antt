-- The bytewise kinds: values of one width. Assumes nothing.
use mathlib.Core.Path.{◌≡◌, refl}
use mathlib.Core.Bool.{true, false≢true}
use mathlib.Core.List.{[], ◌∷◌}
use Rattle.format.specs.declared.Kind.{Kind}
use Rattle.format.specs.declared.Kind.TheVariants.{Bool, I8, I16, I32, I64, U8, U16, U32, U64, F16, F32, F64}
use Rattle.format.specs.declared.Kind.TheVariants.{DayTime, MonthDayNano, FixedBinary, Variable, I128, I256}
use Rattle.format.specs.Kinds.{Fixed, bool, integer, number, parts, plain, fixed, shape}
use Rattle.basics.specs.Wide.{WideKind}
use Rattle.fixed_decoder.specs.Bytewise.{bytewise}

-- a shape with another constructor is no bool
wide : {kind : Kind} (k : Fixed) → shape kind ≡ fixed k → (k ≡ bool → ⊥) → WideKind kind
wide k e o = record { k = k; says = e; other = o }

-- values of one width
pub wide_bytes : (kind : Kind) → bytewise kind ≡ true → WideKind kind
wide_bytes Bool e = absurd (false≢true e)
wide_bytes I8 e = wide (integer 1) refl (λ q. cc)
wide_bytes I16 e = absurd (false≢true e)
wide_bytes I32 e = absurd (false≢true e)
wide_bytes I64 e = absurd (false≢true e)
wide_bytes U8 e = wide (number 1) refl (λ q. cc)
wide_bytes U16 e = absurd (false≢true e)
wide_bytes U32 e = absurd (false≢true e)
wide_bytes U64 e = absurd (false≢true e)
wide_bytes F16 e = absurd (false≢true e)
wide_bytes F32 e = absurd (false≢true e)
wide_bytes F64 e = absurd (false≢true e)
wide_bytes DayTime e = wide (parts (4 ∷ 4 ∷ [])) refl (λ q. cc)
wide_bytes MonthDayNano e = absurd (false≢true e)
wide_bytes (FixedBinary w) e = wide (plain w) refl (λ q. cc)
wide_bytes Variable e = absurd (false≢true e)
wide_bytes I128 e = wide (integer 16) refl (λ q. cc)
wide_bytes I256 e = wide (integer 32) refl (λ q. cc)
