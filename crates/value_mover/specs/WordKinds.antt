-- The columns that are decoded word by word, by width and coding.
use Rattle.std.specs.Prelude.{ℕ, cond, eqb}
use Rattle.format.specs.declared.Kind.{Kind}
use Rattle.format.specs.declared.Kind.TheVariants.{I16, I32, I64, U16, U32, U64, F16, F32, F64, MonthDayNano}
use Rattle.format.specs.declared.SortOptions.{SortOptions}
use Rattle.format.specs.declared.Column.{Column}
use Rattle.number.specs.declared.Coding.{Coding}
use Rattle.number.specs.declared.Coding.TheVariants.{Unsigned, Signed, Float}

-- one of three numbers, by coding
abbrev pick : Coding → Kind → Kind → Kind → Kind
pick Unsigned u i f = u
pick Signed u i f = i
pick Float u i f = f

-- the kind of w value bytes
abbrev pub word_kind : Coding → ℕ → Kind
word_kind c w =
    cond (eqb w 16) MonthDayNano (cond (eqb w 2) (pick c U16 I16 F16) (cond (eqb w 4) (pick c U32 I32 F32) (pick c U64 I64 F64)))

abbrev pub word_column : Coding → ℕ → SortOptions → Column
word_column c w o = record { kind = word_kind c w; options = o }
