-- `value_moves::value_byte` meets its contract: each kind by its shape. Assumes nothing.
use mathlib.Core.Path.{refl, ap, sym, ◌∙◌}
use mathlib.Core.Logic.{inl, inr}
use native.Mathlib.Omega.{arith}
use Rattle.format.specs.declared.Spot.TheVariants.{Value}
use Rattle.format.specs.Kinds.{Shape, shape}
use Rattle.format.specs.Cutter.{move}
use Rattle.basics.proofs.Sorts.{PlainArm}
use Rattle.value_moves.proofs.Arms.{plain_kind, value_inside, float_kept, value_told}
use Rattle.value_moves.proofs.value_byte.Goals as goal

pub float_byte-requires : goal.float_byte-requires
float_byte-requires c =
    let a = c.args in
    let k = float_kept 2 a.options.fold a.at a.seen a.spelt c.in-F16.is refl c.requires.spelt_value in
    record { fact = inl refl; seen_lt_width = k.0; spelt_value = k.1; seen_le_at = c.requires.seen_le_at }

pub float_byte-requires-in-F32 : goal.float_byte-requires-in-F32
float_byte-requires-in-F32 c =
    let a = c.args in
    let k = float_kept 4 a.options.fold a.at a.seen a.spelt c.in-F32.is refl c.requires.spelt_value in
    record { fact = inr (inl refl); seen_lt_width = k.0; spelt_value = k.1; seen_le_at = c.requires.seen_le_at }

pub float_byte-requires-in-F64 : goal.float_byte-requires-in-F64
float_byte-requires-in-F64 c =
    let a = c.args in
    let k = float_kept 8 a.options.fold a.at a.seen a.spelt c.in-F64.is refl c.requires.spelt_value in
    record { fact = inr (inr refl); seen_lt_width = k.0; spelt_value = k.1; seen_le_at = c.requires.seen_le_at }

pub plain_byte-requires : goal.plain_byte-requires
plain_byte-requires c =
    let a = c.args in
    omega (arith, c.width.ensures, value_inside (shape a.kind) a.options.fold a.at a.seen a.spelt c.requires.spelt_value)

pub returns-in-Bool : goal.returns-in-Bool
returns-in-Bool c =
    let a = c.args in
    c.boolean_byte.ensures a.spelt ∙ value_told a.options a.seen a.spelt a.at a.byte c.in-Bool.is

pub returns-in-F16 : goal.returns-in-F16
returns-in-F16 c =
    let a = c.args in
    c.float_byte.ensures ∙ value_told a.options a.seen a.spelt a.at a.byte c.in-F16.is

pub returns-in-F32 : goal.returns-in-F32
returns-in-F32 c =
    let a = c.args in
    c.float_byte-in-F32.ensures ∙ value_told a.options a.seen a.spelt a.at a.byte c.in-F32.is

pub returns-in-F64 : goal.returns-in-F64
returns-in-F64 c =
    let a = c.args in
    c.float_byte-in-F64.ensures ∙ value_told a.options a.seen a.spelt a.at a.byte c.in-F64.is

pub returns-in-Variable : goal.returns-in-Variable
returns-in-Variable c =
    let a = c.args in
    value_told a.options a.seen a.spelt a.at a.byte c.in-Variable.is

pub returns-in_default : goal.returns-in_default
returns-in_default c =
    let a = c.args in
    let d = c.in_default in
    let arm : PlainArm a.kind =
    record { no_bool = d.not-Bool; no_half = d.not-F16; no_single = d.not-F32; no_double = d.not-F64; no_variable = d.not-Variable } in
    let k = plain_kind a.kind _ a.options.fold arm c.width.ensures in
    c.plain_byte.ensures k.0 a.spelt k.2 ∙ ap (λ (sh : Shape). move sh a.options (Value a.seen a.spelt) a.at a.byte) (sym k.1)
