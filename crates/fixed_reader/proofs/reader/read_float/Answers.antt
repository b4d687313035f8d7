-- `fixed_reader::reader::read_float` meets its contract: the answer for plain bytes, but for those of a float that is not folded where the
-- column folds. Assumes nothing.
use mathlib.Core.Path.{refl, sym, ap, ◌∙◌}
use Rattle.std.proofs.lemmas.Result.{err_from_is_err_and}
use Rattle.format.specs.Kinds.{float, plain}
use Rattle.fixed_reader.proofs.Beside.{is_value, has_value, no_value, plain_shape, none_alike, value_whole, value_unfolded, value_good}
use Rattle.fixed_reader.proofs.reader.read_float.Goals as goal

pub may_stand-requires-clause-width_in_bounds : goal.may_stand-requires-clause-width_in_bounds
may_stand-requires-clause-width_in_bounds c =
    let w = c.args.width in
    value_whole (float w) c.args.options c.args.row.now _ (c.read.ensures (plain w) (plain_shape w) refl)
    (ap has_value c.in_ok-field.was ∙ ap is_value c.in-Some.is)

pub returns-then-not-may_stand : goal.returns-then-not-may_stand
returns-then-not-may_stand c =
    let w = c.args.width in
    value_unfolded (float w) c.args.options c.args.row.now _ (c.read.ensures (plain w) (plain_shape w) refl)
    (ap has_value c.in_ok-field.was ∙ ap is_value c.in-Some.is) refl (sym c.may_stand.ensures ∙ c.if-not-may_stand.true)

pub returns-else-not-may_stand : goal.returns-else-not-may_stand
returns-else-not-may_stand c =
    let w = c.args.width in
    sym c.in_ok-field.was
    ∙ value_good (float w) c.args.options c.args.row.now _ (c.read.ensures (plain w) (plain_shape w) refl)
    (ap has_value c.in_ok-field.was ∙ ap is_value c.in-Some.is) refl (sym c.may_stand.ensures ∙ c.if-not-may_stand.false)

pub returns-in_default : goal.returns-in_default
returns-in_default c =
    let w = c.args.width in
    sym c.in_ok-field.was
    ∙ none_alike (float w) c.args.options c.args.row.now _ (c.read.ensures (plain w) (plain_shape w) refl)
    (ap has_value c.in_ok-field.was ∙ no_value _ c.in_default.not-Some)

pub returns-in_err-field : goal.returns-in_err-field
returns-in_err-field c =
    let w = c.args.width in
    let p = err_from_is_err_and c.from_residual.result c.from_residual.ensures.1 in
    rw (p.1, p.2)
    (sym c.in_err-field.was
    ∙ none_alike (float w) c.args.options c.args.row.now _ (c.read.ensures (plain w) (plain_shape w) refl) (ap has_value c.in_err-field.was))
