-- `fixed_reader::reader::read_boolean` meets its contract: the answer for a plain byte, but for a value byte that no bool has.
-- Assumes nothing.
use mathlib.Core.Path.{refl, sym, ap, ◌∙◌}
use lib.ListN.{get_or}
use native.Mathlib.Omega.{arith}
use Rattle.std.proofs.lemmas.Result.{err_from_is_err_and}
use Rattle.format.specs.Kinds.{bool, plain}
use Rattle.laws.proofs.Directed.{turned as turned-byte}
use Rattle.fixed_reader.proofs.Beside.{is_value, has_value, no_value, plain_shape, none_alike, value_whole, bool_bad, bool_good}
use Rattle.fixed_reader.proofs.reader.read_boolean.Goals as goal

pub bounds-row-1 : goal.bounds-row-1
bounds-row-1 c =
    value_whole bool c.args.options c.args.row.now _ (c.read.ensures (plain 1) (plain_shape 1) refl)
    (ap has_value c.in_ok-field.was ∙ ap is_value c.in-Some.is)

pub overflow_sub-result : goal.overflow_sub-result
overflow_sub-result c =
    let whole = value_whole bool c.args.options c.args.row.now _ (c.read.ensures (plain 1) (plain_shape 1) refl)
    (ap has_value c.in_ok-field.was ∙ ap is_value c.in-Some.is) in
    omega (arith, whole)

pub returns-then-directed-gt1 : goal.returns-then-directed-gt1
returns-then-directed-gt1 c =
    let A = c.args in
    bool_bad A.options A.row.now _ (c.read.ensures (plain 1) (plain_shape 1) refl) (ap has_value c.in_ok-field.was ∙ ap is_value c.in-Some.is) _
    (turned-byte A.options.descending (get_or A.row.now 1 0) _ (c.type_inv.row 1).fits c.directed.type_inv c.directed.ensures)
    c.if-directed-gt1.true

pub returns-else-directed-gt1 : goal.returns-else-directed-gt1
returns-else-directed-gt1 c =
    let A = c.args in
    sym c.in_ok-field.was
    ∙ bool_good A.options A.row.now _ (c.read.ensures (plain 1) (plain_shape 1) refl) (ap has_value c.in_ok-field.was ∙ ap is_value c.in-Some.is) _
    (turned-byte A.options.descending (get_or A.row.now 1 0) _ (c.type_inv.row 1).fits c.directed.type_inv c.directed.ensures)
    c.if-directed-gt1.false

pub returns-in_default : goal.returns-in_default
returns-in_default c =
    let A = c.args in
    sym c.in_ok-field.was
    ∙ none_alike bool A.options A.row.now _ (c.read.ensures (plain 1) (plain_shape 1) refl)
    (ap has_value c.in_ok-field.was ∙ no_value _ c.in_default.not-Some)

pub returns-in_err-field : goal.returns-in_err-field
returns-in_err-field c =
    let A = c.args in
    let p = err_from_is_err_and c.from_residual.result c.from_residual.ensures.1 in
    rw (p.1, p.2)
    (sym c.in_err-field.was
    ∙ none_alike bool A.options A.row.now _ (c.read.ensures (plain 1) (plain_shape 1) refl) (ap has_value c.in_err-field.was))
