-- `batch_reader::check_rows` meets its contract: what the offsets' check and the walk ensure, put together. Assumes nothing.
use mathlib.Core.Path.{sym, ◌∙◌}
use Rattle.std.proofs.lemmas.Result.{err_from_is_err_and}
use Rattle.format.specs.Schemas.{cols_of}
use Rattle.basics.proofs.Bytes.{bytes_of}
use Rattle.laws.proofs.Cuts.{offsets_passed, cuts_lie}
use Rattle.batch_reader.proofs.Batches.{refused, bad_rows, walked}
use Rattle.batch_reader.proofs.batch.check_rows.Goals as goal

pub returns-in_err-check_offsets : goal.returns-in_err-check_offsets
returns-in_err-check_offsets c =
    let p = err_from_is_err_and c.from_residual.result c.from_residual.ensures.1 in
    rw (p.1, p.2) (refused _ _ _ _ (sym c.check_offsets.ensures ∙ c.in_err-check_offsets.was))

pub check_fields-requires-clause-all_lie : goal.check_fields-requires-clause-all_lie
check_fields-requires-clause-all_lie c =
    let A = c.args in
    cuts_lie (offsets_passed A.n A.rows.now A.offsets.now (sym c.check_offsets.ensures ∙ c.in_ok-check_offsets.was))

pub returns-in_err-data : goal.returns-in_err-data
returns-in_err-data c =
    let p = err_from_is_err_and c.from_residual-in_err-data.result c.from_residual-in_err-data.ensures.1 in
    rw (p.1, p.2) (let A = c.args in
    bad_rows A.n (cols_of A.schema) A.rows.now A.offsets.now (bytes_of A.rows.now (λ i. (c.type_inv.rows i).fits))
    (sym c.check_offsets.ensures ∙ c.in_ok-check_offsets.was) _ c.check_fields.ensures c.in_err-data.was)

pub returns : goal.returns
returns c =
    let A = c.args in
    walked A.n (cols_of A.schema) A.rows.now A.offsets.now (bytes_of A.rows.now (λ i. (c.type_inv.rows i).fits))
    (sym c.check_offsets.ensures ∙ c.in_ok-check_offsets.was) _ c.check_fields.ensures _ c.in_ok-data.was
    c.frames.result c.frames.ensures.0
