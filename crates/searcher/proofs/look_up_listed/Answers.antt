-- `searcher::look_up_listed` meets its contract: each refusal is that of the checks that led there. The ways out stand first, then
-- what the calls ask. Assumes nothing.
use mathlib.Core.Path.{sym, ◌∙◌}
use Rattle.std.proofs.lemmas.Result.{err_from_is_err_and}
use Rattle.searcher.proofs.LookingUp.{sorted_passed, bad_list, limited, bad_key, bad_batch, looked_up}
use Rattle.searcher.proofs.look_up_listed.Goals as goal

pub returns-in_err-schema : goal.returns-in_err-schema
returns-in_err-schema c =
    let p = err_from_is_err_and c.from_residual.result c.from_residual.ensures.1 in
    λ list l.
    rw (p.1, p.2) (bad_list list _ _ _ _ _ _ l _ c.in_err-schema.was)

pub check_key-requires : goal.check_key-requires
check_key-requires c =
    limited _ c.args.k c.args.key.now c.args.n c.args.rows.now c.args.offsets.now c.args.listed c.requires.says _ c.in_ok-schema.was

pub returns-in_err-check_key : goal.returns-in_err-check_key
returns-in_err-check_key c =
    let p = err_from_is_err_and c.from_residual-in_err-check_key.result c.from_residual-in_err-check_key.ensures.1 in
    λ list l.
    rw (p.1, p.2) (bad_key list _ _ _ _ _ _ l _ c.in_ok-schema.was _ c.check_key.ensures _ c.in_err-check_key.was)

pub check_batch-requires : goal.check_batch-requires
check_batch-requires c =
    limited _ c.args.k c.args.key.now c.args.n c.args.rows.now c.args.offsets.now c.args.listed c.requires.says _ c.in_ok-schema.was

pub returns-in_err-check_batch : goal.returns-in_err-check_batch
returns-in_err-check_batch c =
    let p = err_from_is_err_and c.from_residual-in_err-check_batch.result c.from_residual-in_err-check_batch.ensures.1 in
    λ list l.
    rw (p.1, p.2) (bad_batch list _ _ _ _ _ _ l _ c.in_ok-schema.was _ c.check_key.ensures c.in_ok-check_key.was _
    c.check_batch.ensures _ c.in_err-check_batch.was)

pub find-found-requires : goal.find-found-requires
find-found-requires c = sorted_passed _ _ _ _ (sym c.check_batch.ensures ∙ c.in_ok-check_batch.was)

pub returns : goal.returns
returns c =
    λ list l.
    looked_up list _ _ _ _ _ _ l _ c.in_ok-schema.was _ c.check_key.ensures c.in_ok-check_key.was _
    c.check_batch.ensures c.in_ok-check_batch.was _ c.find-found.ensures
