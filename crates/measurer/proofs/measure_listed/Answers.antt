-- `measurer::measure_listed` meets its contract: what `measure_batch` ensures, then 12. Assumes nothing.
use mathlib.Core.Path.{sym, ◌∙◌}
use Rattle.std.proofs.lemmas.Result.{err_from_is_err_and}
use Rattle.measurer.proofs.Batches.{bad_batch, heavy, light}
use Rattle.measurer.proofs.measure_listed.Goals as goal

pub returns-in_err-m : goal.returns-in_err-m
returns-in_err-m c =
    let p = err_from_is_err_and c.from_residual.result c.from_residual.ensures.1 in
    λ list l.
    rw (p.1, p.2) (bad_batch list _ _ _ (c.measure_batch.ensures list l) _ c.in_err-m.was)

pub returns-in_err-total_fault : goal.returns-in_err-total_fault
returns-in_err-total_fault c =
    let p = err_from_is_err_and c.from_residual-in_err-total_fault.result c.from_residual-in_err-total_fault.ensures.1 in
    λ list l.
    rw (p.1, p.2) (heavy list _ _ _ (c.measure_batch.ensures list l) _ c.in_ok-m.was _ (sym c.total_fault.ensures ∙ c.in_err-total_fault.was))

pub returns : goal.returns
returns c =
    λ list l.
    light list _ _ _ (c.measure_batch.ensures list l) _ c.in_ok-m.was (sym c.total_fault.ensures ∙ c.in_ok-total_fault.was)
