-- `pairs::compare_sheets_listed` meets its contract: one pair is compared as many are. Assumes nothing.
use Rattle.std.proofs.lemmas.Result.{err_from_is_err_and}
use Rattle.pairs.proofs.Comparing.{one_refused, one_done}
use Rattle.pairs.proofs.compare_sheets_listed.Goals as goal

pub returns-in_err-compare_pairs_listed : goal.returns-in_err-compare_pairs_listed
returns-in_err-compare_pairs_listed c =
    let p = err_from_is_err_and c.from_residual.result c.from_residual.ensures.1 in
    λ list l.
    rw (p.1, p.2) (one_refused list _ _ _ _ _ _ _ _ _ (c.compare_pairs_listed.ensures list l) _ c.in_err-compare_pairs_listed.was)

pub returns : goal.returns
returns c =
    λ list l.
    rw c.from.ensures (one_done list _ _ _ _ _ _ _ _ _ (c.compare_pairs_listed.ensures list l) _ _ c.in_ok-compare_pairs_listed.was)
