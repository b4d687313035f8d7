-- `sized_look_up::look_up_with` meets its contract: the numbers are enough. Assumes nothing.
use Rattle.sized_look_up.proofs.LookUps.{look_up_long}
use Rattle.sized_look_up.proofs.look_up_with.Goals as goal

pub returns : goal.returns
returns c =
    let args = c.args in
    λ list l.
    look_up_long args.answer.now _ c.look_up_listed-r.result c.requires.long c.put_answer.ensures
    list args.k args.key.now args.n args.rows.now args.offsets.now _ _ c.requires.used c.read_offsets.ensures (c.look_up_listed-r.ensures list l)
