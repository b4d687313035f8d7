-- `sized_join::join_with` meets its contract: the numbers are enough. Assumes nothing.
use Rattle.std.proofs.Common.{rules}
use Rattle.basics.proofs.Bytes.{bytes_of}
use Rattle.sized_join.proofs.Joins.{join_long}
use Rattle.sized_join.proofs.join_with.Goals as goal

pub returns : goal.returns
returns c =
    let args = c.args in
    let p = c.requires.joinable in
    join_long args.n0 args.rows0.now args.offsets0.now args.f p.first_used
    args.n1 args.rows1.now args.offsets1.now args.s p.second_used
    args.order.now args.k _ args.answer.now _ c.join_bytes-r.result
    (bytes_of args.order.now (λ i. search rules)) p.entries_used
    p.long c.put_answer.ensures (search rules)
