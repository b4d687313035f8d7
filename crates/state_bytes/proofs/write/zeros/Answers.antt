-- `state_bytes::write::zeros` meets its contract: the part that is filled holds zeros. Assumes nothing.
use Rattle.std.proofs.Common.{replicate, arith}
use Rattle.std.proofs.lemmas.List.Edits.{sets-eq}
use Rattle.std.proofs.lemmas.Grind.{common_steps}
use Rattle.state_bytes.proofs.write.zeros.Goals as goal

pub returns : goal.returns
returns c =
    let e = c.fill.ensures.after (λ y e. e) in
    let f = sets-eq (replicate c.args.m 0) c.args.out.now c.args.at in
    grind (arith, common_steps, e, f)
