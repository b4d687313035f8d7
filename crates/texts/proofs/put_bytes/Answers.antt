-- `texts::put_bytes` meets its contract: the part that is written over holds the text. Assumes nothing.
use Rattle.std.proofs.Common.{refl, arith}
use Rattle.std.proofs.lemmas.List.Edits.{sets-eq}
use Rattle.std.proofs.lemmas.Grind.{common_steps}
use Rattle.texts.proofs.put_bytes.Goals as goal

pub returns : goal.returns
returns c =
    let e = c.copy_from_slice.ensures.after in
    let f = sets-eq c.args.text.now c.args.out.now c.args.at in
    record { place = refl; bytes = grind (arith, common_steps, e, f) }
