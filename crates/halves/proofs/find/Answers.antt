-- `halves::find` meets its contract: where the two tests turn are the two numbers. Assumes nothing.
use Rattle.std.proofs.Common.{rules}
use Rattle.halves.specs.Turns.{reached, passed}
use Rattle.halves.proofs.Fronts.{reached_rises, passed_rises}
use Rattle.halves.proofs.Places.{places}
use Rattle.halves.proofs.find.Goals as goal

pub returns : goal.returns
returns c =
    let key = c.args.key.now in
    let first = c.search-first.ensures (reached key) (λ row answer says. search rules) (reached_rises key) in
    let past = c.search-past.ensures (passed key) (λ row answer says. search rules) (passed_rises key) in
    let p = places key _ _ _ first past in
    record { first = p.0; past = p.1 }
