-- `texts::put_refused` meets its contract: the pieces follow one another, and none is longer than its room. Assumes nothing.
use native.Mathlib.Omega.{arith}
use Rattle.texts.proofs.Written.{wrote_long}
use Rattle.texts.proofs.Refused.{number_room, refused_wrote}
use Rattle.texts.proofs.put_refused.Goals as goal

pub put_number-third-requires : goal.put_number-third-requires
put_number-third-requires c = omega (arith, number_room (c.from-numbers.result).0 32 63 c.put_number-second.ensures (omega (arith, c.put_bytes-first.ensures.place, wrote_long c.put_bytes-first.ensures, c.requires)))

pub put_number-fourth-requires : goal.put_number-fourth-requires
put_number-fourth-requires c = omega (arith, number_room (c.from-numbers.result).1 32 42 c.put_number-third.ensures ((number_room (c.from-numbers.result).0 32 63 c.put_number-second.ensures (omega (arith, c.put_bytes-first.ensures.place, wrote_long c.put_bytes-first.ensures, c.requires)))))

pub put_number-requires : goal.put_number-requires
put_number-requires c = (number_room (c.from-numbers.result).2 32 21 c.put_number-fourth.ensures ((number_room (c.from-numbers.result).1 32 42 c.put_number-third.ensures ((number_room (c.from-numbers.result).0 32 63 c.put_number-second.ensures (omega (arith, c.put_bytes-first.ensures.place, wrote_long c.put_bytes-first.ensures, c.requires)))))))

pub returns : goal.returns
returns c =
    refused_wrote (c.from-numbers.result) _ c.from-numbers.ensures c.put_bytes-first.ensures c.put_number-second.ensures
    c.put_number-third.ensures c.put_number-fourth.ensures c.put_number.ensures
