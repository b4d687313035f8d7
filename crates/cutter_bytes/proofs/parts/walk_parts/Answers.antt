-- A turn's walk takes some bytes more, and the ends in them are stored. Assumes nothing.
use Prim.Native.Nat.{◌+◌, ◌-◌, ◌*◌}
use mathlib.Core.Path.{ap}
use native.Mathlib.Omega.{arith}
use lib.ListN.{length, drop, length-drop}
use lib.Seq.{length-take-le}
use Rattle.format.specs.Check.{Check}
use Rattle.basics.proofs.Bytes.{bytes_of}
use Rattle.cutter_walk.specs.Walks.{walked_to}
use Rattle.cutter_bytes.proofs.Parting.{took, stored_begin, stored_is, stored_keeps, turn, walks_whole, walks_refused}
use Rattle.cutter_bytes.proofs.parts.walk_parts.Goals as goal

pub loop-i-init : goal.loop-i-init
loop-i-init c = let a = c.args in record { within = omega arith; stored = stored_begin a.schema a.place a.piece.now a.ends.now }

pub walk-walked-requires : goal.walk-walked-requires
walk-walked-requires c =
    let a = c.args in
    stored_keeps a.schema a.place a.piece.now a.ends.now c.well_formed.0 (bytes_of a.piece.now (λ j. (c.type_inv.piece j).fits)) c.requires.place_value
    _ _ _ _ c.loop-i.invariant.stored

pub overflow_mul-from : goal.overflow_mul-from
overflow_mul-from c =
    let a = c.args in
    let l = c.loop-i in
    let t = turn a.schema a.place a.piece.now a.ends.now l.at l.numbers c.walk-walked.result c.walk-walked.new.ends
    l.invariant.within c.requires.piece_in_bounds l.invariant.stored c.walk-walked.ensures.walked_on in
    omega (arith, t.room, l.invariant.stored.long)

pub slice_bounds-write_offsets-count : goal.slice_bounds-write_offsets-count
slice_bounds-write_offsets-count c =
    let a = c.args in
    let l = c.loop-i in
    let t = turn a.schema a.place a.piece.now a.ends.now l.at l.numbers c.walk-walked.result c.walk-walked.new.ends
    l.invariant.within c.requires.piece_in_bounds l.invariant.stored c.walk-walked.ensures.walked_on in
    omega (arith, t.room)

pub slice_bounds-write_offsets-start : goal.slice_bounds-write_offsets-start
slice_bounds-write_offsets-start c =
    let a = c.args in
    let l = c.loop-i in
    let t = turn a.schema a.place a.piece.now a.ends.now l.at l.numbers c.walk-walked.result c.walk-walked.new.ends
    l.invariant.within c.requires.piece_in_bounds l.invariant.stored c.walk-walked.ensures.walked_on in
    omega (arith, t.room)

pub write_offsets-requires : goal.write_offsets-requires
write_offsets-requires c =
    let a = c.args in
    let l = c.loop-i in
    let t = turn a.schema a.place a.piece.now a.ends.now l.at l.numbers c.walk-walked.result c.walk-walked.new.ends
    l.invariant.within c.requires.piece_in_bounds l.invariant.stored c.walk-walked.ensures.walked_on in
    omega (
      arith,
      t.room,
      length-take-le c.walk-walked.result.ends c.walk-walked.new.ends t.fit,
      length-take-le (length l.ends - 8 * l.n) (drop (8 * l.n) l.ends) (omega (arith, length-drop (8 * l.n) l.ends)),
    )

pub overflow_add-n : goal.overflow_add-n
overflow_add-n c =
    let a = c.args in
    let l = c.loop-i in
    let t = turn a.schema a.place a.piece.now a.ends.now l.at l.numbers c.walk-walked.result c.walk-walked.new.ends
    l.invariant.within c.requires.piece_in_bounds l.invariant.stored c.walk-walked.ensures.walked_on in
    omega (arith, t.room, l.invariant.stored.long)

pub returns-in-Err : goal.returns-in-Err
returns-in-Err c =
    let a = c.args in
    let l = c.loop-i in
    let t = turn a.schema a.place a.piece.now a.ends.now l.at l.numbers c.walk-walked.result c.walk-walked.new.ends
    l.invariant.within c.requires.piece_in_bounds l.invariant.stored c.walk-walked.ensures.walked_on in
    walks_refused a.schema a.place a.piece.now a.ends.now _ _ _ _ _ _ _ (t.stored _ c.write_offsets.ensures)
    (ap (λ (d : Check). walked_to d a.schema c.walk-walked.result.place) c.in-Err.is)

pub loop-i-preserved : goal.loop-i-preserved
loop-i-preserved c =
    let a = c.args in
    let l = c.loop-i in
    let t = turn a.schema a.place a.piece.now a.ends.now l.at l.numbers c.walk-walked.result c.walk-walked.new.ends
    l.invariant.within c.requires.piece_in_bounds l.invariant.stored c.walk-walked.ensures.walked_on in
    let read = ap (λ (d : Check). l.i + took d c.walk-walked.result.read (length a.piece.now - l.i)) c.in_default.is in
    let passes = ap (λ (d : Check). walked_to d a.schema c.walk-walked.result.place) c.in_default.is in
    record {
      within = omega (arith, t.within, read);
      stored = stored_is a.schema a.place a.piece.now a.ends.now _ _ _ _ _ _ read passes (t.stored _ c.write_offsets.ensures);
    }

pub returns : goal.returns
returns c =
    let a = c.args in
    walks_whole a.schema a.place a.piece.now a.ends.now _ _ _ _ c.loop-i.invariant.stored c.loop-i-test.false
