-- The byte that is read does one turn's step, and the turns so far leave the walk's state and its ends. Assumes nothing.
use Prim.Native.Nat.{ℕ}
use mathlib.Core.Path.{◌≡◌}
use native.Mathlib.Omega.{arith}
use Rattle.basics.proofs.Bytes.{bytes_of}
use Rattle.laws.proofs.InUse.{columns_room}
use Rattle.cutter_walk.proofs.Walking.{turn_begins, standing, one_byte, turn_goes, turn_ends, turn_stops}
use Rattle.cutter_walk.proofs.walk.by_bytes.Goals as goal
use Rattle.cutter_walk.proofs.walk.by_bytes.Goals.{in-Going, in-Ended}

pub loop-i-init : goal.loop-i-init
loop-i-init c =
    let a = c.args in
    turn_begins a.schema a.place a.piece.now a.from a.found a.ends.now (columns_room a.schema c.well_formed.0) c.requires.place_value
    c.requires.found_le_from c.requires.from_in_bounds

pub offset_bounds-columns-c : goal.offset_bounds-columns-c
offset_bounds-columns-c c = let t = standing c.args.schema c.loop-i.at c.loop-i.invariant.kept in omega (arith, t.here, t.few)

pub bounds-columns-c : goal.bounds-columns-c
bounds-columns-c c = let t = standing c.args.schema c.loop-i.at c.loop-i.invariant.kept in omega (arith, t.here, t.few)

pub step-turn-requires : goal.step-turn-requires
step-turn-requires c = standing c.args.schema c.loop-i.at c.loop-i.invariant.kept

pub returns-in-Stopped : goal.returns-in-Stopped
returns-in-Stopped c = record {
  goes =
      turn_stops c.loop-i.invariant (bytes_of c.args.piece.now (λ i. (c.type_inv.piece i).fits)) _
      (one_byte _ c.args.schema.count c.loop-i.at c.args.piece.now c.loop-i.i _ c.loop-i-test.true c.step-turn.ensures) _ _ _ c.in-Stopped.is;
  halts = λ e. absurd (let z : ◌≡◌ {A = ℕ} 0 1 = cc in omega arith);
}

pub loop-i-preserved : goal.loop-i-preserved
loop-i-preserved c =
    let bytes = bytes_of c.args.piece.now (λ i. (c.type_inv.piece i).fits) in
    let byte = one_byte _ c.args.schema.count c.loop-i.at c.args.piece.now c.loop-i.i _ c.loop-i-test.true c.step-turn.ensures in
    elim c.match-turn.branch [
      | in-Going w ↦ turn_goes c.loop-i.invariant bytes _ byte _ w.in-Going.is w.ends-is w.at-is w.n-is
      | in-Ended w ↦ turn_ends c.loop-i.invariant bytes _ byte _ c.if-ends-n.false w.in-Ended.is w.ends-is w.at-is w.n-is
    ]
