-- The field that is read does one turn's step, and the turns so far leave the walk's state and its ends. Assumes nothing.
use Prim.Native.Nat.{ℕ}
use mathlib.Core.Path.{◌≡◌, subst}
use mathlib.Core.List.{List}
use native.Mathlib.Omega.{arith}
use Rattle.format.specs.declared.Schema.{Schema}
use Rattle.format.specs.declared.Spot.TheVariants.{Start}
use Rattle.basics.proofs.Bytes.{bytes_of}
use Rattle.laws.proofs.InUse.{columns_room}
use Rattle.cutter_step.specs.declared.Place.{Place}
use Rattle.cutter_walk.specs.declared.Walked.{Walked}
use Rattle.cutter_walk.specs.Walks.{Goes}
use Rattle.cutter_walk.proofs.Walking.{standing}
use Rattle.cutter_walk.proofs.Fields.{field_at, limited, fields_begin, place_starts, fields_standing, fields_leave, fields_some, fields_inside, fields_left, fields_go, fields_end, fields_stop}
use Rattle.cutter_walk.proofs.walk.by_fields.Goals as goal

-- from the place that the walk was handed
from_place : {schema : Schema} (p : Place) {piece : List ℕ} {i n : ℕ} {ends₀ : List ℕ} (r : Walked) (ends : List ℕ) → p.spot ≡ Start
    → Goes schema (field_at p.rows p.bytes p.row p.column) piece i n ends₀ r ends → Goes schema p piece i n ends₀ r ends
from_place {schema} p {piece} {i} {n} {ends₀} r ends e g = subst (λ (q : Place). Goes schema q piece i n ends₀ r ends) (place_starts p e) g

pub open_bytes-requires : goal.open_bytes-requires
open_bytes-requires c = (standing c.args.schema c.args.place (columns_room c.args.schema c.well_formed.0, c.requires.place_value)).bytes

pub plain_lengths-lengths-requires : goal.plain_lengths-lengths-requires
plain_lengths-lengths-requires c = limited c.args.schema c.args.place (columns_room c.args.schema c.well_formed.0) c.requires.place_value

pub loop-i-init : goal.loop-i-init
loop-i-init c =
    let a = c.args in
    let q = c.requires in
    fields_begin a.schema a.place a.piece.now a.from a.found a.ends.now _ (columns_room a.schema c.well_formed.0) q.place_value q.spot_value
    q.found_le_from q.from_in_bounds c.open_bytes.ensures.0 c.open_bytes.ensures.1

pub returns-then-ends-n : goal.returns-then-ends-n
returns-then-ends-n c = from_place c.args.place _ _ c.requires.spot_value (fields_leave c.loop-i.invariant _ c.walked.ensures)

pub offset_bounds-columns-c : goal.offset_bounds-columns-c
offset_bounds-columns-c c = let t = fields_standing c.loop-i.invariant in omega (arith, t.here, t.few)

pub bounds-columns-c : goal.bounds-columns-c
bounds-columns-c c = let t = fields_standing c.loop-i.invariant in omega (arith, t.here, t.few)

pub offset_bounds-lengths-c : goal.offset_bounds-lengths-c
offset_bounds-lengths-c c = let t = fields_standing c.loop-i.invariant in omega (arith, t.here, t.few)

pub bounds-lengths-c : goal.bounds-lengths-c
bounds-lengths-c c = let t = fields_standing c.loop-i.invariant in omega (arith, t.here, t.few)

pub quick_field-requires : goal.quick_field-requires
quick_field-requires c = c.plain_lengths-lengths.ensures _ (fields_standing c.loop-i.invariant).here

pub fault_shown-check-requires : goal.fault_shown-check-requires
fault_shown-check-requires c =
    let w = c.loop-i.invariant in
    let l = fields_left w (bytes_of c.args.piece.now (λ i. (c.type_inv.piece i).fits)) c.loop-i-test.true _ c.in-Err.ensures in
    (l, omega (arith, (fields_standing w).row, w.room))

pub returns-in-Err : goal.returns-in-Err
returns-in-Err c =
    from_place c.args.place _ _ c.requires.spot_value
    (fields_stop c.loop-i.invariant (bytes_of c.args.piece.now (λ i. (c.type_inv.piece i).fits)) c.loop-i-test.true _ c.in-Err.ensures _ _
    c.fault_shown-check.ensures c.walked-in-Err.ensures)

pub overflow_add-bytes : goal.overflow_add-bytes
overflow_add-bytes c =
    let l = fields_inside c.loop-i.invariant (bytes_of c.args.piece.now (λ i. (c.type_inv.piece i).fits)) _ c.in-Ok.ensures in
    omega (arith, c.loop-i.invariant.room)

pub overflow_add-i : goal.overflow_add-i
overflow_add-i c =
    let l = fields_inside c.loop-i.invariant (bytes_of c.args.piece.now (λ i. (c.type_inv.piece i).fits)) _ c.in-Ok.ensures in
    omega (arith, c.loop-i.invariant.short, c.loop-i.invariant.last)

pub overflow_add-row : goal.overflow_add-row
overflow_add-row c =
    let w = c.loop-i.invariant in
    let l = fields_inside w (bytes_of c.args.piece.now (λ i. (c.type_inv.piece i).fits)) _ c.in-Ok.ensures in
    omega (arith, (fields_standing w).row, w.room)

pub overflow_add-rows : goal.overflow_add-rows
overflow_add-rows c = let t = fields_standing c.loop-i.invariant in omega (arith, t.rows, t.bytes)

pub overflow_add-c : goal.overflow_add-c
overflow_add-c c = let t = fields_standing c.loop-i.invariant in omega (arith, t.here, t.few)

pub overflow_add-c-then-c-count : goal.overflow_add-c-then-c-count
overflow_add-c-then-c-count c = let t = fields_standing c.loop-i.invariant in omega (arith, t.here, t.few)

pub loop-i-smaller-then-c-count : goal.loop-i-smaller-then-c-count
loop-i-smaller-then-c-count c = omega (arith, fields_some c.loop-i.invariant (bytes_of c.args.piece.now (λ i. (c.type_inv.piece i).fits)) _ c.in-Ok.ensures)

pub loop-i-preserved-then-c-count : goal.loop-i-preserved-then-c-count
loop-i-preserved-then-c-count c =
    fields_go c.loop-i.invariant (bytes_of c.args.piece.now (λ i. (c.type_inv.piece i).fits)) _ c.in-Ok.ensures c.if-c-count.true

pub loop-i-smaller : goal.loop-i-smaller
loop-i-smaller c = omega (arith, fields_some c.loop-i.invariant (bytes_of c.args.piece.now (λ i. (c.type_inv.piece i).fits)) _ c.in-Ok.ensures)

pub loop-i-preserved : goal.loop-i-preserved
loop-i-preserved c =
    fields_end c.loop-i.invariant (bytes_of c.args.piece.now (λ i. (c.type_inv.piece i).fits)) _ c.in-Ok.ensures c.if-c-count.false
    c.if-ends-n.false

pub returns : goal.returns
returns c = from_place c.args.place _ _ c.requires.spot_value (fields_leave c.loop-i.invariant _ c.walked-2.ensures)
