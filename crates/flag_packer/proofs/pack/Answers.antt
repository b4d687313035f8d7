-- `flag_packer::pack` meets its contract: a byte takes eight flags more. Assumes nothing.
use Prim.Native.Nat.{◌+◌, ◌-◌, ◌*◌, ◌/◌}
use mathlib.Core.Path.{◌≡◌, refl}
use native.Mathlib.Omega.{arith}
use lib.ListN.{length}
use Rattle.flag_packer.proofs.Packing.{packing, eight, fewer, pack_more, pack_end, part_asks, part_tells}
use Rattle.flag_packer.proofs.pack.Goals as goal

pub loop-k-init : goal.loop-k-init
loop-k-init g c = λ flag t. packing flag c.args.cursors.now c.args.sheet.now c.args.at

pub pack_byte-requires-clause-may_ask : goal.pack_byte-requires-clause-may_ask
pack_byte-requires-clause-may_ask g c = part_asks c.args.cursors.now _ _ (goal.F-pre g c.args.test.now) c.requires.may_ask

pub loop-k-preserved : goal.loop-k-preserved
loop-k-preserved g c =
    let xs = c.args.cursors.now in
    let k = c.loop-k.k in
    let place : c.args.at + (k + 1) ≡ c.args.at + k + 1 = omega arith in
    let row : 8 * (k + 1) ≡ 8 * k + 8 = omega arith in
    λ flag t.
    rw (place, row)
    (pack_more (c.loop-k.invariant flag t) (omega arith) 8 (eight (length xs - 8 * k) (omega arith)) c.pack_byte.result (8 * k + 8 - 8 * k) (omega arith)
    (c.pack_byte.ensures flag (part_tells xs _ _ (goal.F-post g c.args.test.now) flag t)))

pub pack_byte-requires-2-clause-may_ask : goal.pack_byte-requires-2-clause-may_ask
pack_byte-requires-2-clause-may_ask g c = part_asks c.args.cursors.now _ _ (goal.F-pre g c.args.test.now) c.requires.may_ask

pub returns-then-n-eq0 : goal.returns-then-n-eq0
returns-then-n-eq0 g c =
    let all : c.loop-k.k ≡ length c.args.cursors.now / 8 = omega arith in
    λ flag t. pack_end (rw all at (c.loop-k.invariant flag t)) (omega arith)

pub returns : goal.returns
returns g c =
    let xs = c.args.cursors.now in
    let base = 8 * (length xs / 8) in
    let all : c.loop-k.k ≡ length xs / 8 = omega arith in
    λ flag t.
    pack_end
    (pack_more (rw all at (c.loop-k.invariant flag t)) (omega arith) (length xs - base) (fewer (length xs - base) (omega arith))
    c.pack_byte-2.result (length xs - base) refl (c.pack_byte-2.ensures flag (part_tells xs _ _ (goal.F-post g c.args.test.now) flag t)))
    (omega arith)
