-- `flag_packer::pack_byte` meets its contract: the byte has room for a flag more, and has it. Assumes nothing.
use Prim.Native.Nat.{ℕ, ◌+◌, ◌^◌}
use mathlib.Core.Path.{ap₂, ◌∙◌}
use mathlib.Core.Bool.{Bool, cond}
use Rattle.flag_packer.proofs.Packing.{room_more, byte_more}
use Rattle.flag_packer.proofs.pack_byte.Goals as goal

pub put_bit-byte-requires-clause-b_bound : goal.put_bit-byte-requires-clause-b_bound
put_bit-byte-requires-clause-b_bound g c = c.loop-k.invariant.0

pub loop-k-preserved : goal.loop-k-preserved
loop-k-preserved g c =
    let l = c.loop-k in (
      rw c.put_bit-byte.ensures (room_more l.byte l.k c.test-on.result l.invariant.0),
      λ flag t.
          c.put_bit-byte.ensures
          ∙ ap₂ (λ (b : ℕ) (on : Bool). b + cond on (2 ^ l.k) 0) (l.invariant.1 flag t) (t l.k c.loop-k-test.true _ c.test-on.ensures)
          ∙ byte_more flag c.args.cursors.now l.k c.loop-k-test.true,
    )
