-- `null_writer::encode_null` meets its contract: the null byte is stored as it is, then come the zeros. Assumes nothing.
use Prim.Native.Nat.{ℕ, ◌+◌}
use mathlib.Core.Path.{refl, ap, ◌∙◌}
use native.Mathlib.Omega.{arith}
use lib.ListN.{length, replicate, set, length-replicate}
use lib.Seq.{length-sets}
use Rattle.number_writer.proofs.Writing.{lead_run}
use Rattle.runs.proofs.Parts.{part_filled}
use Rattle.null_writer.proofs.encode_null.Goals as goal

pub shape_of-out : goal.shape_of-out
shape_of-out c =
    let A = c.args in
    let filled = part_filled (A.at + 1) _ A.width c.put_byte.new.out _ refl (c.fill.ensures.after (λ y e. e)) (omega (arith, c.put_byte.auto.out)) in
    ap length filled ∙ length-sets c.put_byte.new.out (A.at + 1) (replicate A.width 0) ∙ c.put_byte.auto.out

pub returns : goal.returns
returns c =
    let A = c.args in
    let filled = part_filled (A.at + 1) _ A.width c.put_byte.new.out _ refl (c.fill.ensures.after (λ y e. e)) (omega (arith, c.put_byte.auto.out)) in
    lead_run A.out.now A.at _ (replicate A.width 0) _ _ _
    (c.put_byte.ensures ∙ ap (set A.out.now A.at) c.null_sentinel.ensures) filled
    (omega (arith, length-replicate {A = ℕ} A.width 0))
