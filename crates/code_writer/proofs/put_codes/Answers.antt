use native.Mathlib.Omega.{arith}
use Rattle.basics.proofs.Append.{turns_begin}
use Rattle.code_writer.proofs.CodesPut.{put_more, put_end}
use Rattle.code_writer.proofs.put_codes.Goals as goal

pub loop-i-init : goal.loop-i-init
loop-i-init c = turns_begin _ _ _ 0

pub overflow_mul-i : goal.overflow_mul-i
overflow_mul-i c = omega (arith, c.in_use-used.ensures.long, c.requires.count_le_max_columns)

pub put_code-requires : goal.put_code-requires
put_code-requires c =
    omega (
      arith,
      c.in_use-used.ensures.long,
      c.requires.count_in_bounds,
      c.loop-i.invariant.1.same,
    )

pub loop-i-preserved : goal.loop-i-preserved
loop-i-preserved c =
    put_more c.in_use-used.result.now _ _ _ _ _ c.loop-i.invariant c.loop-i-test.true c.put_code.ensures

pub shape_of-out : goal.shape_of-out
shape_of-out c = c.loop-i.invariant.1.same

pub returns : goal.returns
returns c =
    rw (← c.in_use-used.ensures.says) (put_end c.in_use-used.result.now _ _ _ c.loop-i.invariant c.loop-i-test.false (omega (arith, c.in_use-used.ensures.long, c.requires.count_in_bounds)))
