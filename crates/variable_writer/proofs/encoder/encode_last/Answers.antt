use Prim.Native.Nat.{ℕ, ◌+◌, ◌-◌, ◌*◌}
use mathlib.Core.Path.{◌≡◌}
use mathlib.Core.Path.{sym, ap, ◌∙◌}
use mathlib.Core.List.{List}
use native.Mathlib.Omega.{arith}
use lib.ListN.{length, take, drop, length-drop}
use lib.Seq.{drop-drop}
use Rattle.format.specs.Lists.{low}
use Rattle.basics.proofs.Bytes.{bytes_drop, bytes_of}
use Rattle.variable_writer.proofs.Writing.{fill_start, fill_word, fill_end, fill_whole}
use Rattle.variable_writer.proofs.encoder.encode_last.Goals as goal

pub loop-k-init : goal.loop-k-init
loop-k-init c = fill_start _ _ _ _ _ _ _ (omega arith)

pub put-requires-in-loop-k : goal.put-requires-in-loop-k
put-requires-in-loop-k c =
    omega (arith, c.loop-k.invariant.wrote.same, c.put.auto.out)

pub loop-k-preserved : goal.loop-k-preserved
loop-k-preserved c =
    let word = c.padded_word-word in
    let A = c.args in
    let k = c.loop-k.k in
    let next : 8 * (k + 1) ≡ 8 * k + 8 = omega arith in
    rw (next, c.put-in-loop-k.ensures)
    (fill_word c.loop-k.invariant 8 word.result c.directed-in-loop-k.result (omega arith)
    (bytes_drop A.from A.val.now (bytes_of A.val.now (λ i. (c.type_inv.val i).fits)))
    (word.ensures ∙ ap (λ (z : List ℕ). low (take 8 z)) (sym (drop-drop (8 * k) A.from A.val.now))) c.directed-in-loop-k.ensures)

pub returns : goal.returns
returns c =
    let A = c.args in
    let val = A.val.now in
    fill_whole (drop A.from val) A.size (length val - A.from) A.descending A.out.now _ _ A.at 8 c.word_at-first.result
    c.directed.result (omega (arith, c.requires.from_in_bounds, length-drop A.from val)) (omega (arith, c.requires.size_nonzero))
    (bytes_drop A.from val (bytes_of val (λ i. (c.type_inv.val i).fits))) c.word_at-first.ensures c.directed.ensures c.put.ensures
    (fill_end c.loop-k.invariant _ (omega (arith, c.requires.size_nonzero)) c.put_byte.ensures)
