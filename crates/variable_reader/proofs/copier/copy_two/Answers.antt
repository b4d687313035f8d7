-- `variable_reader::copier::copy_two` meets its contract: what is written twice is written once. Assumes nothing.
use Prim.Native.Nat.{ℕ, ◌-◌, ◌<◌, ◌≤◌}
use native.Mathlib.Omega.{arith}
use mathlib.Core.Path.{sym, ap, ◌∙◌}
use lib.ListN.{length, get_or, take}
use lib.Seq.{sets, length-take-le}
use Rattle.basics.proofs.Append.{over_sets}
use Rattle.format.specs.Field.{directed}
use Rattle.laws.proofs.Directed.{length_directed}
use Rattle.runs.proofs.Twice.{whole_twice}
use Rattle.variable_reader.proofs.Twice.{word_is, last_is}
use Rattle.variable_reader.proofs.copier.copy_two.Goals as goal

pub returns : goal.returns
returns g c =
    let A = c.args in
    let l = A.src.now in
    let n = g.W.Word.SIZE in
    let d = A.descending in
    let bytes : ((i : ℕ) → get_or l i 0 < 256) = λ i. (c.type_inv.src i).fits in
    let first = word_is l 0 n d _ _ bytes (omega (arith, c.requires)) c.low.ensures c.directed.ensures in
    let last = last_is l n d _ _ bytes (omega (arith, c.requires)) (rw c.SIZE.ensures at c.low-last.ensures) c.directed-2.ensures in
    let fits : length (directed d (take n l)) ≤ length A.out.now
    = omega (arith, length_directed d (take n l), length-take-le n l (omega (arith, c.requires)), c.requires) in
    whole_twice l d (length l - n) n c.put.new.out _ _ (omega (arith, c.requires)) (omega (arith, c.requires))
    (c.put.ensures ∙ ap (sets A.out.now 0) first ∙ sym (over_sets (directed d (take n l)) A.out.now fits))
    (omega (arith, c.put.auto.out, c.requires))
    ((rw c.SIZE.ensures at c.put-2.ensures) ∙ ap (sets c.put.new.out (length l - n)) last)
