-- `variable_reader::copier::copy_last` meets its contract: what is written twice is written once. Assumes nothing.
use Prim.Native.Nat.{ℕ, ◌-◌, ◌%◌}
use native.Mathlib.Omega.{arith}
use mathlib.Core.Path.{◌≡◌, ap, ◌∙◌}
use mathlib.Core.List.{List, ◌++◌}
use lib.ListN.{length, drop, length-append, length-drop}
use lib.Seq.{sets}
use Rattle.runs.proofs.Twice.{whole_twice}
use Rattle.variable_reader.proofs.Twice.{last_is}
use Rattle.variable_reader.proofs.copier.copy_last.Goals as goal

pub returns : goal.returns
returns c =
    let l = c.args.src.now in
    let d = c.args.descending in
    let w = length l - length l % 8 in
    let front = c.copy_words.new.out in
    let rest = drop w c.args.out.now in
    let last = last_is l 8 d _ _ (λ i. (c.type_inv.src i).fits) (omega (arith, c.if-count-lt8.false)) c.low-last.ensures c.directed.ensures in
    let many : length (front ++ rest) ≡ length l
    = omega (arith, c.copy_words.auto.out, c.requires, length-append front rest, length-drop w c.args.out.now) in
    whole_twice l d (length l - 8) w (front ++ rest) rest _ (omega arith) (omega arith) (ap (λ (z : List ℕ). z ++ rest) c.copy_words.ensures) many
    (c.put.ensures ∙ ap (sets (front ++ rest) (length l - 8)) last)
