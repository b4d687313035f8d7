-- `runs::copy_bytes` meets its contract: words, then the rest. Assumes nothing.
use Prim.Native.Nat.{ℕ, ◌+◌, ◌-◌, ◌%◌}
use mathlib.Core.Path.{◌≡◌, ap, ◌∙◌}
use mathlib.Core.List.{List, ◌++◌}
use native.Mathlib.Omega.{arith}
use lib.ListN.{length, drop, length-drop, length-append}
use lib.Seq.{sets}
use borrow.Rule.Slice.PartMut.{put_mid}
use Rattle.format.specs.Field.{directed}
use Rattle.laws.proofs.Directed.{length_directed}
use Rattle.laws.proofs.Parts.{part_rest}
use Rattle.runs.proofs.Parts.{part_put}
use Rattle.runs.proofs.Twice.{whole_twice}
use Rattle.runs.proofs.copy_bytes.Goals as goal

pub returns : goal.returns
returns c =
    let l = c.args.src.now in
    let d = c.args.descending in
    let w = length l - length l % 8 in
    let mid = c.copy_words.new.out ++ drop w c.args.out.now in
    let rest : c.copy_rest.new.out ≡ directed d (drop w l) = c.copy_rest.ensures ∙ ap (directed d) (part_rest l w) in
    let many : length mid ≡ length l
    = omega (arith, c.copy_words.auto.out, c.requires, length-append c.copy_words.new.out (drop w c.args.out.now), length-drop w c.args.out.now) in
    let long : length c.copy_rest.new.out ≡ length l - w = omega (arith, ap length rest, length_directed d (drop w l), length-drop w l) in
    whole_twice l d w w mid (drop w c.args.out.now) _ (omega arith) (omega arith)
    (ap (λ (z : List ℕ). z ++ drop w c.args.out.now) c.copy_words.ensures) many
    (ap (λ (m : ℕ). put_mid w m mid c.copy_rest.new.out) {x = length mid - w} {y = w + (length l - w) - w} (omega (arith, many))
    ∙ part_put w (length l - w) mid c.copy_rest.new.out long (omega (arith, many))
    ∙ ap (sets mid w) rest)
