use Prim.Native.Nat.{ℕ, ◌+◌, ◌%◌}
use mathlib.Core.Path.{◌≡◌, refl, sym, ◌∙◌}
use mathlib.Core.Bool.{Bool, true, false, cond}
use native.Mathlib.Omega.{arith}
use lib.Dec.{ltb}
use Rattle.format.specs.Field.{block_size}
use Rattle.runs.proofs.Parts.{part_long, parts_alike, part_copied}
use Rattle.variable_reader.proofs.Taking.{taking_there, full_room, full_next, last_room, last_field, last_value}
use Rattle.variable_reader.proofs.copier.copy_blocks.Goals as goal

-- a block is whole words
whole_words : (k : ℕ) → block_size k % 8 ≡ 0
whole_words k = elim (ltb k 4) as (λ (t : Bool). cond t 8 32 % 8 ≡ 0) [ true ↦ refl | false ↦ refl ]

pub byte_at-end-requires : goal.byte_at-end-requires
byte_at-end-requires c = taking_there c.loop-used.invariant c.block_size-size.result c.block_size-size.ensures

pub overflow_add-result : goal.overflow_add-result
overflow_add-result c = omega (arith, taking_there c.loop-used.invariant c.block_size-size.result c.block_size-size.ensures)

pub overflow_add-result-then-end : goal.overflow_add-result-then-end
overflow_add-result-then-end c = omega (arith, taking_there c.loop-used.invariant c.block_size-size.result c.block_size-size.ensures)

pub slice_bounds-copy_last-end : goal.slice_bounds-copy_last-end
slice_bounds-copy_last-end c =
    let e = c.from-used.ensures in
    (last_room c.loop-used.invariant c.block_size-size.result c.block_size-size.ensures c.from-used.result
    (e ∙ c.byte_at-end.ensures) (λ x. c.if-end.true (sym e ∙ x)) c.requires.row_in_bounds).1

pub slice_bounds-copy_last-end-then-end : goal.slice_bounds-copy_last-end-then-end
slice_bounds-copy_last-end-then-end c =
    let e = c.from-used.ensures in
    (last_room c.loop-used.invariant c.block_size-size.result c.block_size-size.ensures c.from-used.result
    (e ∙ c.byte_at-end.ensures) (λ x. c.if-end.true (sym e ∙ x)) c.requires.row_in_bounds).0

pub copy_last-requires : goal.copy_last-requires
copy_last-requires c =
    let e = c.from-used.ensures in
    let room = last_room c.loop-used.invariant c.block_size-size.result c.block_size-size.ensures c.from-used.result
    (e ∙ c.byte_at-end.ensures) (λ x. c.if-end.true (sym e ∙ x)) c.requires.row_in_bounds in
    parts_alike _ _ _ _ _ room.0 room.1

pub returns-then-end : goal.returns-then-end
returns-then-end c =
    let l = c.loop-used in
    let q = l.invariant in
    let e = c.from-used.ensures in
    let is = c.block_size-size.ensures in
    let size = c.block_size-size.result in
    let used = c.from-used.result in
    let end_is = e ∙ c.byte_at-end.ensures in
    let ends = λ (x : used ≡ 255). c.if-end.true (sym e ∙ x) in
    let room = last_room q size is used end_is ends c.requires.row_in_bounds in
    let copied = part_copied (c.args.at + l.count) used l.from c.args.descending l.out c.args.row.now _ c.copy_last.ensures room.0 room.1 in
    let value = last_value q size is used end_is ends _ copied in
    record { field_value = last_field q size is used end_is ends; value_value = value.0; out_after = value.1 }

pub slice_bounds-copy_words-end : goal.slice_bounds-copy_words-end
slice_bounds-copy_words-end c =
    full_room c.loop-used.invariant _ c.block_size-size.ensures _ c.byte_at-end.ensures c.if-end.false c.requires.row_in_bounds

pub copy_words-requires-clause-words : goal.copy_words-requires-clause-words
copy_words-requires-clause-words c =
    let l = c.loop-used in
    let size = c.block_size-size.result in
    let there = taking_there l.invariant size c.block_size-size.ensures in
    rw (part_long l.from size c.args.row.now (omega (arith, there)), c.block_size-size.ensures) (whole_words l.k)

pub copy_words-requires-clause-room : goal.copy_words-requires-clause-room
copy_words-requires-clause-room c =
    parts_alike _ _ _ _ _ (omega (arith, taking_there c.loop-used.invariant c.block_size-size.result c.block_size-size.ensures))
    (full_room c.loop-used.invariant _ c.block_size-size.ensures _ c.byte_at-end.ensures c.if-end.false c.requires.row_in_bounds)

pub loop-used-preserved : goal.loop-used-preserved
loop-used-preserved c =
    let l = c.loop-used in
    let size = c.block_size-size.result in
    let room = full_room l.invariant _ c.block_size-size.ensures _ c.byte_at-end.ensures c.if-end.false c.requires.row_in_bounds in
    let there = taking_there l.invariant size c.block_size-size.ensures in
    rw (part_copied (c.args.at + l.count) size l.from c.args.descending l.out c.args.row.now _ c.copy_words.ensures (omega (arith, there)) room)
    (full_next l.invariant size c.block_size-size.ensures c.byte_at-end.result c.byte_at-end.ensures c.if-end.false)
