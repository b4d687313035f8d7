-- `plate_calls::prefix::compare_front` meets its contract: each row lies between its offsets, and so does what is cut out of the first.
-- Assumes nothing.
use borrow.Author.Rules.{sfits_of}
use Prim.Native.Nat.{ℕ}
use mathlib.Core.Path.{ap, ◌∙◌}
use mathlib.Core.List.{List}
use native.Mathlib.Numerals.{add-one}
use mir.Syntax.{w32}
use mir.Facts.{to_z-of_z}
use Rattle.format.specs.Entries.{row_bytes, compare_answer}
use Rattle.plates.proofs.Fronts.{Front, front_is}
use Rattle.plate_calls.proofs.prefix.compare_front.Goals.{After-front_end-cut}
use Rattle.plate_calls.proofs.prefix.compare_front.Goals as goal

pub overflow_sub-end : goal.overflow_sub-end
overflow_sub-end c = c.requires.lies_2.rises

pub front_end-cut-requires : goal.front_end-cut-requires
front_end-cut-requires c = c.requires.lies.rises

front : (c : After-front_end-cut) → Front c.args.rows.now c.args.offsets.now c.args.r c.args.keys.now c.args.ends.now c.args.q c.front_end-cut.result
front c = front_is _ _ _ _ _ _ _ c.requires.lies c.requires.lies_2 (rw (add-one c.args.r, add-one c.args.q) at c.front_end-cut.ensures)

pub slice_bounds-compare-count : goal.slice_bounds-compare-count
slice_bounds-compare-count c = (front (goal.at.slice_bounds-compare-count c).After-front_end-cut).after

pub slice_bounds-compare-start : goal.slice_bounds-compare-start
slice_bounds-compare-start c = (front (goal.at.slice_bounds-compare-start c).After-front_end-cut).after

pub slice_bounds-compare-end : goal.slice_bounds-compare-end
slice_bounds-compare-end c = (front (goal.at.slice_bounds-compare-end c).After-front_end-cut).inside

-- and the other
pub slice_bounds-compare-count-2 : goal.slice_bounds-compare-count-2
slice_bounds-compare-count-2 c = c.requires.lies_2.rises

pub slice_bounds-compare-start-2 : goal.slice_bounds-compare-start-2
slice_bounds-compare-start-2 c = c.requires.lies_2.rises

pub slice_bounds-compare-end-2 : goal.slice_bounds-compare-end-2
slice_bounds-compare-end-2 c = c.requires.lies_2.inside

pub returns : goal.returns
returns c =
    let a = c.args in
    to_z-of_z {w = w32} (sfits_of c.compare.type_inv)
    ∙ (rw (add-one a.q) at c.compare.ensures.answers)
    ∙ ap (λ (x : List ℕ). compare_answer x (row_bytes a.keys.now a.ends.now a.q)) (front (goal.at.returns c).After-front_end-cut).cut
