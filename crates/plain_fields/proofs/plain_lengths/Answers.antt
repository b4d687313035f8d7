use mathlib.Core.Path.{◌≡◌, ap, subst, ◌∙◌}
use mathlib.Core.List.{List}
use native.Mathlib.Omega.{arith}
use lib.ListN.{get_or}
use lib.Seq.{get_or-take}
use Rattle.format.specs.declared.Column.{Column}
use Rattle.format.specs.Schemas.{no_column}
use Rattle.laws.proofs.InUse.{used_narrow}
use Rattle.plain_fields.specs.Plain.{Lengthy}
use Rattle.plain_fields.proofs.Stored.{stored_more}
use Rattle.plain_fields.proofs.plain_lengths.Goals as goal

pub plain_length-requires : goal.plain_length-requires
plain_length-requires c = used_narrow c.args.schema c.in_use-column-items.ensures.says c.in_use-column-items.ensures.long c.requires c.loop-c.c c.loop-c-test.true

pub loop-c-preserved : goal.loop-c-preserved
loop-c-preserved c =
    stored_more c.loop-c.invariant c.loop-c-test.true
    (omega (arith, c.in_use-column-items.ensures.long, c.requires.few))
    c.plain_length.result c.plain_length.ensures

pub returns : goal.returns
returns c i l =
    let schema = c.args.schema in
    let same : get_or c.in_use-column-items.result.now i no_column ≡ get_or schema.columns i no_column
    = ap (λ (cols : List Column). get_or cols i no_column) c.in_use-column-items.ensures.says ∙ get_or-take schema.count schema.columns i no_column l in
    subst (λ (col : Column). Lengthy col (get_or c.loop-c.lengths i 0)) same
    (c.loop-c.invariant.says i (omega (arith, c.in_use-column-items.ensures.long)))
