-- `fixed_decoder::decoder::decode` meets its contract: zeros for a null, and else the value. Assumes nothing.
use Prim.Native.Nat.{ℕ}
use mathlib.Core.Path.{◌≡◌, refl, sym, ap, subst, ◌∙◌}
use mathlib.Core.Bool.{true}
use mathlib.Core.List.{List}
use native.Mathlib.Omega.{arith}
use lib.ListN.{get_or, replicate}
use lib.Seq.{sets}
use Rattle.format.specs.declared.Kind.{Kind}
use Rattle.format.specs.declared.SortOptions.{SortOptions}
use Rattle.format.specs.Cleared.{fixed_slot}
use Rattle.format.specs.Kinds.{Fixed, Shape, fixed, shape, value_bytes}
use Rattle.format.specs.Read.{Good, null_lead, read_field, read_fixed, slot_read}
use Rattle.fixed_reader.proofs.Standing.{stands, field_value}
use Rattle.runs.proofs.Parts.{part_filled}
use Rattle.fixed_decoder.proofs.ByteKinds.{wide_bytes}
use Rattle.fixed_decoder.proofs.decoder.decode.Goals as goal

-- the slot of a null
null_slot : (kind : Kind) (k : Fixed) → shape kind ≡ fixed k → (o : SortOptions) (s : List ℕ) → Good (read_field (shape kind) o s)
    → null_lead o (get_or s 0 0) ≡ true → (w : ℕ) → fixed_slot w (slot_read (read_field (shape kind) o s)) ≡ replicate w 0
null_slot kind k says o s g t w =
    let good : Good (read_fixed k o s) = subst (λ (sh : Shape). Good (read_field sh o s)) says g in
    rw (says, ((stands k o s good).null t).0) refl

pub returns-then-null_lead : goal.returns-then-null_lead
returns-then-null_lead c =
    let A = c.args in
    let filled = part_filled A.at _ c.width.result A.out.now _ refl (c.fill.ensures.after (λ y e. e)) (omega (arith, c.width.ensures, c.requires.kind_in_bounds)) in
    let w = wide_bytes A.kind c.requires.kind_value in
    let none = null_slot A.kind w.k w.says A.options A.row.now c.requires.good (sym c.null_lead.ensures ∙ c.if-null_lead.true) in
    filled ∙ ap (sets A.out.now A.at) (ap (λ (n : ℕ). replicate n 0) c.width.ensures ∙ sym (none (value_bytes A.kind)))

pub returns : goal.returns
returns c =
    let A = c.args in
    let w = wide_bytes A.kind c.requires.kind_value in
    field_value A.kind w.k w.says A.options A.row.now c.requires.good A.out.now A.at _
    (sym c.null_lead.ensures ∙ c.if-null_lead.false) (c.decode_value.ensures w.k w.says)
