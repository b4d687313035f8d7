-- `word_writer::put_byte` meets its contract: the byte of the key is stored, or 0. Assumes nothing.
use Prim.Native.Nat.{ℕ}
use mathlib.Core.Path.{refl, ap, ◌∙◌}
use mathlib.Core.Bool.{false, cond}
use mathlib.Core.List.{List, [], ◌∷◌}
use lib.Seq.{sets}
use Rattle.word_writer.proofs.Keyed.{word_is}
use Rattle.word_writer.proofs.put_byte.Goals as goal

pub returns : goal.returns
returns c =
    let A = c.args in
    c.put.ensures
    ∙ ap (sets A.rows.now A.at)
    (c.or_zero.ensures
    ∙ ap (λ (v : List ℕ). cond A.valid v (0 ∷ []))
    (word_is 1 A.coding A.descending false A.values.now A.from (λ i. (c.type_inv.values i).fits) c.requires.from_in_bounds
    _ c.low.result _ _ c.low.ensures refl c.encode.ensures c.directed-byte.ensures))
