-- `flag_packer::is_valid` meets its contract: the lead byte tells validity. Assumes nothing.
use Prim.Native.Nat.{ℕ}
use mathlib.Core.Path.{ap, ◌∙◌}
use mathlib.Core.Bool.{not}
use native.Mathlib.Omega.{arith}
use lib.Dec.{eqb}
use lib.ListN.{get_or}
use Rattle.basics.proofs.Bytes.{bytes_of}
use Rattle.cursors.proofs.Lead.{inside}
use Rattle.flag_packer.proofs.Reading.{valid_flag}
use Rattle.flag_packer.proofs.is_valid.Goals as goal

pub bounds-rows-p : goal.bounds-rows-p
bounds-rows-p c = let a = c.args in omega (arith, inside a.column a.rows.now a.p c.requires)

pub returns : goal.returns
returns c =
    let a = c.args in
    ap (λ (n : ℕ). not (eqb (get_or a.rows.now a.p 0) n)) c.null_sentinel.ensures
    ∙ valid_flag a.column a.rows.now a.p c.requires (bytes_of a.rows.now (λ i. (c.type_inv.rows i).fits))
