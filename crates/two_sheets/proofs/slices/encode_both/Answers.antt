-- `two_sheets::slices::encode_both` meets its contract: both calls are those of encode, and sheets that differ only before a first end are
-- encoded alike. Assumes nothing.
use Rattle.basics.proofs.Bytes.{bytes_of}
use Rattle.demands.proofs.Calls.{both_alike}
use Rattle.two_sheets.proofs.slices.encode_both.Goals as goal

pub returns : goal.returns
returns c =
    both_alike (bytes_of c.args.sheet.now (λ i. (c.type_inv.sheet i).fits)) c.encode-first.ensures c.encode-second.ensures
