-- `plate_calls::prefix::encode_key` meets its contract: what encode refuses of either sheet is refused, a row that is not there is not
-- compared, and else the row stands to the key as its first values do. Assumes nothing.
use borrow.Author.Rules.{sfits_of}
use mir.Syntax.{w32}
use mir.Facts.{to_z-of_z}
use Rattle.std.proofs.lemmas.Result.{err_from_is_err_and}
use Rattle.format.specs.Described.{spelled}
use Rattle.basics.proofs.Bytes.{bytes_of}
use Rattle.demands.specs.Order.{batch}
use Rattle.demands.proofs.Demand3.{Written, row_lies}
use Rattle.demands.proofs.Calls.{encode_refused, batch_written}
use Rattle.plates.proofs.Plates.{first_refused, second_refused, key_refused, no_row, no_key, key_ordered}
use Rattle.plate_calls.proofs.prefix.encode_key.Goals.{In_ok-encode, In_ok-encode-2}
use Rattle.plate_calls.proofs.prefix.encode_key.Goals as goal

-- what was encoded
first : (c : In_ok-encode) → Written (spelled c.args.list.now)
    (batch c.args.n c.args.sheet.now c.args.rows.now c.args.offsets.now c.encode.new.rows c.encode.new.offsets)
first c = batch_written c.encode.ensures (bytes_of c.args.sheet.now (λ i. (c.type_inv.sheet i).fits)) _ _ c.in_ok-encode.was

second : (c : In_ok-encode-2) → Written (spelled c.args.short.now)
    (batch c.args.m c.args.other.now c.args.keys.now c.args.ends.now c.encode-2.new.rows c.encode-2.new.offsets)
second c = batch_written c.encode-2.ensures (bytes_of c.args.other.now (λ i. (c.type_inv.other i).fits)) _ _ c.in_ok-encode-2.was

pub returns-in_err-encode : goal.returns-in_err-encode
returns-in_err-encode c =
    let p = err_from_is_err_and c.from_residual.result c.from_residual.ensures.1 in
    rw (p.1, p.2) (key_refused _ _ _ (first_refused _ _ (encode_refused c.encode.ensures _ c.in_err-encode.was)))

pub returns-in_err-encode-2 : goal.returns-in_err-encode-2
returns-in_err-encode-2 c =
    let p = err_from_is_err_and c.from_residual-in_err-encode-2.result c.from_residual-in_err-encode-2.ensures.1 in
    rw (p.1, p.2) (let v = first (goal.at.returns-in_err-encode-2 c).In_ok-encode in
    key_refused _ _ _ (second_refused _ _ v.passes (encode_refused c.encode-2.ensures _ c.in_err-encode-2.was)))

-- ---- a row that is not there
pub returns-then-n-r : goal.returns-then-n-r
returns-then-n-r c =
    let v = first (goal.at.returns-then-n-r c).In_ok-encode in
    let w = second (goal.at.returns-then-n-r c).In_ok-encode-2 in
    no_row _ _ v w c.if-n-r.true

pub returns-then-m-q : goal.returns-then-m-q
returns-then-m-q c =
    let v = first (goal.at.returns-then-m-q c).In_ok-encode in
    let w = second (goal.at.returns-then-m-q c).In_ok-encode-2 in
    no_key _ _ v w c.if-n-r.false c.if-m-q.true

-- ---- both rows
pub compare_front-requires : goal.compare_front-requires
compare_front-requires c =
    let v = first (goal.at.compare_front-requires c).In_ok-encode in
    let w = second (goal.at.compare_front-requires c).In_ok-encode-2 in
    record { lies = row_lies v _ c.if-n-r.false; lies_2 = row_lies w _ c.if-m-q.false }

pub returns : goal.returns
returns c =
    let v = first (goal.at.returns c).In_ok-encode in
    let w = second (goal.at.returns c).In_ok-encode-2 in
    key_ordered _ _ v w c.if-n-r.false c.if-m-q.false _ _ (to_z-of_z {w = w32} (sfits_of c.compare_front.type_inv)) c.compare_front.ensures
