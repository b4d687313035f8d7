-- `decoder::decode_listed` meets its contract: each refusal is that of the checks that led there, and else 24 decides what is
-- answered and written. Assumes nothing.
use mathlib.Core.Path.{sym, ◌∙◌}
use Rattle.std.proofs.lemmas.Result.{err_from_is_err_and}
use Rattle.checks.proofs.Begun.{begun_sound}
use Rattle.decoder.proofs.Decoding.{bad_begin, bad_rows, short, ready, decoded}
use Rattle.decoder.proofs.decode_listed.Goals as goal

pub returns-in_err-schema : goal.returns-in_err-schema
returns-in_err-schema c =
    let p = err_from_is_err_and c.from_residual.result c.from_residual.ensures.1 in
    λ list l.
    rw (p.1, p.2) (bad_begin list _ _ _ _ _ (c.begin.ensures list l) _ c.in_err-schema.was)

pub check_rows-requires : goal.check_rows-requires
check_rows-requires c =
    let sound = begun_sound c.requires.list _ _ (c.begin.ensures c.requires.list c.requires.says) _ c.in_ok-schema.was in
    record { n_le_max_rows = sound.1; limited = sound.0.limited }

pub returns-in_err-bytes : goal.returns-in_err-bytes
returns-in_err-bytes c =
    let p = err_from_is_err_and c.from_residual-in_err-bytes.result c.from_residual-in_err-bytes.ensures.1 in
    λ list l.
    rw (p.1, p.2) (bad_rows list _ _ _ _ _ (c.begin.ensures list l) _ c.in_ok-schema.was _ c.check_rows.ensures _ c.in_err-bytes.was)

pub returns-in_err-room_fault : goal.returns-in_err-room_fault
returns-in_err-room_fault c =
    let p = err_from_is_err_and c.from_residual-in_err-room_fault.result c.from_residual-in_err-room_fault.ensures.1 in
    λ list l.
    rw (p.1, p.2) (short list _ _ _ _ _ (c.begin.ensures list l) _ c.in_ok-schema.was _ c.check_rows.ensures _ c.in_ok-bytes.was
    _ (sym c.room_fault.ensures ∙ c.in_err-room_fault.was))

pub write_sheet-written-requires : goal.write_sheet-written-requires
write_sheet-written-requires c =
    ready c.requires.list _ _ _ _ _ (c.begin.ensures c.requires.list c.requires.says) _ c.in_ok-schema.was
    _ c.check_rows.ensures _ c.in_ok-bytes.was (sym c.room_fault.ensures ∙ c.in_ok-room_fault.was)

pub returns : goal.returns
returns c =
    λ list l.
    decoded list _ _ _ _ _ (c.begin.ensures list l) _ c.in_ok-schema.was _ c.check_rows.ensures _ c.in_ok-bytes.was
    (sym c.room_fault.ensures ∙ c.in_ok-room_fault.was) _ _ c.write_sheet-written.ensures
