-- `key_checks::check_key` meets its contract: the key is the one row of the first k columns. Assumes nothing.
use mathlib.Core.Path.{sym, ap, ◌∙◌}
use native.Mathlib.Omega.{arith}
use Rattle.std.proofs.lemmas.Result.{err_from_is_err_and}
use Rattle.format.specs.Check.{verdict}
use Rattle.key_checks.proofs.Checking.{no_columns, past_columns, first_limited, key_lies, key_read}
use Rattle.key_checks.proofs.check_key.Goals as goal

-- 31: there are none, or too few
pub returns-then-count-eq0 : goal.returns-then-count-eq0
returns-then-count-eq0 c =
    no_columns c.args.schema c.well_formed.0 c.requires _ c.args.key.now c.if-count-eq0.true

pub returns-then-schema-count : goal.returns-then-schema-count
returns-then-schema-count c =
    past_columns c.args.schema c.well_formed.0 c.requires _ c.args.key.now (λ e. omega arith) c.if-schema-count.true

pub check_fields-requires : goal.check_fields-requires
check_fields-requires c =
    record {
      n_le_max_rows = omega arith;
      limited = first_limited c.args.schema c.well_formed.0 c.requires _ c.args.key.now (λ e. omega arith) (omega arith);
      all_lie = key_lies c.args.schema c.well_formed.0 c.requires c.args.k c.args.key.now (λ e. omega arith) (omega arith);
    }

pub returns-in_err-check_fields : goal.returns-in_err-check_fields
returns-in_err-check_fields c =
    let p = err_from_is_err_and c.from_residual.result c.from_residual.ensures.1 in
    rw (p.1, p.2) (sym (ap verdict c.in_err-check_fields.was)
    ∙ key_read c.args.schema c.well_formed.0 c.requires c.args.k c.args.key.now (λ e. omega arith) (omega arith) _ c.check_fields.ensures)

pub returns : goal.returns
returns c =
    sym (ap verdict c.in_ok-check_fields.was)
    ∙ key_read c.args.schema c.well_formed.0 c.requires c.args.k c.args.key.now (λ e. omega arith) (omega arith) _ c.check_fields.ensures
