-- `cutter_rule::rule::sum_columns` meets its contract. Assumes nothing.
use Rattle.cutter_rule.proofs.Summing.{Summing}
use Rattle.cutter_rule.proofs.rule.sum_columns.Given as goal

abbrev pub invariant-loop-c : goal.invariant-loop-c
invariant-loop-c l = Summing l.columns l.column l.low l.high l.few l.many l.c
