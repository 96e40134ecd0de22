use Rattle.std.proofs.Common.{◌≡◌, ◌≤◌, ◌^◌, ◌*◌, take, nat_abs}
use Rattle.base_num.specs.Sums.{at_terms, entry}
use Rattle.plan_stage.proofs.own_rows.at_values.Given as goal

abbrev pub invariant-loop-variable : goal.invariant-loop-variable
invariant-loop-variable l = record {
  value : l.total ≡ at_terms (take l.variable-index l.terms) (entry l.values);
  small : nat_abs l.total ≤ l.variable-index * 2 ^ 80;
}
