use Rattle.read_meaning.proofs.WorkedPolicies as policies
use Rattle.read_meaning.proofs.worked.worked_rows.Goals as goal

pub returns : goal.returns
returns c = record {
  policy = policies.policy;
  cost_of_policy = policies.cost_of_policy;
  no_policy = policies.no_policy;
  other_units = policies.other_units;
  no_bound = policies.no_bound;
  stopped_policy = policies.stopped_policy;
  stopped_cost = policies.stopped_cost;
  no_value = policies.no_value;
}
