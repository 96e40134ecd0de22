use Rattle.theory.proofs.WorkedTrees as trees
use Rattle.theory.proofs.WorkedCuts as cuts
use Rattle.theory.proofs.WorkedSizes as sizes
use Rattle.theory.proofs.worked.worked_rows.Goals as goal

pub returns : goal.returns
returns c = record {
  policy = trees.policy_in_halves;
  no_policy = trees.wrong_policy;
  cost_of_policy = trees.policy_cost_in_halves;
  stopped_cost = trees.stop_cost;
  weighted_cut = cuts.weights_1_2;
  rounded_cut = cuts.rounded_over_the_box;
  bound_of_base = cuts.stop_bound;
  size_of_base = sizes.edge_base;
  size_beyond = sizes.edge_beyond;
  in_range = sizes.edge_in_range;
  out_of_range = sizes.edge_out_of_range;
  remainders_in_range = sizes.remainders_in_range;
  remainders_out_of_range = sizes.remainders_out_of_range;
}
