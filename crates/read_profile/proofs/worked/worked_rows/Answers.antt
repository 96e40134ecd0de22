use Rattle.read_profile.proofs.WorkedStages as stages
use Rattle.read_profile.proofs.WorkedFiles as files
use Rattle.read_profile.proofs.worked.worked_rows.Goals as goal

pub returns : goal.returns
returns c = record {
  both_terms_count = stages.both_terms_count;
  constant_absent = stages.constant_absent;
  terms_absent = stages.terms_absent;
  point = stages.point;
  other_function = stages.other_function;
  name_first = stages.name_first;
  equal = stages.equal;
  greater = stages.greater;
  less = stages.less;
  between = stages.between;
  crossed = stages.crossed;
  other_set = stages.other_set;
  constant_counts = stages.constant_counts;
  sense_min = stages.sense_min;
  sense_max = stages.sense_max;
  sense_feasibility = stages.sense_feasibility;
  bounds_of_stage = stages.bounds_of_stage;
  states_of_stage = stages.states_of_stage;
  randoms_of_stage = stages.randoms_of_stage;
  weight = stages.weight;
  value_given = stages.value_given;
  value_left_out = stages.value_left_out;
  last_of_equal_keys = stages.last_of_equal_keys;
  initial_value = files.initial_value;
  names_in_order = files.names_in_order;
  successors_in_order = files.successors_in_order;
  stop = files.stop;
  no_stop = files.no_stop;
  no_realizations = files.no_realizations;
  no_values = files.no_values;
  other_version = files.other_version;
}
