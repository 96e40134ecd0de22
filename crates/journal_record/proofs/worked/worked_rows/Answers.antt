use Rattle.std.proofs.Common.{refl}
use Rattle.journal_record.specs.Reading.{many, read_row_at, pair_at, pairs_at, certificate_at, entry_node_at, entry_step_at, entry_steps_at, iteration_at, count_at, entry_at, entries_at, read_batch}
use Rattle.journal_record.proofs.worked.worked_rows.Goals as goal

pub returns-clause-text : goal.returns-clause-text
unfolding many read_row_at pair_at pairs_at certificate_at entry_node_at entry_step_at entry_steps_at iteration_at count_at entry_at entries_at read_batch
returns-clause-text c = refl

pub returns-clause-entry : goal.returns-clause-entry
unfolding many read_row_at pair_at pairs_at certificate_at entry_node_at entry_step_at entry_steps_at iteration_at count_at entry_at entries_at read_batch
returns-clause-entry c = refl

pub returns-clause-other_iteration : goal.returns-clause-other_iteration
unfolding many read_row_at pair_at pairs_at certificate_at entry_node_at entry_step_at entry_steps_at iteration_at count_at entry_at entries_at read_batch
returns-clause-other_iteration c = refl

pub returns-clause-no_steps : goal.returns-clause-no_steps
unfolding many read_row_at pair_at pairs_at certificate_at entry_node_at entry_step_at entry_steps_at iteration_at count_at entry_at entries_at read_batch
returns-clause-no_steps c = refl

pub returns-clause-too_many_steps : goal.returns-clause-too_many_steps
unfolding many read_row_at pair_at pairs_at certificate_at entry_node_at entry_step_at entry_steps_at iteration_at count_at entry_at entries_at read_batch
returns-clause-too_many_steps c = refl

pub returns-clause-unknown_node : goal.returns-clause-unknown_node
unfolding many read_row_at pair_at pairs_at certificate_at entry_node_at entry_step_at entry_steps_at iteration_at count_at entry_at entries_at read_batch
returns-clause-unknown_node c = refl

pub returns-clause-no_successor : goal.returns-clause-no_successor
unfolding many read_row_at pair_at pairs_at certificate_at entry_node_at entry_step_at entry_steps_at iteration_at count_at entry_at entries_at read_batch
returns-clause-no_successor c = refl

pub returns-clause-not_from_root : goal.returns-clause-not_from_root
unfolding many read_row_at pair_at pairs_at certificate_at entry_node_at entry_step_at entry_steps_at iteration_at count_at entry_at entries_at read_batch
returns-clause-not_from_root c = refl

pub returns-clause-pair_missing : goal.returns-clause-pair_missing
unfolding many read_row_at pair_at pairs_at certificate_at entry_node_at entry_step_at entry_steps_at iteration_at count_at entry_at entries_at read_batch
returns-clause-pair_missing c = refl

pub returns-clause-half_a_pair : goal.returns-clause-half_a_pair
unfolding many read_row_at pair_at pairs_at certificate_at entry_node_at entry_step_at entry_steps_at iteration_at count_at entry_at entries_at read_batch
returns-clause-half_a_pair c = refl

pub returns-clause-pair_too_many : goal.returns-clause-pair_too_many
unfolding many read_row_at pair_at pairs_at certificate_at entry_node_at entry_step_at entry_steps_at iteration_at count_at entry_at entries_at read_batch
returns-clause-pair_too_many c = refl

pub returns-clause-second_iteration : goal.returns-clause-second_iteration
unfolding many read_row_at pair_at pairs_at certificate_at entry_node_at entry_step_at entry_steps_at iteration_at count_at entry_at entries_at read_batch
returns-clause-second_iteration c = refl
