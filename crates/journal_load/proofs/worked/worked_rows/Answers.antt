use Rattle.std.proofs.Common.{refl}
use Rattle.problem.specs.Formulas.{too_much}
use Rattle.theory.specs.Problem.{S}
use Rattle.theory.specs.View.{node_of, problem_of}
use Rattle.cut_make.specs.Acceptance.{fault_of}
use Rattle.journal_record.specs.Reading.{many, read_row_at, pair_at, pairs_at, certificate_at, entry_node_at, entry_step_at, entry_steps_at, iteration_at, count_at, entry_at, read_batch}
use Rattle.journal_record.specs.Reading as reading
use Rattle.journal_file.specs.Head.{is_whole_head, is_uncommitted, title_at, head_at}
use Rattle.journal_file.specs.CommitBytes.{commit_byte_of, payload_of}
use Rattle.journal_file.specs.Layout.{title_bytes, records}
use Rattle.journal_load.specs.Cuts.{step_added, steps_added, entries_added}
use Rattle.journal_load.specs.Records.{record_added, record_entries_at, rest_at, record_at, records_at}
use Rattle.journal_load.specs.Load.{title_asked, load_records, load_from, load_of}
use Rattle.journal_load.proofs.worked.worked_rows.Goals as goal

pub returns-clause-loaded : goal.returns-clause-loaded
unfolding S node_of problem_of fault_of too_much many read_row_at pair_at pairs_at certificate_at entry_node_at entry_step_at entry_steps_at iteration_at count_at entry_at reading.entries_at read_batch commit_byte_of payload_of is_whole_head is_uncommitted title_at head_at title_bytes records step_added steps_added entries_added record_added record_entries_at rest_at record_at records_at title_asked load_records load_from load_of
returns-clause-loaded c = refl

pub returns-clause-uncommitted : goal.returns-clause-uncommitted
unfolding S node_of problem_of fault_of too_much many read_row_at pair_at pairs_at certificate_at entry_node_at entry_step_at entry_steps_at iteration_at count_at entry_at reading.entries_at read_batch commit_byte_of payload_of is_whole_head is_uncommitted title_at head_at title_bytes records step_added steps_added entries_added record_added record_entries_at rest_at record_at records_at title_asked load_records load_from load_of
returns-clause-uncommitted c = refl

pub returns-clause-other_problem : goal.returns-clause-other_problem
unfolding S node_of problem_of fault_of too_much many read_row_at pair_at pairs_at certificate_at entry_node_at entry_step_at entry_steps_at iteration_at count_at entry_at reading.entries_at read_batch commit_byte_of payload_of is_whole_head is_uncommitted title_at head_at title_bytes records step_added steps_added entries_added record_added record_entries_at rest_at record_at records_at title_asked load_records load_from load_of
returns-clause-other_problem c = refl

pub returns-clause-other_seed : goal.returns-clause-other_seed
unfolding S node_of problem_of fault_of too_much many read_row_at pair_at pairs_at certificate_at entry_node_at entry_step_at entry_steps_at iteration_at count_at entry_at reading.entries_at read_batch commit_byte_of payload_of is_whole_head is_uncommitted title_at head_at title_bytes records step_added steps_added entries_added record_added record_entries_at rest_at record_at records_at title_asked load_records load_from load_of
returns-clause-other_seed c = refl

pub returns-clause-other_batch : goal.returns-clause-other_batch
unfolding S node_of problem_of fault_of too_much many read_row_at pair_at pairs_at certificate_at entry_node_at entry_step_at entry_steps_at iteration_at count_at entry_at reading.entries_at read_batch commit_byte_of payload_of is_whole_head is_uncommitted title_at head_at title_bytes records step_added steps_added entries_added record_added record_entries_at rest_at record_at records_at title_asked load_records load_from load_of
returns-clause-other_batch c = refl

pub returns-clause-short_commit_byte : goal.returns-clause-short_commit_byte
unfolding S node_of problem_of fault_of too_much many read_row_at pair_at pairs_at certificate_at entry_node_at entry_step_at entry_steps_at iteration_at count_at entry_at reading.entries_at read_batch commit_byte_of payload_of is_whole_head is_uncommitted title_at head_at title_bytes records step_added steps_added entries_added record_added record_entries_at rest_at record_at records_at title_asked load_records load_from load_of
returns-clause-short_commit_byte c = refl

pub returns-clause-short_payload : goal.returns-clause-short_payload
unfolding S node_of problem_of fault_of too_much many read_row_at pair_at pairs_at certificate_at entry_node_at entry_step_at entry_steps_at iteration_at count_at entry_at reading.entries_at read_batch commit_byte_of payload_of is_whole_head is_uncommitted title_at head_at title_bytes records step_added steps_added entries_added record_added record_entries_at rest_at record_at records_at title_asked load_records load_from load_of
returns-clause-short_payload c = refl

pub returns-clause-short_length : goal.returns-clause-short_length
unfolding S node_of problem_of fault_of too_much many read_row_at pair_at pairs_at certificate_at entry_node_at entry_step_at entry_steps_at iteration_at count_at entry_at reading.entries_at read_batch commit_byte_of payload_of is_whole_head is_uncommitted title_at head_at title_bytes records step_added steps_added entries_added record_added record_entries_at rest_at record_at records_at title_asked load_records load_from load_of
returns-clause-short_length c = refl

pub returns-clause-bad_record : goal.returns-clause-bad_record
unfolding S node_of problem_of fault_of too_much many read_row_at pair_at pairs_at certificate_at entry_node_at entry_step_at entry_steps_at iteration_at count_at entry_at reading.entries_at read_batch commit_byte_of payload_of is_whole_head is_uncommitted title_at head_at title_bytes records step_added steps_added entries_added record_added record_entries_at rest_at record_at records_at title_asked load_records load_from load_of
returns-clause-bad_record c = refl

pub returns-clause-bad_certificate : goal.returns-clause-bad_certificate
unfolding S node_of problem_of fault_of too_much many read_row_at pair_at pairs_at certificate_at entry_node_at entry_step_at entry_steps_at iteration_at count_at entry_at reading.entries_at read_batch commit_byte_of payload_of is_whole_head is_uncommitted title_at head_at title_bytes records step_added steps_added entries_added record_added record_entries_at rest_at record_at records_at title_asked load_records load_from load_of
returns-clause-bad_certificate c = refl
