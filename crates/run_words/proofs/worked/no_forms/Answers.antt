use Rattle.std.proofs.Common.{refl}
use Rattle.base_num.specs.Numerals.{number_of}
use Rattle.run_words.specs.Commands.{number_within, train_by, train_in_batches, simulate_by, gen_by, command_by, command_of}
use Rattle.run_words.proofs.worked.no_forms.Goals as goal

pub returns-clause-no_words : goal.returns-clause-no_words
unfolding number_of number_within train_by train_in_batches simulate_by gen_by command_by command_of
returns-clause-no_words c = refl

pub returns-clause-unknown : goal.returns-clause-unknown
unfolding number_of number_within train_by train_in_batches simulate_by gen_by command_by command_of
returns-clause-unknown c = refl

pub returns-clause-word_too_many : goal.returns-clause-word_too_many
unfolding number_of number_within train_by train_in_batches simulate_by gen_by command_by command_of
returns-clause-word_too_many c = refl

pub returns-clause-leading_zero : goal.returns-clause-leading_zero
unfolding number_of number_within train_by train_in_batches simulate_by gen_by command_by command_of
returns-clause-leading_zero c = refl

pub returns-clause-many_iterations : goal.returns-clause-many_iterations
unfolding number_of number_within train_by train_in_batches simulate_by gen_by command_by command_of
returns-clause-many_iterations c = refl

pub returns-clause-no_paths : goal.returns-clause-no_paths
unfolding number_of number_within train_by train_in_batches simulate_by gen_by command_by command_of
returns-clause-no_paths c = refl

pub returns-clause-many_paths : goal.returns-clause-many_paths
unfolding number_of number_within train_by train_in_batches simulate_by gen_by command_by command_of
returns-clause-many_paths c = refl

pub returns-clause-no_journal : goal.returns-clause-no_journal
unfolding number_of number_within train_by train_in_batches simulate_by gen_by command_by command_of
returns-clause-no_journal c = refl

pub returns-clause-many_scenarios : goal.returns-clause-many_scenarios
unfolding number_of number_within train_by train_in_batches simulate_by gen_by command_by command_of
returns-clause-many_scenarios c = refl

pub returns-clause-no_stages : goal.returns-clause-no_stages
unfolding number_of number_within train_by train_in_batches simulate_by gen_by command_by command_of
returns-clause-no_stages c = refl

pub returns-clause-many_reservoirs : goal.returns-clause-many_reservoirs
unfolding number_of number_within train_by train_in_batches simulate_by gen_by command_by command_of
returns-clause-many_reservoirs c = refl
