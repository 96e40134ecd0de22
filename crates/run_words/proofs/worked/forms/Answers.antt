use Rattle.std.proofs.Common.{refl}
use Rattle.base_num.specs.Numerals.{number_of}
use Rattle.run_words.specs.Commands.{number_within, train_by, train_in_batches, simulate_by, gen_by, command_by, command_of}
use Rattle.run_words.proofs.worked.forms.Goals as goal

pub returns-clause-base : goal.returns-clause-base
unfolding number_of number_within train_by train_in_batches simulate_by gen_by command_by command_of
returns-clause-base c = refl

pub returns-clause-train : goal.returns-clause-train
unfolding number_of number_within train_by train_in_batches simulate_by gen_by command_by command_of
returns-clause-train c = refl

pub returns-clause-batches : goal.returns-clause-batches
unfolding number_of number_within train_by train_in_batches simulate_by gen_by command_by command_of
returns-clause-batches c = refl

pub returns-clause-check : goal.returns-clause-check
unfolding number_of number_within train_by train_in_batches simulate_by gen_by command_by command_of
returns-clause-check c = refl

pub returns-clause-simulate : goal.returns-clause-simulate
unfolding number_of number_within train_by train_in_batches simulate_by gen_by command_by command_of
returns-clause-simulate c = refl

pub returns-clause-validate : goal.returns-clause-validate
unfolding number_of number_within train_by train_in_batches simulate_by gen_by command_by command_of
returns-clause-validate c = refl

pub returns-clause-generate : goal.returns-clause-generate
unfolding number_of number_within train_by train_in_batches simulate_by gen_by command_by command_of
returns-clause-generate c = refl

pub returns-clause-evaluate : goal.returns-clause-evaluate
unfolding number_of number_within train_by train_in_batches simulate_by gen_by command_by command_of
returns-clause-evaluate c = refl

pub returns-clause-hydro : goal.returns-clause-hydro
unfolding number_of number_within train_by train_in_batches simulate_by gen_by command_by command_of
returns-clause-hydro c = refl

pub returns-clause-robust : goal.returns-clause-robust
unfolding number_of number_within train_by train_in_batches simulate_by gen_by command_by command_of
returns-clause-robust c = refl
