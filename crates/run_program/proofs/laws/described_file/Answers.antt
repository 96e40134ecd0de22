use Rattle.run_program.proofs.Meant as lemmas
use Rattle.run_program.proofs.laws.described_file.Goals as goal

pub returns : goal.returns
returns c = lemmas.described_file
