use Rattle.run_program.proofs.Finding.{accepted, refused-first, none-before}
use Rattle.run_program.proofs.laws.first_refusal.Goals as goal

pub returns : goal.returns
returns c = record { accepted = accepted; first = refused-first; none_before = none-before }
