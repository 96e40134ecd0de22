use Rattle.run_program.proofs.CheckedHydro.{hydro-first}
use Rattle.run_program.proofs.laws.first_hydro_refusal.Goals as goal

pub returns : goal.returns
returns c = hydro-first
