use Rattle.hydro_accept.proofs.Accepting.{made_read, made_based}
use Rattle.hydro_accept.proofs.laws.made_accepted.Goals as goal

pub returns : goal.returns
returns c = record { problem = made_read; base_fits = made_based }
