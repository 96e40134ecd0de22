use Rattle.hydro_accept.proofs.Accepting.{accepted, base_fits}
use Rattle.hydro_accept.proofs.laws.accepted.Goals as goal

pub returns : goal.returns
returns c = record { problem = accepted; base_fits = base_fits }
