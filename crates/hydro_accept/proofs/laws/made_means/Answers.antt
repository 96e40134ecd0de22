use Rattle.hydro_accept.proofs.Accepting.{made_bound, made_means}
use Rattle.hydro_accept.proofs.laws.made_means.Goals as goal

pub returns : goal.returns
returns c = record { plans = made_means; bound = made_bound }
