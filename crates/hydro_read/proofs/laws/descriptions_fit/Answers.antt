use Rattle.hydro_read.proofs.Fits.{plants_at-Ok}
use Rattle.hydro_read.proofs.laws.descriptions_fit.Goals as goal

pub returns : goal.returns
returns c = plants_at-Ok
