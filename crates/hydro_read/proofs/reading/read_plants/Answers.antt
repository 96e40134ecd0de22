use Rattle.hydro_read.proofs.Fits.{plants_at-Ok}
use Rattle.hydro_read.proofs.reading.read_plants.Goals as goal

pub returns-clause-known : goal.returns-clause-known
returns-clause-known c = plants_at-Ok c.args.bytes.now c.in_ok-plants.plants c.in_ok-plants.ensures
