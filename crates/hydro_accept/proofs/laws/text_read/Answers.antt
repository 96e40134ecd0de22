use Rattle.hydro_accept.proofs.Printed.{text_read}
use Rattle.hydro_accept.proofs.laws.text_read.Goals as goal

pub returns : goal.returns
returns c = text_read
