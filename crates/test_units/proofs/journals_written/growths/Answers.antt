use Rattle.test_units.proofs.WorkedBody.{two_bytes}
use Rattle.test_units.proofs.journals_written.growths.Goals as goal

pub append-outcome-requires-clause-body : goal.append-outcome-requires-clause-body
append-outcome-requires-clause-body c = two_bytes
