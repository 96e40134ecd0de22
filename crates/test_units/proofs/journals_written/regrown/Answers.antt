use Rattle.test_units.proofs.WorkedBody.{two_bytes}
use Rattle.test_units.proofs.journals_written.regrown.Goals as goal

pub append-requires-clause-body : goal.append-requires-clause-body
append-requires-clause-body c = two_bytes
