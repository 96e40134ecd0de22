use Rattle.policy_robust.proofs.Reading.{listed-given}
use Rattle.policy_robust.proofs.alternatives.read_alternatives.Goals as goal

pub returns-clause-listed : goal.returns-clause-listed
returns-clause-listed c = listed-given c.args.problem.now c.args.bytes.now c.parts.ensures.validated c.read_lists.result c.read_lists.ensures
