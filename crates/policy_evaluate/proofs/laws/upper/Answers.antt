use Rattle.policy_evaluate.proofs.Whole.{upper_validated}
use Rattle.policy_evaluate.proofs.laws.upper.Goals as goal

pub returns : goal.returns
returns c = upper_validated
