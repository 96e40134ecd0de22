use Rattle.plan_answer.proofs.SettledPairs.{kept_all}
use Rattle.plan_answer.proofs.settling_laws.settled_shares.Goals as goal

pub returns : goal.returns
returns c = kept_all
