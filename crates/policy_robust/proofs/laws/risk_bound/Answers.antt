use Rattle.policy_robust.proofs.RiskBound as lemmas
use Rattle.policy_robust.proofs.laws.risk_bound.Goals as goal

pub returns : goal.returns
returns c = lemmas.risk_bound
