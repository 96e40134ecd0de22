use Rattle.policy_robust.proofs.RiskDuality as lemmas
use Rattle.policy_robust.proofs.laws.risk_duality.Goals as goal

pub returns : goal.returns
returns c = lemmas.risk_duality
