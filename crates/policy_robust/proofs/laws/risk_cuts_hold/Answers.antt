use Rattle.policy_robust.proofs.Adding as lemmas
use Rattle.policy_robust.proofs.laws.risk_cuts_hold.Goals as goal

pub returns : goal.returns
returns c = λ p x lists risk_cuts validated listed records e. lemmas.risk_cuts_risk p x validated listed lists risk_cuts records e
