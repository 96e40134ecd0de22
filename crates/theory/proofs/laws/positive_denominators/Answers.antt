use Rattle.theory.proofs.Denominators as lemmas
use Rattle.theory.proofs.laws.positive_denominators.Goals as goal

pub returns : goal.returns
returns c = record { trees = lemmas.positive_under; policies = lemmas.positive_policy }
