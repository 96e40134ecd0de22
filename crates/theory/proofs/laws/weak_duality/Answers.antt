use Rattle.theory.proofs.Duality as lemmas
use Rattle.theory.proofs.laws.weak_duality.Goals as goal

pub returns : goal.returns
returns c = λ p pools m list sh s r. lemmas.weak_duality p pools m list sh s r
