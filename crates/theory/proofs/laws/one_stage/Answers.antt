use Rattle.theory.proofs.Duality as lemmas
use Rattle.theory.proofs.laws.one_stage.Goals as goal

pub returns : goal.returns
returns c = lemmas.one_stage
