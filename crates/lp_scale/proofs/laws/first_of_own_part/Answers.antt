use Rattle.lp_scale.proofs.Parts as parts
use Rattle.lp_scale.proofs.laws.first_of_own_part.Goals as goal

pub returns : goal.returns
returns c = λ lp p. parts.first_of_own_part lp p.decisions p.own
