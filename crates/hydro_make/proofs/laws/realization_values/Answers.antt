use Rattle.hydro_make.proofs.Described as lemmas
use Rattle.hydro_make.proofs.laws.realization_values.Goals as goal

pub returns : goal.returns
returns c = λ h s i w d. lemmas.values_are h s.demand i w d
