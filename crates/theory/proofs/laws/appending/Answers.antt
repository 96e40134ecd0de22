use Rattle.theory.proofs.Appending as lemmas
use Rattle.theory.proofs.laws.appending.Goals as goal

pub returns : goal.returns
returns c = record { value = lemmas.value_more; bound = lemmas.bound_more }
