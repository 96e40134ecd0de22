use Rattle.theory.proofs.SizeToFit as lemmas
use Rattle.theory.proofs.laws.size_to_fit.Goals as goal

pub returns : goal.returns
returns c = record { own_weights = lemmas.size_to_fit; given_weights = lemmas.size_to_fit_given }
