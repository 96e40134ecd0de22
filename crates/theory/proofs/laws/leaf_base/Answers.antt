use Rattle.theory.proofs.LeafBase as lemmas
use Rattle.theory.proofs.laws.leaf_base.Goals as goal

pub returns : goal.returns
returns c = record { cut = lemmas.cut-leaf; size = lemmas.size-leaf; within = lemmas.least_cost_within; holds = λ p pools m e sh. lemmas.holds-leaf p pools m e sh }
