use Rattle.theory.proofs.BoundBelow as lemmas
use Rattle.theory.proofs.laws.sound_bound.Goals as goal

pub returns : goal.returns
returns c = λ p pools sh cuts s. lemmas.sound_bound p pools sh cuts s
