use Rattle.theory.proofs.Appending as lemmas
use Rattle.theory.proofs.laws.sound_push.Goals as goal

pub returns : goal.returns
returns c = lemmas.push_sound
