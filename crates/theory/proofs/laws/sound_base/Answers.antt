use Rattle.theory.proofs.SoundBase as lemmas
use Rattle.theory.proofs.laws.sound_base.Goals as goal

pub returns : goal.returns
returns c = record { sound = lemmas.sound_base; cuts = lemmas.base_cuts }
