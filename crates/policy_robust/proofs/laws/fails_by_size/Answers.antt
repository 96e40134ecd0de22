use Rattle.policy_robust.proofs.OwnAlone as lemmas
use Rattle.policy_robust.proofs.laws.fails_by_size.Goals as goal

pub returns : goal.returns
returns c = lemmas.range-elsewhere
