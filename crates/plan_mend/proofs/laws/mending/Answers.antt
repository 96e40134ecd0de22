use Rattle.plan_mend.proofs.Meeting.{met_or_kept}
use Rattle.plan_mend.proofs.laws.mending.Goals as goal

pub returns : goal.returns
returns c = λ n values x u. met_or_kept n values x u
