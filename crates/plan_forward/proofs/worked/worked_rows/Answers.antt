use Rattle.plan_forward.proofs.WorkedCosts as lemmas
use Rattle.plan_forward.proofs.worked.worked_rows.Goals as goal

pub returns : goal.returns
returns c = record { met = lemmas.both_met; cost = lemmas.four_of_power; missed = lemmas.both_missed; decided = lemmas.three_decided }
