use Rattle.policy_evaluate.proofs.WorkedUppers as lemmas
use Rattle.policy_evaluate.proofs.worked.worked_rows.Goals as goal

pub returns : goal.returns
returns c = record { even = lemmas.fifteen; uneven = lemmas.third_of_forty; branches = lemmas.two_branches; denominator = lemmas.over_three; size = lemmas.hundred }
