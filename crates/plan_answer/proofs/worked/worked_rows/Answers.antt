use Rattle.plan_answer.proofs.WorkedFarkas as lemmas
use Rattle.plan_answer.proofs.worked.worked_rows.Goals as goal

pub returns : goal.returns
returns c = record { value = lemmas.refuting_value; refuted = lemmas.refuted_load; not_refuted = lemmas.met_load }
