use Rattle.plan_answer.proofs.Refuted as refutations
use Rattle.plan_answer.proofs.ClassifiedInfeasible as judgements
use Rattle.plan_answer.proofs.Fractions as fractions
use Rattle.plan_answer.proofs.laws.farkas.Goals as goal

pub returns : goal.returns
returns c = record { refuted = refutations.refuted; infeasible = judgements.classified_infeasible; fractions = fractions.no_fractions }
