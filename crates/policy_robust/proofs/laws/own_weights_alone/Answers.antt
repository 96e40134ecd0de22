use Rattle.policy_robust.proofs.OwnAlone as lemmas
use Rattle.policy_robust.proofs.laws.own_weights_alone.Goals as goal

pub returns : goal.returns
returns c = record {
  tree = λ p count x known alone m units xi t h. lemmas.own_cost p count x known alone units m xi t h;
  policy = λ p count x known alone h units f. lemmas.own_policy p count x known alone units h f;
  risk_cut = lemmas.risk_cut-own;
}
