use Rattle.std.proofs.Common.{sym}
use Rattle.hydro_make.proofs.Described.{short}
use Rattle.hydro_make.proofs.Equivalent as lemmas
use Rattle.hydro_make.proofs.Costs as costs
use Rattle.hydro_make.proofs.laws.hydro_equivalence.Goals as goal

pub returns : goal.returns
returns c = record {
  workable = λ h units p d. lemmas.workable h units (short h d) p;
  cost = λ h units p d. sym (costs.tree_of_cost h units p d.some_stages);
  policy = λ h units t d f. lemmas.tree_of_plan h units (short h d) t d.some_stages f;
}
