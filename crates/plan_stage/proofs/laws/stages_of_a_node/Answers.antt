use Rattle.plan_stage.proofs.Alike.{like_validated, extends_validated, proper_validated}
use Rattle.plan_stage.proofs.laws.stages_of_a_node.Goals as goal

pub returns-clause-proper : goal.returns-clause-proper
returns-clause-proper c = proper_validated

pub returns-clause-like : goal.returns-clause-like
returns-clause-like c = like_validated

pub returns-clause-extends : goal.returns-clause-extends
returns-clause-extends c = extends_validated
