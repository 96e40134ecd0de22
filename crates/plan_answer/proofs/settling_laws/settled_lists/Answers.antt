use Rattle.plan_answer.proofs.SettledRight.{settled_list_right, settled_fault}
use Rattle.plan_answer.proofs.SettledNode.{only_range-validated}
use Rattle.plan_answer.proofs.settling_laws.settled_lists.Goals as goal

pub returns-clause-right : goal.returns-clause-right
returns-clause-right c = settled_list_right

pub returns-clause-only_range : goal.returns-clause-only_range
returns-clause-only_range c = settled_fault

pub returns-clause-of_a_problem : goal.returns-clause-of_a_problem
returns-clause-of_a_problem c = only_range-validated
