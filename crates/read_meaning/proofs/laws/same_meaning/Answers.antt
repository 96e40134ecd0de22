use Rattle.read_meaning.proofs.Same as lemmas
use Rattle.read_meaning.proofs.laws.same_meaning.Goals as goal

pub returns-clause-file : goal.returns-clause-file
returns-clause-file c = lemmas.file_same

pub returns-clause-nodes : goal.returns-clause-nodes
returns-clause-nodes c = lemmas.nodes_same

pub returns-clause-policy : goal.returns-clause-policy
returns-clause-policy c = lemmas.policy_same

pub returns-clause-cost : goal.returns-clause-cost
returns-clause-cost c = lemmas.cost_same

pub returns-clause-every : goal.returns-clause-every
returns-clause-every c = lemmas.every_same

pub returns-clause-bound : goal.returns-clause-bound
returns-clause-bound c = lemmas.bound_same

pub returns-clause-cut : goal.returns-clause-cut
returns-clause-cut c = lemmas.cut_same
