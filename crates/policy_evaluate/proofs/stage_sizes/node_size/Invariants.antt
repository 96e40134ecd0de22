use Rattle.theory.specs.Problem.{node_at}
use Rattle.theory.specs.View.{problem_of}
use Rattle.policy_evaluate.specs.TooBig.{stage_cost_size}
use Rattle.policy_evaluate.proofs.Sizing.{MostGoes}
use Rattle.policy_evaluate.proofs.stage_sizes.node_size.Given as goal

abbrev pub invariant-loop-values : goal.invariant-loop-values
invariant-loop-values l = MostGoes (stage_cost_size (node_at (problem_of l.problem) l.node)) l.values-items l.cap l.values-index l.most
