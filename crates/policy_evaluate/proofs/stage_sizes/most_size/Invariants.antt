use Rattle.std.proofs.Common.{length}
use Rattle.base_graph.specs.Paths.{numbers}
use Rattle.theory.specs.View.{problem_of}
use Rattle.policy_evaluate.specs.TooBig.{node_size}
use Rattle.policy_evaluate.proofs.Sizing.{MostGoes}
use Rattle.policy_evaluate.proofs.stage_sizes.most_size.Given as goal

abbrev pub invariant-loop-node : goal.invariant-loop-node
invariant-loop-node l = MostGoes (node_size (problem_of l.problem)) (numbers (length l.problem.parts.nodes)) l.cap l.node l.most
