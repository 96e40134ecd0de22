use Rattle.std.proofs.Common.{take}
use Rattle.policy_evaluate.proofs.Filling.{IsFilled}
use Rattle.policy_evaluate.proofs.tree_numbers.tree_table.Given as goal

abbrev pub invariant-loop-node : goal.invariant-loop-node
invariant-loop-node g l = IsFilled l.problem (g.N.TreeNumber.number_of l.number l.problem) l.cap (take l.node-index l.order) l.table
