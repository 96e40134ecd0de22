use Rattle.std.proofs.Common.{◌≡◌, drop}
use Rattle.problem.specs.Formulas.{first_dictionary}
use Rattle.problem.proofs.formulas.first_dictionary.Given as goal

abbrev pub invariant-loop-node : goal.invariant-loop-node
invariant-loop-node l = first_dictionary l.parts l.cuts (drop l.node-index l.nodes) ≡ first_dictionary l.parts l.cuts l.nodes
