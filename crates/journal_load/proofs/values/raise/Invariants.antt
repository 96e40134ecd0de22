use Rattle.std.proofs.Common.{◌≡◌, take}
use Rattle.problem.specs.Validated.{initial_values}
use Rattle.theory.specs.Bound.{value_of_cut}
use Rattle.journal_load.specs.RootValues.{raised_values}
use Rattle.journal_load.proofs.values.raise.Given as goal

abbrev pub invariant-loop-i : goal.invariant-loop-i
invariant-loop-i l = l.values ≡ raised_values l.node (value_of_cut l.cut (initial_values l.problem.parts)) (take l.i l.problem.parts.root) l.initial.values
