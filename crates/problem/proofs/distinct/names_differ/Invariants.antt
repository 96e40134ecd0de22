use Rattle.std.proofs.Common.{◌≡◌, drop}
use Rattle.std.specs.Str.{bytes_eq}
use Rattle.problem.specs.Distinct.{are_distinct}
use Rattle.problem.proofs.distinct.names_differ.Given as goal

abbrev pub invariant-loop-at : goal.invariant-loop-at
invariant-loop-at l = are_distinct bytes_eq (drop l.at l.names) ≡ are_distinct bytes_eq l.names
