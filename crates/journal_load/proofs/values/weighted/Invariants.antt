use Rattle.std.proofs.Common.{◌≡◌, ◌+ℤ◌, ◌≤ℤ◌, drop}
use Rattle.base_num.specs.Sums.{total}
use Rattle.problem.specs.Validated.{initial_values}
use Rattle.theory.specs.Size.{magnitude}
use Rattle.theory.specs.View.{successors_of}
use Rattle.cut_pool.proofs.Weighted.{part, most}
use Rattle.journal_load.proofs.values.weighted.Given as goal

abbrev pub invariant-loop-i : goal.invariant-loop-i
invariant-loop-i l = record {
  value : total (part l.pools.lists (initial_values l.problem.parts)) (successors_of l.problem.parts.root l.problem.parts.root_weights) ≡ l.sum +ℤ total (part l.pools.lists (initial_values l.problem.parts)) (drop l.i (successors_of l.problem.parts.root l.problem.parts.root_weights));
  room : (magnitude l.sum +ℤ total most (drop l.i (successors_of l.problem.parts.root l.problem.parts.root_weights))) ≤ℤ total most (successors_of l.problem.parts.root l.problem.parts.root_weights);
}
