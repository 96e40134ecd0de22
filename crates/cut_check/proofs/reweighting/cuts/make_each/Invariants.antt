use Rattle.std.proofs.Common.{◌≡◌, map, take}
use Rattle.theory.specs.Problem.{node_at}
use Rattle.theory.specs.View.{problem_of}
use Rattle.cut_make.specs.Reweighting.{cut_with}
use Rattle.cut_check.specs.Shares.{SharesAt}
use Rattle.cut_check.proofs.reweighting.cuts.make_each.Given as goal

abbrev pub invariant-loop-weights : goal.invariant-loop-weights
invariant-loop-weights l = record {
  so_far : l.found ≡ map (cut_with l.pools.lists (node_at (problem_of l.problem) l.node) l.list) (take l.weights-index l.lists);
  shares : SharesAt l.problem l.node l.pools.lists l.list l.shares;
}
