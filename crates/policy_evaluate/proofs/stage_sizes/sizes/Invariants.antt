use Rattle.std.proofs.Common.{◌≡◌, ◌+◌, ◌≤◌, drop, min}
use Rattle.policy_evaluate.specs.TooBig.{sizes}
use Rattle.policy_evaluate.proofs.stage_sizes.sizes.Given as goal

abbrev pub invariant-loop-i : goal.invariant-loop-i
invariant-loop-i l = record {
  value : min (l.total + sizes (drop l.i l.costs) (drop l.i l.values)) l.cap ≡ min (sizes l.costs l.values) l.cap;
  small : l.total ≤ l.cap;
}
