use Rattle.std.proofs.Common.{◌≡◌, ◌+◌, ◌≤◌, drop, min}
use Rattle.policy_evaluate.specs.TooBig.{reaches}
use Rattle.policy_evaluate.proofs.stage_sizes.state_reaches.Given as goal

abbrev pub invariant-loop-i : goal.invariant-loop-i
invariant-loop-i l = record {
  value : min (l.total + reaches (drop l.i l.costs) (drop l.i l.lows) (drop l.i l.highs)) l.cap ≡ min (reaches l.costs l.lows l.highs) l.cap;
  small : l.total ≤ l.cap;
}
