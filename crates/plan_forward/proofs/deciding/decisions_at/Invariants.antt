use Rattle.std.proofs.Common.{◌≡◌}
use Rattle.base_num.specs.Sums.{table}
use Rattle.plan_forward.proofs.Decisions.{number_of}
use Rattle.plan_forward.proofs.deciding.decisions_at.Given as goal

abbrev pub invariant-loop-j : goal.invariant-loop-j
invariant-loop-j l = l.found ≡ table l.j (number_of l.point l.decisions)
