use Rattle.std.proofs.Common.{◌≡◌, ◌-◌, ◌++◌}
use Rattle.lp_scale.specs.Walks.{count_from}
use Rattle.lp_scale.proofs.tables.counted.Given as goal

abbrev pub invariant-loop-j : goal.invariant-loop-j
invariant-loop-j l = count_from 0 l.fn.count ≡ l.found ++ count_from l.j (l.fn.count - l.j)
