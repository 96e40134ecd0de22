use Rattle.std.proofs.Common.{◌≡◌, ◌-◌, ◌++◌, map, Some}
use Rattle.lp_scale.specs.Walks.{count_from}
use Rattle.lp_scale.proofs.tables.counted_places.Given as goal

abbrev pub invariant-loop-j : goal.invariant-loop-j
invariant-loop-j l = map Some (count_from 0 l.fn.count) ≡ l.found ++ map Some (count_from l.j (l.fn.count - l.j))
