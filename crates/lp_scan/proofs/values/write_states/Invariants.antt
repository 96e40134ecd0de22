use Rattle.std.proofs.Common.{◌≡◌, map, take}
use Rattle.lp_scan.specs.Values.{state_number}
use Rattle.lp_scan.proofs.values.write_states.Given as goal

abbrev pub invariant-loop-x : goal.invariant-loop-x
invariant-loop-x l = l.states ≡ map state_number (take l.x-index l.point)
