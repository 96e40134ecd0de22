use Rattle.std.proofs.Common.{◌≡◌, ◌+◌, length, map, sum, take}
use Rattle.hydro_read.specs.declared.plants.Reservoir.{Reservoir}
use Rattle.hydro_read.specs.Grid.{travel_stages}
use Rattle.hydro_read.proofs.reservoirs.states.Given as goal

abbrev pub invariant-loop-reservoir : goal.invariant-loop-reservoir
invariant-loop-reservoir l = l.left + length l.reservoirs + sum (map (λ (r : Reservoir). travel_stages r.downstream) (take l.reservoir-index l.reservoirs)) ≡ 50
