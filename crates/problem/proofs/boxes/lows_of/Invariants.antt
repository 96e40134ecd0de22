use Rattle.std.proofs.Common.{◌≡◌, map, take}
use Rattle.base_num.specs.Sums.{entry}
use Rattle.problem.specs.declared.parts.Decision.{Decision}
use Rattle.problem.proofs.boxes.lows_of.Given as goal

abbrev pub invariant-loop-out : goal.invariant-loop-out
invariant-loop-out l = l.found ≡ map (λ o. entry (map (λ (d : Decision). d.low) l.subproblem.decisions) o) (take l.out-index l.out-items)
