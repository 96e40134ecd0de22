use Rattle.std.proofs.Common.{◌≡◌, take, map}
use Rattle.read_stage.specs.Boxes.{sides_of}
use Rattle.read_stage.proofs.boxes.highs.Given as goal

abbrev pub invariant-loop-variable : goal.invariant-loop-variable
invariant-loop-variable l = l.found ≡ map (λ v. (sides_of l.bounds v).high) (take l.variable-index l.variables)
