use Rattle.std.proofs.Common.{◌≡◌, take, map}
use Rattle.base_num.specs.Sums.{entry}
use Rattle.read_stage.proofs.rows.picked.Given as goal

abbrev pub invariant-loop-variable : goal.invariant-loop-variable
invariant-loop-variable l = l.found ≡ map (entry l.coefficients) (take l.variable-index l.variables)
