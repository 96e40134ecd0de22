use Rattle.std.proofs.Common.{◌≡◌, drop}
use Rattle.read_json.specs.Steps.{walk_list}
use Rattle.read_stage.specs.Function.{coefficient_at, coefficients_at}
use Rattle.read_stage.proofs.function.coefficients.Given as goal

abbrev pub invariant-loop-sum : goal.invariant-loop-sum
invariant-loop-sum l = walk_list (λ found i sum. coefficient_at l.place found sum) l.found l.sum-index (drop l.sum-index l.sums) ≡ coefficients_at l.place l.sums
