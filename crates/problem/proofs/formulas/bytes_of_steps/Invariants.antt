use Rattle.std.proofs.Common.{◌≡◌, ◌≤◌, ◌*◌, ◌^◌, take}
use Rattle.std.specs.List.{sum_by}
use Rattle.problem.specs.Formulas.{step_bytes}
use Rattle.problem.proofs.formulas.bytes_of_steps.Given as goal

abbrev pub invariant-loop-node : goal.invariant-loop-node
invariant-loop-node l = (l.bytes ≡ sum_by (step_bytes l.parts l.cuts) (take l.node-index l.nodes)) × (l.bytes ≤ 2 ^ 38 * l.node-index)
