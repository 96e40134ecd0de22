use Rattle.std.proofs.Common.{◌≡◌, ℕ, length, slice_get, Some}
use Rattle.plan_stage.specs.Ready.{IsReady}
use Rattle.plan_stage.proofs.warm_starts.started.Given as goal

abbrev pub invariant-loop-node : goal.invariant-loop-node
invariant-loop-node g l = record {
  count : length l.made ≡ l.node;
  each : (m : ℕ) (start : _) → slice_get l.made m ≡ Some start → IsReady (g.V.Solver.does l.solver) (g.V.Solver.suits l.solver) l.problem m start;
}
