use Rattle.std.proofs.Common.{◌≡◌, ◌+◌, ◌-◌, length, ◌++◌, All}
use Rattle.plan_draw.specs.Drawn.{IsPath}
use Rattle.plan_train.specs.Drawing.{paths_from}
use Rattle.plan_train.proofs.drawing.paths_from.Given as goal

abbrev pub invariant-loop-place : goal.invariant-loop-place
invariant-loop-place l = record {
  value : l.found ++ paths_from l.problem l.seed (l.first + l.place) (l.count - l.place) ≡ paths_from l.problem l.seed l.first l.count;
  count : length l.found ≡ l.place;
  paths : All (IsPath l.problem) l.found;
}
