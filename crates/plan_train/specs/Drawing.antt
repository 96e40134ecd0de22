-- The paths of an iteration.
use Rattle.std.specs.Prelude.{ℕ, zero, suc, ◌+◌, ◌-◌, ◌*◌, List, [], ◌∷◌}
use Rattle.problem.specs.Validated.{Validated}
use Rattle.plan_draw.specs.declared.steps.PathStep.{PathStep}
use Rattle.plan_draw.specs.Drawn.{path}

-- so many paths, which the streams from this one on draw
abbrev pub paths_from : Validated → ℕ → ℕ → ℕ → List (List PathStep)
paths_from p seed stream zero = []
paths_from p seed stream (suc n) = path p seed stream ∷ paths_from p seed (suc stream) n

-- the stream of the first path of iteration k, where each iteration draws so many
abbrev pub first_stream : ℕ → ℕ → ℕ
first_stream batch k = (k - 1) * batch + 1
