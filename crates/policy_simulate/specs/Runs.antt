-- Runs: the nodes and values of scenarios that are drawn, and of those that a problem stores.
use Rattle.std.specs.Prelude.{◌≡◌, ℕ, zero, suc, ◌+◌, ◌^◌, true, List, [], ◌∷◌, map}
use Rattle.problem.specs.declared.parts.Moment.{Moment}
use Rattle.problem.specs.declared.parts.ProblemParts.{ProblemParts}
use Rattle.problem.specs.Limits.{steps_fit}
use Rattle.problem.specs.Validated.{Validated}
use Rattle.plan_draw.specs.declared.steps.PathStep.{PathStep}
use Rattle.plan_draw.specs.Drawn.{path}
use Rattle.plan_forward.specs.Walking.{values_of}

-- a run of a problem: it begins at a successor of the root and goes on to successors, with values of each node
abbrev pub IsProblemRun : Validated → List Moment → Type 0
IsProblemRun p moments = steps_fit p.parts p.parts.root moments ≡ true

-- the node of a step, and the values of its realization
abbrev pub moment_of : ProblemParts → PathStep → Moment
moment_of parts s = record { node = s.node; values = values_of parts s }

-- the run of the scenario i: the path of stream 2^32 + i
abbrev pub drawn : Validated → ℕ → ℕ → List Moment
drawn p seed i = map (moment_of p.parts) (path p seed (2 ^ 32 + i))

-- so many of them, from the scenario i on
abbrev pub drawn_from : Validated → ℕ → ℕ → ℕ → List (List Moment)
drawn_from p seed i zero = []
drawn_from p seed i (suc n) = drawn p seed i ∷ drawn_from p seed (suc i) n
