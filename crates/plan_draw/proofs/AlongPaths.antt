-- The steps of a path by their places.
use Rattle.std.proofs.Common.{ℕ, zero, suc, ◌<◌, List, [], ◌∷◌, length, get_or, Contains, arith}
use Rattle.problem.specs.declared.parts.ProblemParts.{ProblemParts}
use Rattle.problem.specs.Parts.{successors_at}
use Rattle.plan_draw.specs.declared.steps.PathStep.{PathStep}
use Rattle.plan_draw.specs.Drawn.{FollowsArcs, StartsAtRoot}

-- the first step is at a successor of the root
pub starts_with : (parts : ProblemParts) (steps : List PathStep) (s : PathStep) → StartsAtRoot parts steps → Contains parts.root (get_or steps 0 s).node
starts_with parts [] s h = absurd h
starts_with parts (t ∷ ss) s h = h

-- each other step is at a successor of the node before it
pub follows_at : (parts : ProblemParts) (steps : List PathStep) (i : ℕ) (s : PathStep) → FollowsArcs parts steps → suc i < length steps → Contains (successors_at parts (get_or steps i s).node) (get_or steps (suc i) s).node
follows_at parts [] i s f h = absurd (omega arith)
follows_at parts (t ∷ []) i s f h = absurd (omega arith)
follows_at parts (t ∷ u ∷ ss) zero s f h = f.0
follows_at parts (t ∷ u ∷ ss) (suc i) s f h = follows_at parts (u ∷ ss) i s f.1 (omega arith)
