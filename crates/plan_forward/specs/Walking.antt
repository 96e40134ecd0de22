-- Walks along paths: the state that comes into each step, by the decisions before it.
use Rattle.std.specs.Prelude.{◌≡◌, ℕ, ◌+◌, ◌≤◌, ℤ, Bool, true, false, List, [], ◌∷◌, ◌++◌, length, map, zip, get_or, All, Result, Ok}
use Rattle.base_num.specs.Steps.{◌>>=◌}
use Rattle.problem.specs.declared.parts.Node.{Node}
use Rattle.problem.specs.declared.parts.ProblemParts.{ProblemParts}
use Rattle.problem.specs.Validated.{Validated}
use Rattle.theory.specs.declared.cut.Cut.{Cut}
use Rattle.theory.specs.Problem.{S}
use Rattle.theory.specs.Tree.{times_all}
use Rattle.theory.specs.View.{problem_of}
use Rattle.plan_answer.specs.declared.classifying.Infeasibility.{Infeasibility}
use Rattle.lp_program.specs.Solving.{Solving}
use Rattle.plan_draw.specs.declared.steps.PathStep.{PathStep}
use Rattle.plan_draw.specs.declared.steps.Trajectory.{Trajectory}
use Rattle.plan_forward.specs.declared.deciding.Decided.{Decided}
use Rattle.plan_forward.specs.Deciding.{decide_of}
use Rattle.cut_pool.specs.AtNodes.{IsStateAt}

-- the values of a step's realization
abbrev pub values_of : ProblemParts → PathStep → List ℤ
values_of parts s = get_or (get_or (map (λ (n : Node). n.values) parts.nodes) s.node []) s.realization []

abbrev pub one_if : Bool → ℕ
one_if true = 1
one_if false = 0

abbrev pub no_walk : Trajectory
no_walk = record { states = []; unanswered = 0 }

-- with one step more, which began in this state
abbrev pub walked : Trajectory → List ℤ → Decided → Trajectory
walked walk state d = record { states = walk.states ++ state ∷ []; unanswered = walk.unanswered + one_if d.unanswered }

-- one step: the walk with it, and the state that leaves its node
abbrev pub step_on : (PathStep → List ℤ → Result Decided Infeasibility) → Trajectory → List ℤ → PathStep → Result (Trajectory × List ℤ) Infeasibility
step_on decide walk state s = decide s state >>= λ d. Ok (walked walk state d, d.next)

-- a walk that has come to this state goes on through these steps; it stops where no decisions exist
abbrev pub walk_on : (PathStep → List ℤ → Result Decided Infeasibility) → Trajectory → List ℤ → List PathStep → Result Trajectory Infeasibility
walk_on decide walk state [] = Ok walk
walk_on decide walk state (s ∷ ss) = step_on decide walk state s >>= λ after. walk_on decide after.0 after.1 ss

-- the decisions at a step
abbrev pub decide_step : {Start Chain : Type 0} → Solving Start Chain → Validated → List (List Cut) → ℕ → PathStep → List ℤ → Result Decided Infeasibility
decide_step v p pools run s state = decide_of v p pools run s.node (values_of p.parts s) state

-- the walk along a path, from the initial state; all of it over the same pools
unfoldable pub trajectory_of : {Start Chain : Type 0} → Solving Start Chain → Validated → List (List Cut) → ℕ → List PathStep → Result Trajectory Infeasibility
trajectory_of v p pools run path = walk_on (decide_step v p pools run) no_walk (times_all S (problem_of p).initial) path

-- the answers of f for each item in order, up to the first refusal
abbrev pub each_of : {A B E : Type 0} → (A → Result B E) → List A → Result (List B) E
each_of f [] = Ok []
each_of f (x ∷ xs) = f x >>= λ y. each_of f xs >>= λ ys. Ok (y ∷ ys)

-- one part after the other, up to the first refusal
abbrev pub in_turn : {B E : Type 0} → Result (List B) E → Result (List B) E → Result (List B) E
in_turn first tail = first >>= λ ys. tail >>= λ zs. Ok (ys ++ zs)

-- the walks along paths, one after another, all over the same pools
abbrev pub walks_of : {Start Chain : Type 0} → Solving Start Chain → Validated → List (List Cut) → ℕ → List (List PathStep) → Result (List Trajectory) Infeasibility
walks_of v p pools run paths = each_of (trajectory_of v p pools run) paths

-- each state lies in the box of its step's node
abbrev pub AreStatesInside : Validated → List PathStep → List (List ℤ) → Type 0
AreStatesInside p path states = All (λ (q : PathStep × List ℤ). IsStateAt p q.0.node q.1) (zip path states)

-- a walk along this path: one state per step, each inside, and at most as many answers of no use
pub record IsWalk (p : Validated) (path : List PathStep) (walk : Trajectory) : Type 0 where
  pub count : length walk.states ≡ length path
  pub inside : AreStatesInside p path walk.states
  pub unanswered : walk.unanswered ≤ length path

-- for each path the walk along it
pub record AreWalks (p : Validated) (paths : List (List PathStep)) (walks : List Trajectory) : Type 0 where
  pub count : length walks ≡ length paths
  pub each : All (λ (q : List PathStep × Trajectory). IsWalk p q.0 q.1) (zip paths walks)
