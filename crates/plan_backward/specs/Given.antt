-- The premises of the visit of a node.
use Rattle.std.specs.Prelude.{◌≡◌, ◌≢◌, ℕ, ◌<◌, ℤ, List, [], ◌∷◌, length, Some, All, ⊤}
use Rattle.problem.specs.Validated.{Validated}
use Rattle.theory.specs.declared.cut.Cut.{Cut}
use Rattle.cut_pool.specs.AtNodes.{IsStateAt, PoolsFit}
use Rattle.lp_program.specs.declared.programs.Program.{Program}
use Rattle.plan_draw.specs.declared.steps.PathStep.{PathStep}
use Rattle.plan_stage.specs.Nodes.{stage_in}

-- a node of the problem, a state in its box, and pools that fit
pub record CanVisit (p : Validated) (pools : List (List Cut)) (m : ℕ) (state : List ℤ) : Type 0 where
  pub known : m < length p.parts.nodes
  pub fit : PoolsFit p pools
  pub inside : IsStateAt p m state

-- a stage problem of the node m over these pools, at some values and state
pub record IsStageOver (p : Validated) (pools : List (List Cut)) (m : ℕ) (lp : Program) : Type 0 where
  pub values : List ℤ
  pub state : List ℤ
  pub is : stage_in p pools m values state ≡ Some lp

-- the state lies in the box of the step's node
abbrev pub IsVisitInside : Validated → PathStep × List ℤ → Type 0
IsVisitInside p visit = IsStateAt p visit.0.node visit.1

-- no two steps are at the same node
abbrev pub AreDistinct : List PathStep → Type 0
AreDistinct [] = ⊤
AreDistinct (s ∷ ss) = All (λ (t : PathStep). t.node ≢ s.node) ss × AreDistinct ss
