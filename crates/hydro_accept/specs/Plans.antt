-- The meaning of a text that is made of a description, for its plans.
use Rattle.std.specs.Prelude.{◌≡◌, ◌↔◌, ℕ, ◌<◌, ℤ, List, Ok}
use Rattle.problem.specs.Validated.{Validated}
use Rattle.read_file.specs.Problem.{problem_at}
use Rattle.theory.specs.Cost.{policy_cost}
use Rattle.theory.specs.Fraction.{◌≤ᶠ◌}
use Rattle.theory.specs.Problem.{S}
use Rattle.theory.specs.Tree.{Forest, Policy}
use Rattle.theory.specs.View.{problem_of}
use Rattle.hydro_read.specs.declared.plants.Plants.{Plants}
use Rattle.hydro_read.specs.Plants.{plants_at}
use Rattle.hydro_make.specs.Plan.{Plan, Workable}
use Rattle.hydro_make.specs.PlanCost.{plan_cost}
use Rattle.hydro_make.specs.Trees.{plan_of, plan_forest}

-- The description gives plants and the text a problem, such that a plan for the plants is workable exactly where its tree is a policy of
-- the problem, and costs what the tree costs; and each policy is the tree of a plan.
pub record Means (description text : List ℕ) : Type 0 where
  pub plants : Plants
  pub problem : Validated
  pub described : plants_at description ≡ Ok plants
  pub read : problem_at text ≡ Ok problem
  pub workable : (units : ℕ) (plan : Plan) → Workable plants units plan ↔ Policy (problem_of problem) units (plan_forest plants units plan)
  pub cost : (units : ℕ) (plan : Plan) → plan_cost plants units plan ≡ policy_cost (problem_of problem) units (plan_forest plants units plan)
  pub policy : (units : ℕ) (forest : Forest) → Policy (problem_of problem) units forest → plan_forest plants units (plan_of plants forest) ≡ forest

-- b / S is at most the cost of each workable plan for the description, in any units
abbrev pub UnderPlans : List ℕ → ℤ → Type 0
UnderPlans description b = (plants : Plants) (units : ℕ) (plan : Plan) → plants_at description ≡ Ok plants → 0 < units → Workable plants units plan
    → record { up = b; under = S } ≤ᶠ plan_cost plants units plan
