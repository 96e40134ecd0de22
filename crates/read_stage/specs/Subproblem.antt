-- One subproblem of the problem file.
use Rattle.std.specs.Prelude.{ℕ, List, length, map, Result, Ok, nat_le, position, unwrap_or, ◌==◌, if◌then◌else◌}
use Rattle.serde_json.specs.Data.{Data, Items}
use Rattle.problem.specs.declared.parts.State.{State}
use Rattle.problem.specs.declared.parts.Decision.{Decision}
use Rattle.problem.specs.declared.parts.Subproblem.{Subproblem}
use Rattle.problem.specs.declared.refusal.Refusal.{Refusal}
use Rattle.problem.specs.declared.refusal.RefusalKind.TheVariants as kinds
use Rattle.problem.specs.declared.refusal.Part.TheVariants as part_kinds
use Rattle.read_json.specs.Steps.{◌>>=◌}
use Rattle.read_json.specs.Fields.{place, refuse, key_at}
use Rattle.read_stage.specs.declared.variables.Variables.{Variables}
use Rattle.read_stage.specs.declared.function.Function.{Function}
use Rattle.read_stage.specs.declared.constraint.Constraints.{Constraints}
use Rattle.read_stage.specs.Variables.{names_at}
use Rattle.read_stage.specs.Roles.{unused}
use Rattle.read_stage.specs.States.{uses_of_states_at}
use Rattle.read_stage.specs.Randoms.{randoms_at}
use Rattle.read_stage.specs.Decisions.{decisions_at}
use Rattle.read_stage.specs.Objective.{objective_at}
use Rattle.read_stage.specs.Rows.{picked_coefficients}
use Rattle.read_stage.specs.Constraint.{constraints_at}
use Rattle.read_stage.specs.Boxes.{boxes_at, given_low_bounds, given_high_bounds}
use Rattle.read_stage.specs.StageParts.{StageParts, stage_parts_at}

-- the variables, what the states and the random variables use, and the decisions
unfoldable pub variables_at : List State → ℕ → StageParts → Result Variables Refusal
variables_at states p stage = do
  names ← names_at p stage.variables
  with_states ← uses_of_states_at states names p (unused (length names)) stage.states
  uses ← randoms_at names p with_states stage.randoms
  decisions ← decisions_at p uses.roles
  Ok (record { names = names; uses = uses; decisions = decisions })

-- the number of the decision that is the variable v
unfoldable pub decision_number_of : List ℕ → ℕ → ℕ
decision_number_of decisions v = unwrap_or (position (λ w. w == v) decisions) (length decisions)

-- the decision that is each state's outgoing variable
unfoldable pub outs_of : List ℕ → List ℕ → List ℕ
outs_of decisions outgoing = map (decision_number_of decisions) outgoing

-- at most 200
unfoldable pub few_rows_at : ℕ → Constraints → Result Constraints Refusal
few_rows_at p found = if nat_le (length found.rows) 200 then Ok found else refuse kinds.TooLarge (place part_kinds.Subproblem p 0 0)

unfoldable pub subproblem_from_parts : Variables → Function → Constraints → List Decision → Subproblem
subproblem_from_parts vars costs found decisions = record {
  decisions = decisions;
  outs = outs_of vars.decisions vars.uses.outgoing;
  randoms = vars.uses.names;
  rows = found.rows;
  constant = costs.constant;
  state_costs = picked_coefficients vars.uses.incoming costs.coefficients;
  random_costs = picked_coefficients vars.uses.randoms costs.coefficients;
  low = given_low_bounds found.bounds vars.uses.incoming;
  high = given_high_bounds found.bounds vars.uses.incoming;
}

-- the constraints, then their number, then the boxes of the variables
unfoldable pub filled_at : Variables → ℕ → Function → Items → Result Subproblem Refusal
filled_at vars p costs ds = do
  all ← constraints_at vars p ds
  found ← few_rows_at p all
  decisions ← boxes_at vars p found.bounds costs.coefficients
  Ok (subproblem_from_parts vars costs found decisions)

unfoldable pub read_subproblem_at : List State → ℕ → List ℕ → Data → Result Subproblem Refusal
read_subproblem_at states p k d = do
  name ← key_at (place part_kinds.Subproblem p 0 0) k
  stage ← stage_parts_at (place part_kinds.Subproblem p 0 0) d
  vars ← variables_at states p stage
  costs ← objective_at vars.names p stage.objective
  filled_at vars p costs stage.constraints
