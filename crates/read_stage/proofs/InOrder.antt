-- A subproblem after its variables and costs.
use Rattle.std.proofs.Common.{◌≡◌, ℕ, List, Ok}
use Rattle.serde_json.specs.Data.{Data}
use Rattle.problem.specs.declared.parts.State.{State}
use Rattle.problem.specs.declared.refusal.Part.TheVariants as part_kinds
use Rattle.problem.specs.declared.refusal.Place.{Place}
use Rattle.read_json.specs.Fields.{place, key_at}
use Rattle.read_stage.specs.declared.variables.Variables.{Variables}
use Rattle.read_stage.specs.declared.function.Function.{Function}
use Rattle.read_stage.specs.Objective.{objective_at}
use Rattle.read_stage.specs.StageParts.{StageParts, stage_parts_at}
use Rattle.read_stage.specs.Subproblem.{variables_at, filled_at, read_subproblem_at}

pub read_subproblem_at-filled : (states : List State) (p : ℕ) (k name : List ℕ) (d : Data) (stage : StageParts) (vars : Variables) (costs : Function) (at : Place) → at ≡ place part_kinds.Subproblem p 0 0 → key_at at k ≡ Ok name
    → stage_parts_at at d ≡ Ok stage → variables_at states p stage ≡ Ok vars → objective_at vars.names p stage.objective ≡ Ok costs
    → read_subproblem_at states p k d ≡ filled_at vars p costs stage.constraints
unfolding read_subproblem_at
read_subproblem_at-filled states p k name d stage vars costs at is one two three four = rw (← is, one, two, three, four)
