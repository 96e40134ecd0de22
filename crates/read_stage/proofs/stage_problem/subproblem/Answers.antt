use Rattle.serde_json.specs.View.{view}
use Rattle.read_stage.specs.Shown.{shown}
use Rattle.read_stage.proofs.InOrder.{read_subproblem_at-filled}
use Rattle.read_stage.proofs.stage_problem.subproblem.Goals as goal

pub returns : goal.returns
returns c =
    let a = c.args in
    let vars = c.in_ok-variables.variables in
    let costs = c.in_ok-costs.costs in
    let same = read_subproblem_at-filled a.states.now a.p a.name.now c.in_ok-short.field-0.now (view a.value.now) (shown c.in_ok-stage.stage) vars costs c.new-place.result c.new-place.ensures c.in_ok-short.ensures c.in_ok-stage.ensures c.in_ok-variables.ensures c.in_ok-costs.ensures in
    rw same c.filled.ensures
