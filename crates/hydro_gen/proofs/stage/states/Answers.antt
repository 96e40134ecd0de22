use Rattle.std.proofs.Common.{◌∙◌, arith}
use Rattle.serde_json.specs.View.{view, members_view}
use Rattle.hydro_gen.specs.Stage.{generated_state}
use Rattle.hydro_gen.proofs.Orders.{reservoir_grown}
use Rattle.hydro_gen.proofs.stage.states.Goals as goal

pub loop-reservoir-preserved : goal.loop-reservoir-preserved
loop-reservoir-preserved c =
    reservoir_grown 118 generated_state c.loop-reservoir.reservoir (members_view c.loop-reservoir.map.entries) (members_view c.put.new.map.entries) c.text_of.result.now (view c.in_ok-value.value)
    (omega arith) c.in_ok-put.ensures.ok (c.text_of.ensures ∙ c.reservoir_name-name.ensures.value) c.in_ok-value.ensures c.loop-reservoir.invariant
