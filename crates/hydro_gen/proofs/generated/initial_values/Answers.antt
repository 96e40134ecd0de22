use Rattle.std.proofs.Common.{◌∙◌, arith}
use Rattle.serde_json.specs.View.{view, members_view}
use Rattle.hydro_form.specs.Listed.{whole_data}
use Rattle.hydro_gen.proofs.Orders.{reservoir_grown}
use Rattle.hydro_gen.proofs.generated.initial_values.Goals as goal

pub loop-reservoir-preserved : goal.loop-reservoir-preserved
loop-reservoir-preserved c =
    reservoir_grown 118 (λ j. whole_data 50) c.loop-reservoir.reservoir (members_view c.loop-reservoir.map.entries) (members_view c.put.new.map.entries) c.text_of.result.now (view c.from.result)
    (omega arith) c.in_ok-put.ensures.ok (c.text_of.ensures ∙ c.reservoir_name-name.ensures.value) c.from.ensures c.loop-reservoir.invariant
