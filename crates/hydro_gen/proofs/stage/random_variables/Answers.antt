use Rattle.std.proofs.Common.{ℕ, ◌∙◌, ap}
use Rattle.serde_json.specs.Data.{string}
use Rattle.hydro_gen.specs.Stage.{inflow_name}
use Rattle.hydro_form.proofs.Counted.{list_grown}
use Rattle.hydro_gen.proofs.stage.random_variables.Goals as goal

pub loop-reservoir-preserved : goal.loop-reservoir-preserved
loop-reservoir-preserved c =
    list_grown (λ (j : ℕ). string (inflow_name j)) c.loop-reservoir.reservoir c.loop-reservoir.list.items c.push.new.self.items c.in_ok-try_from_str.field-0 c.in_ok-push.ensures.items c.loop-reservoir.invariant
    (c.in_ok-try_from_str.ensures ∙ ap string (c.text_of.ensures ∙ c.reservoir_name-name.ensures.value))
