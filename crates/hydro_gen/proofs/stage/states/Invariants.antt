use Rattle.std.proofs.Common.{◌≡◌}
use Rattle.serde_json.specs.View.{members_view}
use Rattle.hydro_form.specs.Listed.{members_from}
use Rattle.hydro_gen.specs.Stage.{reservoir_state_name, generated_state}
use Rattle.hydro_gen.proofs.stage.states.Given as goal

abbrev pub invariant-loop-reservoir : goal.invariant-loop-reservoir
invariant-loop-reservoir l = members_view l.map.entries ≡ members_from reservoir_state_name generated_state 0 l.reservoir
