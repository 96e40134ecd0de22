use Rattle.std.proofs.Common.{◌≡◌}
use Rattle.serde_json.specs.View.{members_view}
use Rattle.hydro_form.specs.Listed.{members_from, whole_data}
use Rattle.hydro_gen.specs.Stage.{reservoir_state_name}
use Rattle.hydro_gen.proofs.generated.initial_values.Given as goal

abbrev pub invariant-loop-reservoir : goal.invariant-loop-reservoir
invariant-loop-reservoir l = members_view l.map.entries ≡ members_from reservoir_state_name (λ j. whole_data 50) 0 l.reservoir
