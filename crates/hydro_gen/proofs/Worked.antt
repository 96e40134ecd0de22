-- Worked parts of generated problems.
use Rattle.std.proofs.Common.{◌≡◌, pos, codes, refl}
use Rattle.json.proofs.OnLiterals.{json_on_literals}
use Rattle.serde_json.specs.Written.{compact_text}
use Rattle.serde_json.specs.Data.{object}
use Rattle.std.specs.Fmt.{digits}
use Rattle.hydro_gen.specs.Names.{reservoir_name, generated_node_name}
use Rattle.hydro_gen.specs.Nodes.{inflow, inflow_support, pair, successors}
use Rattle.hydro_form.specs.Stage.{single, interval, variable_bound}

first_node : generated_node_name 0 ≡ codes "s001w0"
unfolding generated_node_name
first_node = refl

last_node : generated_node_name 999 ≡ codes "s500w1"
unfolding generated_node_name
last_node = refl

last_reservoir : reservoir_name (codes "w") 9 ≡ codes "w10"
unfolding reservoir_name
last_reservoir = refl

dry_inflow : inflow 0 21 ≡ 10
unfolding inflow
dry_inflow = refl

wet_inflow : inflow 1 41 ≡ 30
unfolding inflow
wet_inflow = refl

-- the words that follow are 7, 8 and so on
dry_support : compact_text (object (inflow_support (λ place. place) 7 0 2)) ≡ codes "{\"w01\":7,\"w02\":8}"
unfolding json_on_literals digits inflow_support inflow reservoir_name
dry_support = refl

-- the wet node of stage 4 is followed by both nodes of stage 5
wet_successors : compact_text (object (successors 12 7)) ≡ codes "{\"s005w0\":1,\"s005w1\":3}"
unfolding json_on_literals digits successors pair generated_node_name
wet_successors = refl

no_successors : compact_text (object (successors 12 23)) ≡ codes "{}"
unfolding json_on_literals successors
no_successors = refl

one_bound : compact_text (variable_bound (codes "q01") (pos 0) (pos 30)) ≡ codes "{\"function\":{\"name\":\"q01\",\"type\":\"Variable\"},\"set\":{\"lower\":0,\"type\":\"Interval\",\"upper\":30}}"
unfolding json_on_literals digits variable_bound single interval
one_bound = refl
