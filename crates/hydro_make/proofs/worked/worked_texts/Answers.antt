use Rattle.std.proofs.Common.{refl}
use Rattle.std.specs.Fmt.{digits}
use Rattle.json.proofs.OnLiterals.{json_on_literals}
use Rattle.hydro_form.specs.Stage as forms
use Rattle.hydro_form.specs.Nodes as nodes_forms
use Rattle.hydro_make.specs.Columns as columns
use Rattle.hydro_make.specs.Stage as stage
use Rattle.hydro_make.specs.Nodes as nodes
use Rattle.hydro_make.specs.Text as text
use Rattle.hydro_make.specs.Examples.{one_stage_text, cascade_rows_text, cascade_bounds_text, cascade_objective_text, cascade_states_text, cascade_nodes_text, cascade_root_text, at_once_row_text}
use Rattle.hydro_make.proofs.worked.worked_texts.Goals as goal

pub returns : goal.returns
unfolding json_on_literals digits forms.variable forms.term forms.affine forms.equal_to forms.row forms.single forms.interval forms.variable_bound forms.least_sum forms.state_between forms.program_form forms.subproblem_form nodes_forms.realization_form nodes_forms.node_form nodes_forms.root_of nodes_forms.version nodes_forms.problem_form columns.reservoir_columns columns.columns columns.named columns.state_name columns.before_name columns.after_name columns.variable_name columns.chance_name columns.column_name stage.coming stage.water_sum stage.way_sum stage.turbined_at stage.burned_at stage.arriving_at stage.leaving_at stage.bus_sum stage.spill_cost_at stage.hydro_cost_sum stage.zero_row stage.way_constraints stage.rows stage.bounds_of stage.constraints stage.objective stage.states stage.random_variables stage.program stage.subproblem nodes.node_name nodes.support nodes.node_realization nodes.successor_to nodes.node nodes.nodes text.hydro_initial_values text.hydro_root text.hydro_data text.hydro_text one_stage_text cascade_rows_text cascade_bounds_text cascade_objective_text cascade_states_text cascade_nodes_text cascade_root_text at_once_row_text
returns c = record { one_stage = refl; columns = refl; rows = refl; bounds = refl; objective = refl; states = refl; nodes = refl; root = refl; at_once = refl }
