use Rattle.std.proofs.Common.{refl}
use Rattle.read_json.specs.Steps.{walk_members, walk_items, walk_list}
use Rattle.read_json.specs.Values.{present_or, object_or, array_or, string_or, members_or, integer_or}
use Rattle.hydro_read.specs.Fields.{hydro_present_at, hydro_object_at, hydro_array_at, hydro_string_at, hydro_table_at, hydro_items_at, hydro_members_at, hydro_value_at, hydro_number_at, amount_at, amount_or_zero_at, natural_at, hydro_entry_at, hydro_entries_at}
use Rattle.hydro_read.specs.Names.{is_hydro_name, hydro_key_at, hydro_known_at, named_at}
use Rattle.hydro_read.specs.Tables.{hydro_counts_at, parts_at, hydro_tables_at}
use Rattle.hydro_read.specs.Grid.{bus_at, buses_at, travel_at, levels_at, read_reservoir_at, reservoirs_at, state_count, state_count_at, thermal_at, thermals_at, line_at, lines_at}
use Rattle.hydro_read.specs.Stages.{inflow_at, inflows_at, inflow_count_at, total_inflow_weight, total_at, hydro_stage_at, stages_at}
use Rattle.hydro_read.specs.Plants.{described_at, plants_of}
use Rattle.hydro_read.specs.Texts.{hydro_kind_text, hydro_part_text, hydro_refused, hydro_refused_text, hydro_refusal_text}
use Rattle.hydro_read.proofs.worked.worked_rows.Goals as goal

pub returns-clause-one_stage : goal.returns-clause-one_stage
unfolding walk_members walk_items walk_list present_or object_or array_or string_or members_or integer_or hydro_present_at hydro_object_at hydro_array_at hydro_string_at hydro_table_at hydro_items_at hydro_members_at hydro_value_at hydro_number_at amount_at amount_or_zero_at natural_at hydro_entry_at hydro_entries_at is_hydro_name hydro_key_at hydro_known_at named_at hydro_counts_at parts_at hydro_tables_at bus_at buses_at travel_at levels_at read_reservoir_at reservoirs_at state_count state_count_at thermal_at thermals_at line_at lines_at inflow_at inflows_at inflow_count_at total_inflow_weight total_at hydro_stage_at stages_at described_at plants_of
returns-clause-one_stage c = refl

pub returns-clause-travel : goal.returns-clause-travel
unfolding walk_members walk_items walk_list present_or object_or array_or string_or members_or integer_or hydro_present_at hydro_object_at hydro_array_at hydro_string_at hydro_table_at hydro_items_at hydro_members_at hydro_value_at hydro_number_at amount_at amount_or_zero_at natural_at hydro_entry_at hydro_entries_at is_hydro_name hydro_key_at hydro_known_at named_at hydro_counts_at parts_at hydro_tables_at bus_at buses_at travel_at levels_at read_reservoir_at reservoirs_at state_count state_count_at thermal_at thermals_at line_at lines_at inflow_at inflows_at inflow_count_at total_inflow_weight total_at hydro_stage_at stages_at described_at plants_of
returns-clause-travel c = refl

pub returns-clause-unknown_bus : goal.returns-clause-unknown_bus
unfolding walk_members walk_items walk_list present_or object_or array_or string_or members_or integer_or hydro_present_at hydro_object_at hydro_array_at hydro_string_at hydro_table_at hydro_items_at hydro_members_at hydro_value_at hydro_number_at amount_at amount_or_zero_at natural_at hydro_entry_at hydro_entries_at is_hydro_name hydro_key_at hydro_known_at named_at hydro_counts_at parts_at hydro_tables_at bus_at buses_at travel_at levels_at read_reservoir_at reservoirs_at state_count state_count_at thermal_at thermals_at line_at lines_at inflow_at inflows_at inflow_count_at total_inflow_weight total_at hydro_stage_at stages_at described_at plants_of
returns-clause-unknown_bus c = refl

pub returns-clause-low : goal.returns-clause-low
unfolding walk_members walk_items walk_list present_or object_or array_or string_or members_or integer_or hydro_present_at hydro_object_at hydro_array_at hydro_string_at hydro_table_at hydro_items_at hydro_members_at hydro_value_at hydro_number_at amount_at amount_or_zero_at natural_at hydro_entry_at hydro_entries_at is_hydro_name hydro_key_at hydro_known_at named_at hydro_counts_at parts_at hydro_tables_at bus_at buses_at travel_at levels_at read_reservoir_at reservoirs_at state_count state_count_at thermal_at thermals_at line_at lines_at inflow_at inflows_at inflow_count_at total_inflow_weight total_at hydro_stage_at stages_at described_at plants_of
returns-clause-low c = refl

pub returns-clause-total : goal.returns-clause-total
unfolding walk_members walk_items walk_list present_or object_or array_or string_or members_or integer_or hydro_present_at hydro_object_at hydro_array_at hydro_string_at hydro_table_at hydro_items_at hydro_members_at hydro_value_at hydro_number_at amount_at amount_or_zero_at natural_at hydro_entry_at hydro_entries_at is_hydro_name hydro_key_at hydro_known_at named_at hydro_counts_at parts_at hydro_tables_at bus_at buses_at travel_at levels_at read_reservoir_at reservoirs_at state_count state_count_at thermal_at thermals_at line_at lines_at inflow_at inflows_at inflow_count_at total_inflow_weight total_at hydro_stage_at stages_at described_at plants_of
returns-clause-total c = refl

pub returns-clause-weight : goal.returns-clause-weight
unfolding walk_members walk_items walk_list present_or object_or array_or string_or members_or integer_or hydro_present_at hydro_object_at hydro_array_at hydro_string_at hydro_table_at hydro_items_at hydro_members_at hydro_value_at hydro_number_at amount_at amount_or_zero_at natural_at hydro_entry_at hydro_entries_at is_hydro_name hydro_key_at hydro_known_at named_at hydro_counts_at parts_at hydro_tables_at bus_at buses_at travel_at levels_at read_reservoir_at reservoirs_at state_count state_count_at thermal_at thermals_at line_at lines_at inflow_at inflows_at inflow_count_at total_inflow_weight total_at hydro_stage_at stages_at described_at plants_of
returns-clause-weight c = refl

pub returns-clause-no_object : goal.returns-clause-no_object
unfolding walk_members walk_items walk_list present_or object_or array_or string_or members_or integer_or hydro_present_at hydro_object_at hydro_array_at hydro_string_at hydro_table_at hydro_items_at hydro_members_at hydro_value_at hydro_number_at amount_at amount_or_zero_at natural_at hydro_entry_at hydro_entries_at is_hydro_name hydro_key_at hydro_known_at named_at hydro_counts_at parts_at hydro_tables_at bus_at buses_at travel_at levels_at read_reservoir_at reservoirs_at state_count state_count_at thermal_at thermals_at line_at lines_at inflow_at inflows_at inflow_count_at total_inflow_weight total_at hydro_stage_at stages_at described_at plants_of
returns-clause-no_object c = refl

pub returns-clause-text : goal.returns-clause-text
unfolding hydro_kind_text hydro_part_text hydro_refused hydro_refused_text hydro_refusal_text
returns-clause-text c = refl
