-- Worked tables, computed.
use Rattle.std.proofs.Common.{◌≡◌, pos, negsuc, [], ◌∷◌, Some, None, true, false, refl}
use Rattle.std.specs.Option.{option_map, option_and_then}
use lib.Count.{count_leading_zeros}
use Rattle.lp_program.specs.declared.programs.Program.{Program}
use Rattle.lp_program.specs.Numbers.{number}
use Rattle.lp_table.specs.declared.table.WarmTable.{WarmTable}
use Rattle.lp_table.specs.Numbers.{shift_up, shift_down}
use Rattle.lp_scale.specs.Exponents.{with_row_terms, spans_of, pass_of, columns_of}
use Rattle.lp_scale.specs.Scaling.{scaled_quantity, scaled_cell, costs_scale, values_scale, scaled_column, column_step, blank_of, columns_table}
use Rattle.lp_scale.specs.Appending.{scaled_sides, row_scale, scaled_term, scaled_terms, appended_row, appended_cut}
use Rattle.lp_scale.specs.First.{first_of}
use Rattle.lp_scale.specs.Waiting.{is_narrow, waiting_of, waits}
use Rattle.lp_scale.specs.Widening.{top_of, cut_spans, rescaled, widened_columns, widened_by, widened, widened_in_full}

-- x at least 3, at a cost of 2
abbrev one_row : Program
one_row =
    record {
      columns = record { low = number (pos 0); high = number (pos 42949672960); cost = number (pos 8589934592) } ∷ [];
      rows = record { low = Some (number (pos 12884901888)); high = None; terms = (0, number (pos 4294967296)) ∷ [] } ∷ [];
      decisions = 1;
      own = 1;
    }

one_row_scales : option_map (λ (t : WarmTable). t.scales) (first_of one_row) ≡ Some (record { rows = negsuc 0 ∷ []; columns = pos 0 ∷ []; costs = negsuc 1; values = pos 0 })
unfolding with_row_terms spans_of pass_of columns_of count_leading_zeros scaled_quantity scaled_cell costs_scale values_scale scaled_column column_step blank_of columns_table scaled_sides row_scale scaled_term scaled_terms appended_row first_of shift_up shift_down
one_row_scales = refl

one_row_terms : option_map (λ (t : WarmTable). t.rows) (first_of one_row) ≡ Some (((0, pos 549755813888) ∷ []) ∷ [])
unfolding with_row_terms spans_of pass_of columns_of count_leading_zeros scaled_quantity scaled_cell costs_scale values_scale scaled_column column_step blank_of columns_table scaled_sides row_scale scaled_term scaled_terms appended_row first_of shift_up shift_down
one_row_terms = refl

one_row_costs : option_map (λ (t : WarmTable). t.reduced) (first_of one_row) ≡ Some (pos 549755813888 ∷ [])
unfolding with_row_terms spans_of pass_of columns_of count_leading_zeros scaled_quantity scaled_cell costs_scale values_scale scaled_column column_step blank_of columns_table scaled_sides row_scale scaled_term scaled_terms appended_row first_of shift_up shift_down
one_row_costs = refl

-- a reservoir, a turbine and a plant
abbrev stage : Program
stage =
    record {
      columns = record { low = number (pos 0); high = number (pos 42949672960); cost = number (pos 0) } ∷ record { low = number (pos 0); high = number (pos 34359738368); cost = number (pos 0) } ∷ record { low = number (pos 0); high = number (pos 85899345920); cost = number (pos 21474836480) } ∷ [];
      rows = record { low = Some (number (pos 21474836480)); high = Some (number (pos 21474836480)); terms = (0, number (pos 4294967296)) ∷ (1, number (pos 4294967296)) ∷ [] } ∷ record { low = Some (number (pos 38654705664)); high = Some (number (pos 38654705664)); terms = (1, number (pos 4294967296)) ∷ (2, number (pos 4294967296)) ∷ [] } ∷ [];
      decisions = 3;
      own = 2;
    }

stage_scales : option_map (λ (t : WarmTable). t.scales) (first_of stage) ≡ Some (record { rows = negsuc 0 ∷ negsuc 0 ∷ []; columns = pos 0 ∷ pos 0 ∷ pos 0 ∷ []; costs = negsuc 2; values = pos 0 })
unfolding with_row_terms spans_of pass_of columns_of count_leading_zeros scaled_quantity scaled_cell costs_scale values_scale scaled_column column_step blank_of columns_table scaled_sides row_scale scaled_term scaled_terms appended_row first_of shift_up shift_down
stage_scales = refl

stage_costs : option_map (λ (t : WarmTable). t.reduced) (first_of stage) ≡ Some (pos 0 ∷ pos 0 ∷ pos 687194767360 ∷ [])
unfolding with_row_terms spans_of pass_of columns_of count_leading_zeros scaled_quantity scaled_cell costs_scale values_scale scaled_column column_step blank_of columns_table scaled_sides row_scale scaled_term scaled_terms appended_row first_of shift_up shift_down
stage_costs = refl

-- four columns in one row
abbrev flips : Program
flips =
    record {
      columns = record { low = number (pos 0); high = number (pos 12884901888); cost = number (pos 4294967296) } ∷ record { low = number (pos 0); high = number (pos 17179869184); cost = number (pos 8589934592) } ∷ record { low = number (pos 0); high = number (pos 38654705664); cost = number (pos 30064771072) } ∷ record { low = number (negsuc 21474836479); high = number (pos 21474836480); cost = number (pos 38654705664) } ∷ [];
      rows = record { low = Some (number (pos 51539607552)); high = None; terms = (0, number (pos 4294967296)) ∷ (1, number (pos 8589934592)) ∷ (2, number (pos 4294967296)) ∷ (3, number (pos 4294967296)) ∷ [] } ∷ [];
      decisions = 4;
      own = 1;
    }

flips_scales : option_map (λ (t : WarmTable). t.scales) (first_of flips) ≡ Some (record { rows = negsuc 1 ∷ []; columns = pos 0 ∷ pos 0 ∷ pos 0 ∷ pos 0 ∷ []; costs = negsuc 3; values = pos 0 })
unfolding with_row_terms spans_of pass_of columns_of count_leading_zeros scaled_quantity scaled_cell costs_scale values_scale scaled_column column_step blank_of columns_table scaled_sides row_scale scaled_term scaled_terms appended_row first_of shift_up shift_down
flips_scales = refl

flips_terms : option_map (λ (t : WarmTable). t.rows) (first_of flips) ≡ Some (((0, pos 274877906944) ∷ (1, pos 549755813888) ∷ (2, pos 274877906944) ∷ (3, pos 274877906944) ∷ []) ∷ [])
unfolding with_row_terms spans_of pass_of columns_of count_leading_zeros scaled_quantity scaled_cell costs_scale values_scale scaled_column column_step blank_of columns_table scaled_sides row_scale scaled_term scaled_terms appended_row first_of shift_up shift_down
flips_terms = refl

-- a factor of 3
abbrev thirds : Program
thirds =
    record {
      columns = record { low = number (pos 0); high = number (pos 4294967296); cost = number (pos 4294967296) } ∷ [];
      rows = record { low = Some (number (pos 4294967296)); high = Some (number (pos 4294967296)); terms = (0, number (pos 12884901888)) ∷ [] } ∷ [];
      decisions = 1;
      own = 1;
    }

thirds_terms : option_map (λ (t : WarmTable). t.rows) (first_of thirds) ≡ Some (((0, pos 824633720832) ∷ []) ∷ [])
unfolding with_row_terms spans_of pass_of columns_of count_leading_zeros scaled_quantity scaled_cell costs_scale values_scale scaled_column column_step blank_of columns_table scaled_sides row_scale scaled_term scaled_terms appended_row first_of shift_up shift_down
thirds_terms = refl

-- columns and rows of very different size
abbrev steep : Program
steep =
    record {
      columns = record { low = number (pos 0); high = number (pos 429496729600); cost = number (pos 0) } ∷ record { low = number (pos 0); high = number (pos 128849018880); cost = number (pos 0) } ∷ record { low = number (pos 0); high = number (pos 214748364800); cost = number (pos 85899345920000) } ∷ record { low = number (pos 0); high = number (pos 4294967296000000000); cost = number (pos 4294967296) } ∷ [];
      rows = record { low = Some (number (pos 257698037760)); high = Some (number (pos 257698037760)); terms = (0, number (pos 4294967296)) ∷ (1, number (pos 4294967296)) ∷ [] } ∷ record { low = Some (number (pos 171798691840)); high = Some (number (pos 171798691840)); terms = (1, number (pos 4294967296)) ∷ (2, number (pos 4294967296)) ∷ [] } ∷ record { low = Some (number (pos 300647710720000000)); high = None; terms = (0, number (pos 4294967296000000)) ∷ (3, number (pos 4294967296)) ∷ [] } ∷ record { low = Some (number (pos 171798691840000000)); high = None; terms = (0, number (pos 1288491620455765)) ∷ (3, number (pos 4294967296)) ∷ [] } ∷ [];
      decisions = 4;
      own = 4;
    }

steep_scales : option_map (λ (t : WarmTable). t.scales) (first_of steep) ≡ Some (record { rows = negsuc 0 ∷ negsuc 0 ∷ negsuc 19 ∷ negsuc 18 ∷ []; columns = pos 0 ∷ pos 0 ∷ pos 0 ∷ pos 17 ∷ []; costs = negsuc 17; values = pos 0 })
unfolding with_row_terms spans_of pass_of columns_of count_leading_zeros scaled_quantity scaled_cell costs_scale values_scale scaled_column column_step blank_of columns_table scaled_sides row_scale scaled_term scaled_terms appended_row first_of shift_up shift_down
steep_scales = refl

-- a box that is wider than values may be
abbrev tall : Program
tall =
    record {
      columns = record { low = number (pos 0); high = number (pos 4722366482869645213696); cost = number (pos 4294967296) } ∷ record { low = number (pos 0); high = number (pos 12884901888); cost = number (pos 21474836480) } ∷ [];
      rows = record { low = Some (number (pos 2361183241434822606848)); high = None; terms = (0, number (pos 4294967296)) ∷ [] } ∷ record { low = Some (number (pos 8589934592)); high = None; terms = (1, number (pos 4294967296)) ∷ [] } ∷ [];
      decisions = 2;
      own = 2;
    }

tall_values : option_map (λ (t : WarmTable). t.scales.values) (first_of tall) ≡ Some (negsuc 18)
unfolding with_row_terms spans_of pass_of columns_of count_leading_zeros scaled_quantity scaled_cell costs_scale values_scale scaled_column column_step blank_of columns_table scaled_sides row_scale scaled_term scaled_terms appended_row first_of shift_up shift_down
tall_values = refl

-- factors, bounds and costs below 0
abbrev interval : Program
interval =
    record {
      columns = record { low = number (negsuc 30064771071); high = number (negsuc 8589934591); cost = number (pos 12884901888) } ∷ record { low = number (negsuc 42949672959); high = number (pos 42949672960); cost = number (negsuc 4294967295) } ∷ record { low = number (pos 0); high = number (pos 171798691840); cost = number (pos 21474836480) } ∷ [];
      rows = record { low = Some (number (negsuc 17179869183)); high = Some (number (pos 25769803776)); terms = (0, number (pos 4294967296)) ∷ (1, number (pos 8589934592)) ∷ (2, number (negsuc 4294967295)) ∷ [] } ∷ record { low = None; high = Some (number (pos 12884901888)); terms = (0, number (negsuc 8589934591)) ∷ (1, number (pos 4294967296)) ∷ [] } ∷ [];
      decisions = 3;
      own = 2;
    }

interval_stands : option_map (λ (t : WarmTable). t.basis.high) (first_of interval) ≡ Some (false ∷ true ∷ false ∷ [])
unfolding with_row_terms spans_of pass_of columns_of count_leading_zeros scaled_quantity scaled_cell costs_scale values_scale scaled_column column_step blank_of columns_table scaled_sides row_scale scaled_term scaled_terms appended_row first_of shift_up shift_down
interval_stands = refl

-- exponents above 0
abbrev runaway : Program
runaway =
    record {
      columns = record { low = number (pos 920701512557196); high = number (pos 117507942678290262); cost = number (pos 245511287151066) } ∷ record { low = number (pos 335007449088); high = number (pos 4913442586624); cost = number (pos 0) } ∷ record { low = number (pos 8589934592); high = number (pos 357555071019325646); cost = number (pos 38376909770) } ∷ [];
      rows = record { low = Some (number (pos 83310331876159680023)); high = None; terms = (1, number (pos 4294967296)) ∷ (2, number (pos 1000727379968)) ∷ [] } ∷ record { low = Some (number (pos 10510665696589712330)); high = None; terms = (0, number (pos 371100677779)) ∷ (1, number (pos 3082020331)) ∷ (2, number (pos 4294967296)) ∷ [] } ∷ record { low = Some (number (pos 11676966785433635438)); high = None; terms = (0, number (pos 8589934592)) ∷ (1, number (pos 2419071643287)) ∷ (2, number (pos 137438953472)) ∷ [] } ∷ [];
      decisions = 3;
      own = 3;
    }

runaway_scales : option_map (λ (t : WarmTable). t.scales) (first_of runaway) ≡ Some (record { rows = negsuc 9 ∷ negsuc 7 ∷ negsuc 9 ∷ []; columns = pos 1 ∷ pos 0 ∷ pos 2 ∷ []; costs = negsuc 16; values = negsuc 2 })
unfolding with_row_terms spans_of pass_of columns_of count_leading_zeros scaled_quantity scaled_cell costs_scale values_scale scaled_column column_step blank_of columns_table scaled_sides row_scale scaled_term scaled_terms appended_row first_of shift_up shift_down
runaway_scales = refl

-- a side that leaves the range of values
abbrev too_large : Program
too_large =
    record {
      columns = record { low = number (pos 0); high = number (pos 4294967296); cost = number (pos 4294967296) } ∷ record { low = number (pos 0); high = number (pos 4722366482869645213696); cost = number (pos 0) } ∷ [];
      rows = record { low = Some (number (pos 1152921504606846976)); high = None; terms = (0, number (pos 4294967296)) ∷ (1, number (pos 1)) ∷ [] } ∷ record { low = Some (number (negsuc 1237940039285380274899124223)); high = None; terms = (1, number (pos 1)) ∷ [] } ∷ [];
      decisions = 2;
      own = 2;
    }

no_table : first_of too_large ≡ None
unfolding with_row_terms spans_of pass_of columns_of count_leading_zeros scaled_quantity scaled_cell costs_scale values_scale scaled_column column_step blank_of columns_table scaled_sides row_scale scaled_term scaled_terms appended_row first_of shift_up shift_down
no_table = refl

-- two decisions, and a successor's column that stands at 0
abbrev reference : Program
reference =
    record {
      columns = record { low = number (pos 0); high = number (pos 42949672960); cost = number (pos 0) } ∷ record { low = number (pos 0); high = number (pos 42949672960); cost = number (pos 12884901888) } ∷ record { low = number (pos 0); high = number (pos 0); cost = number (pos 0) } ∷ [];
      rows = record { low = Some (number (pos 25769803776)); high = Some (number (pos 25769803776)); terms = (0, number (pos 4294967296)) ∷ (1, number (pos 4294967296)) ∷ [] } ∷ [];
      decisions = 2;
      own = 1;
    }

reference_scales : option_map (λ (t : WarmTable). t.scales) (first_of reference) ≡ Some (record { rows = negsuc 0 ∷ []; columns = pos 0 ∷ pos 0 ∷ pos 0 ∷ []; costs = negsuc 1; values = pos 0 })
unfolding with_row_terms spans_of pass_of columns_of count_leading_zeros scaled_quantity scaled_cell costs_scale values_scale scaled_column column_step blank_of columns_table scaled_sides row_scale scaled_term scaled_terms appended_row first_of shift_up shift_down
reference_scales = refl

-- this program with its successor's cuts
abbrev with_cuts : Program
with_cuts =
    record {
      columns = record { low = number (pos 0); high = number (pos 42949672960); cost = number (pos 0) } ∷ record { low = number (pos 0); high = number (pos 42949672960); cost = number (pos 12884901888) } ∷ record { low = number (pos 0); high = number (pos 171798691840); cost = number (pos 4294967296) } ∷ [];
      rows = record { low = Some (number (pos 17179869184)); high = Some (number (pos 17179869184)); terms = (0, number (pos 4294967296)) ∷ (1, number (pos 4294967296)) ∷ [] } ∷ record { low = Some (number (pos 128849018880)); high = None; terms = (0, number (pos 21474836480)) ∷ (2, number (pos 4294967296)) ∷ [] } ∷ record { low = Some (number (pos 0)); high = None; terms = (2, number (pos 4294967296)) ∷ [] } ∷ [];
      decisions = 2;
      own = 1;
    }

cuts_scales : option_map (λ (t : WarmTable). t.scales) (option_and_then (widened_in_full with_cuts) (first_of reference)) ≡ Some (record { rows = negsuc 0 ∷ negsuc 2 ∷ negsuc 2 ∷ []; columns = pos 0 ∷ pos 0 ∷ pos 2 ∷ []; costs = negsuc 1; values = pos 0 })
unfolding with_row_terms spans_of pass_of columns_of count_leading_zeros scaled_quantity scaled_cell costs_scale values_scale scaled_column column_step blank_of columns_table scaled_sides row_scale scaled_term scaled_terms appended_row first_of shift_up shift_down appended_cut waits top_of cut_spans rescaled widened_columns widened_by widened_in_full
cuts_scales = refl

cuts_costs : option_map (λ (t : WarmTable). t.reduced) (option_and_then (widened with_cuts) (first_of reference)) ≡ Some (pos 0 ∷ pos 824633720832 ∷ pos 1099511627776 ∷ [])
unfolding with_row_terms spans_of pass_of columns_of count_leading_zeros scaled_quantity scaled_cell costs_scale values_scale scaled_column column_step blank_of columns_table scaled_sides row_scale scaled_term scaled_terms appended_row first_of shift_up shift_down appended_cut is_narrow waiting_of waits top_of cut_spans rescaled widened_columns widened_by widened
cuts_costs = refl

-- rows that are nearly parallel
abbrev parallel : Program
parallel =
    record {
      columns = record { low = number (negsuc 9223372036854775807); high = number (pos 9223372036854775808); cost = number (pos 4294967296) } ∷ record { low = number (negsuc 9223372036854775807); high = number (pos 9223372036854775808); cost = number (pos 4294967296) } ∷ record { low = number (negsuc 9223372036854775807); high = number (pos 9223372036854775808); cost = number (pos 4294967296) } ∷ record { low = number (negsuc 9223372036854775807); high = number (pos 9223372036854775808); cost = number (pos 4294967296) } ∷ [];
      rows = record { low = Some (number (pos 0)); high = Some (number (pos 0)); terms = (0, number (pos 4294967296)) ∷ (1, number (pos 4294967296)) ∷ [] } ∷ record { low = Some (number (pos 0)); high = Some (number (pos 0)); terms = (0, number (pos 4295098368)) ∷ (1, number (pos 4294967296)) ∷ (2, number (negsuc 4294967295)) ∷ [] } ∷ record { low = Some (number (pos 4294967296)); high = Some (number (pos 4294967296)); terms = (2, number (pos 4294967296)) ∷ (3, number (pos 4294967296)) ∷ [] } ∷ record { low = Some (number (pos 8589934592)); high = Some (number (pos 8589934592)); terms = (2, number (pos 4295098368)) ∷ (3, number (pos 4294967296)) ∷ [] } ∷ [];
      decisions = 4;
      own = 4;
    }

parallel_rows : option_map (λ (t : WarmTable). t.scales.rows) (first_of parallel) ≡ Some (negsuc 0 ∷ negsuc 0 ∷ negsuc 0 ∷ negsuc 0 ∷ [])
unfolding with_row_terms spans_of pass_of columns_of count_leading_zeros scaled_quantity scaled_cell costs_scale values_scale scaled_column column_step blank_of columns_table scaled_sides row_scale scaled_term scaled_terms appended_row first_of shift_up shift_down
parallel_rows = refl

parallel_values : option_map (λ (t : WarmTable). t.scales.values) (first_of parallel) ≡ Some (negsuc 9)
unfolding with_row_terms spans_of pass_of columns_of count_leading_zeros scaled_quantity scaled_cell costs_scale values_scale scaled_column column_step blank_of columns_table scaled_sides row_scale scaled_term scaled_terms appended_row first_of shift_up shift_down
parallel_values = refl

-- a reservoir, a turbine and a plant, and a successor's column that stands at 0
abbrev own_rows : Program
own_rows =
    record {
      columns = record { low = number (pos 0); high = number (pos 42949672960); cost = number (pos 0) } ∷ record { low = number (pos 0); high = number (pos 34359738368); cost = number (pos 0) } ∷ record { low = number (pos 0); high = number (pos 85899345920); cost = number (pos 21474836480) } ∷ record { low = number (pos 0); high = number (pos 0); cost = number (pos 0) } ∷ [];
      rows = record { low = Some (number (pos 21474836480)); high = Some (number (pos 21474836480)); terms = (0, number (pos 4294967296)) ∷ (1, number (pos 4294967296)) ∷ [] } ∷ record { low = Some (number (pos 38654705664)); high = Some (number (pos 38654705664)); terms = (1, number (pos 4294967296)) ∷ (2, number (pos 4294967296)) ∷ [] } ∷ [];
      decisions = 3;
      own = 2;
    }

-- this program with two cuts, of which one has no other term
abbrev two_cuts : Program
two_cuts =
    record {
      columns = record { low = number (pos 0); high = number (pos 42949672960); cost = number (pos 0) } ∷ record { low = number (pos 0); high = number (pos 34359738368); cost = number (pos 0) } ∷ record { low = number (pos 0); high = number (pos 85899345920); cost = number (pos 21474836480) } ∷ record { low = number (negsuc 214748364799); high = number (pos 429496729600); cost = number (pos 4294967296) } ∷ [];
      rows = record { low = Some (number (pos 21474836480)); high = Some (number (pos 21474836480)); terms = (0, number (pos 4294967296)) ∷ (1, number (pos 4294967296)) ∷ [] } ∷ record { low = Some (number (pos 38654705664)); high = Some (number (pos 38654705664)); terms = (1, number (pos 4294967296)) ∷ (2, number (pos 4294967296)) ∷ [] } ∷ record { low = Some (number (pos 0)); high = None; terms = (3, number (pos 4294967296)) ∷ [] } ∷ record { low = Some (number (pos 171798691840)); high = None; terms = (0, number (pos 21474836480)) ∷ (3, number (pos 4294967296)) ∷ [] } ∷ [];
      decisions = 3;
      own = 2;
    }

two_cuts_scales : option_map (λ (t : WarmTable). t.scales) (option_and_then (widened_in_full two_cuts) (first_of own_rows)) ≡ Some (record { rows = negsuc 0 ∷ negsuc 0 ∷ negsuc 2 ∷ negsuc 2 ∷ []; columns = pos 0 ∷ pos 0 ∷ pos 0 ∷ pos 2 ∷ []; costs = negsuc 2; values = pos 0 })
unfolding with_row_terms spans_of pass_of columns_of count_leading_zeros scaled_quantity scaled_cell costs_scale values_scale scaled_column column_step blank_of columns_table scaled_sides row_scale scaled_term scaled_terms appended_row first_of shift_up shift_down appended_cut waits top_of cut_spans rescaled widened_columns widened_by widened_in_full
two_cuts_scales = refl

-- two decisions, and two successors' columns that stand at 0
abbrev two_idle : Program
two_idle =
    record {
      columns = record { low = number (pos 0); high = number (pos 42949672960); cost = number (pos 0) } ∷ record { low = number (pos 0); high = number (pos 42949672960); cost = number (pos 12884901888) } ∷ record { low = number (pos 0); high = number (pos 0); cost = number (pos 0) } ∷ record { low = number (pos 0); high = number (pos 0); cost = number (pos 0) } ∷ [];
      rows = record { low = Some (number (pos 17179869184)); high = Some (number (pos 17179869184)); terms = (0, number (pos 4294967296)) ∷ (1, number (pos 4294967296)) ∷ [] } ∷ [];
      decisions = 2;
      own = 1;
    }

-- these programs with their cuts: those of the first wait, and a slope of 66 binary digits lets both of the second come in
abbrev two_successors : Program
two_successors =
    record {
      columns = record { low = number (pos 0); high = number (pos 42949672960); cost = number (pos 0) } ∷ record { low = number (pos 0); high = number (pos 42949672960); cost = number (pos 12884901888) } ∷ record { low = number (pos 0); high = number (pos 171798691840); cost = number (pos 4294967296) } ∷ record { low = number (pos 0); high = number (pos 171798691840); cost = number (pos 536870912) } ∷ [];
      rows = record { low = Some (number (pos 17179869184)); high = Some (number (pos 17179869184)); terms = (0, number (pos 4294967296)) ∷ (1, number (pos 4294967296)) ∷ [] } ∷ record { low = Some (number (pos 128849018880)); high = None; terms = (0, number (pos 21474836480)) ∷ (2, number (pos 4294967296)) ∷ [] } ∷ record { low = Some (number (pos 0)); high = None; terms = (2, number (pos 4294967296)) ∷ [] } ∷ record { low = Some (number (pos 85899345920)); high = None; terms = (0, number (pos 4294967296)) ∷ (3, number (pos 4294967296)) ∷ [] } ∷ record { low = Some (number (pos 0)); high = None; terms = (0, number (pos 36893488147419103232)) ∷ (3, number (pos 4294967296)) ∷ [] } ∷ [];
      decisions = 2;
      own = 1;
    }

two_cuts_of : option_map (λ (t : WarmTable). t.cuts) (option_and_then (widened two_successors) (first_of two_idle)) ≡ Some (record { rows = 3 ∷ 4 ∷ []; waiting = false ∷ false ∷ true ∷ false ∷ [] })
unfolding with_row_terms spans_of pass_of columns_of count_leading_zeros scaled_quantity scaled_cell costs_scale values_scale scaled_column column_step blank_of columns_table scaled_sides row_scale scaled_term scaled_terms appended_row first_of shift_up shift_down appended_cut is_narrow waiting_of waits top_of cut_spans rescaled widened_columns widened_by widened
two_cuts_of = refl

two_scales : option_map (λ (t : WarmTable). t.scales) (option_and_then (widened two_successors) (first_of two_idle)) ≡ Some (record { rows = negsuc 0 ∷ negsuc 23 ∷ negsuc 33 ∷ []; columns = pos 0 ∷ pos 0 ∷ pos 2 ∷ pos 23 ∷ []; costs = negsuc 1; values = pos 0 })
unfolding with_row_terms spans_of pass_of columns_of count_leading_zeros scaled_quantity scaled_cell costs_scale values_scale scaled_column column_step blank_of columns_table scaled_sides row_scale scaled_term scaled_terms appended_row first_of shift_up shift_down appended_cut is_narrow waiting_of waits top_of cut_spans rescaled widened_columns widened_by widened
two_scales = refl

two_rows : option_map (λ (t : WarmTable). t.rows) (option_and_then (widened two_successors) (first_of two_idle)) ≡ Some (((0, pos 549755813888) ∷ (1, pos 549755813888) ∷ []) ∷ ((0, pos 65536) ∷ (3, pos 549755813888) ∷ []) ∷ ((0, pos 549755813888) ∷ (3, pos 536870912) ∷ []) ∷ [])
unfolding with_row_terms spans_of pass_of columns_of count_leading_zeros scaled_quantity scaled_cell costs_scale values_scale scaled_column column_step blank_of columns_table scaled_sides row_scale scaled_term scaled_terms appended_row first_of shift_up shift_down appended_cut is_narrow waiting_of waits top_of cut_spans rescaled widened_columns widened_by widened
two_rows = refl

two_bounds : option_map (λ (t : WarmTable). t.bounds.lows) (option_and_then (widened two_successors) (first_of two_idle)) ≡ Some (pos 0 ∷ pos 0 ∷ pos 0 ∷ pos 0 ∷ pos 8589934592 ∷ pos 5120 ∷ pos 0 ∷ [])
unfolding with_row_terms spans_of pass_of columns_of count_leading_zeros scaled_quantity scaled_cell costs_scale values_scale scaled_column column_step blank_of columns_table scaled_sides row_scale scaled_term scaled_terms appended_row first_of shift_up shift_down appended_cut is_narrow waiting_of waits top_of cut_spans rescaled widened_columns widened_by widened
two_bounds = refl

two_full_cuts : option_map (λ (t : WarmTable). t.cuts) (option_and_then (widened_in_full two_successors) (first_of two_idle)) ≡ Some (record { rows = 1 ∷ 2 ∷ 3 ∷ 4 ∷ []; waiting = false ∷ false ∷ false ∷ false ∷ [] })
unfolding with_row_terms spans_of pass_of columns_of count_leading_zeros scaled_quantity scaled_cell costs_scale values_scale scaled_column column_step blank_of columns_table scaled_sides row_scale scaled_term scaled_terms appended_row first_of shift_up shift_down appended_cut waits top_of cut_spans rescaled widened_columns widened_by widened_in_full
two_full_cuts = refl

two_full_scales : option_map (λ (t : WarmTable). t.scales.rows) (option_and_then (widened_in_full two_successors) (first_of two_idle)) ≡ Some (negsuc 0 ∷ negsuc 2 ∷ negsuc 2 ∷ negsuc 23 ∷ negsuc 33 ∷ [])
unfolding with_row_terms spans_of pass_of columns_of count_leading_zeros scaled_quantity scaled_cell costs_scale values_scale scaled_column column_step blank_of columns_table scaled_sides row_scale scaled_term scaled_terms appended_row first_of shift_up shift_down appended_cut waits top_of cut_spans rescaled widened_columns widened_by widened_in_full
two_full_scales = refl
