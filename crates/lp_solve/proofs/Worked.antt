-- Worked programs, and their answers.
use Rattle.std.proofs.Common.{◌≡◌, ◌^◌, ℕ, ℤ, pos, neg_ℤ, ◌*ℤ◌, List, [], ◌∷◌, map, Option, Some, None, refl}
use Rattle.std.specs.Option.{option_map}
use Rattle.lp_program.specs.declared.fixed.Fx.{Fx}
use Rattle.lp_program.specs.declared.programs.Column.{Column}
use Rattle.lp_program.specs.declared.programs.LpRow.{LpRow}
use Rattle.lp_program.specs.declared.programs.Program.{Program}
use Rattle.lp_program.specs.declared.programs.Answer.{Answer}
use Rattle.lp_program.specs.declared.programs.Kind.TheVariants as kinds
use Rattle.lp_program.specs.Numbers.{number}
use Rattle.lp_table.specs.declared.table.WarmTable.{WarmTable}
use Rattle.lp_solve.specs.Chains.{started_of, begun_of, next_of_chain}
use Rattle.lp_program.specs.Answers as solver_answers
use Rattle.lp_program.specs.Numbers as solver_numbers
use Rattle.lp_table.specs.Numbers as table_numbers
use Rattle.lp_table.specs.Updates as table_updates
use Rattle.lp_price.specs.Enter as answers_enter
use Rattle.lp_price.specs.Finish as answers_finish
use Rattle.lp_price.specs.Found as answers_found
use Rattle.lp_price.specs.Proves as answers_proves
use Rattle.lp_price.specs.Ray as answers_ray
use Rattle.lp_pivot.specs.Line as line_line
use Rattle.lp_pivot.specs.Move as line_move
use Rattle.lp_pivot.specs.Pivot as line_pivot
use Rattle.lp_pivot.specs.Refine as line_refine
use Rattle.lp_pivot.specs.Clean as rebuild_clean
use Rattle.lp_pivot.specs.Standings as rebuild_standings
use Rattle.lp_pivot.specs.Tighten as rebuild_tighten
use Rattle.lp_scale.specs.Appending as scale_appending
use Rattle.lp_scale.specs.Exponents as scale_exponents
use Rattle.lp_scale.specs.First as scale_first
use Rattle.lp_scale.specs.Scaling as scale_scaling
use Rattle.lp_scale.specs.Waiting as scale_waiting
use Rattle.lp_scale.specs.Widening as scale_widening
use Rattle.lp_scan.specs.Scan as scan_scan
use Rattle.lp_scan.specs.Values as scan_values
use Rattle.lp_solve.specs.Chains as simplex_chains
use Rattle.lp_solve.specs.Going as simplex_going
use Rattle.lp_solve.specs.Turns as simplex_turns
use Rattle.lp_solve.specs.Violations as simplex_violations

abbrev units : ℤ → Fx
units n = number (n *ℤ pos (2 ^ 32))

abbrev column : ℤ → ℤ → ℤ → Column
column low high cost = record { low = units low; high = units high; cost = units cost }

abbrev row : Option Fx → Option Fx → List (ℕ × Fx) → LpRow
row low high terms = record { low = low; high = high; terms = terms }

abbrev found : List ℤ → List ℤ → Answer
found point duals = record { kind = kinds.Found; point = map number point; duals = map number duals }

abbrev ray : List ℤ → List ℤ → Answer
ray point duals = record { kind = kinds.Ray; point = map number point; duals = map number duals }

-- the view of each table along a chain that has this one
abbrev along : {A : Type 0} → (WarmTable → A) → Option WarmTable → List Program → List (Option A)
along seen chain [] = []
along seen chain (lp ∷ lps) = option_map seen (next_of_chain chain lp).1 ∷ along seen (next_of_chain chain lp).1 lps

-- the answers along it
abbrev answers : Option WarmTable → List Program → List Answer
answers chain [] = []
answers chain (lp ∷ lps) = (next_of_chain chain lp).0 ∷ answers (next_of_chain chain lp).1 lps

-- the answer of a chain that has none
abbrev answer : Program → Answer
answer lp = (next_of_chain None lp).0

abbrev flips : Program
flips =
    record {
      columns = column (pos 0) (pos 3) (pos 1) ∷ column (pos 0) (pos 4) (pos 2) ∷ column (pos 0) (pos 9) (pos 7) ∷ column (neg_ℤ (pos 5)) (pos 5) (pos 9) ∷ [];
      rows = row (Some (units (pos 12))) None ((0, units (pos 1)) ∷ (1, units (pos 2)) ∷ (2, units (pos 1)) ∷ (3, units (pos 1)) ∷ []) ∷ [];
      decisions = 4;
      own = 1;
    }

abbrev two_rays : Program
two_rays =
    record {
      columns = column (pos 0) (pos 50) (pos 1) ∷ column (pos 0) (pos 50) (pos 2) ∷ [];
      rows = row (Some (units (pos 20))) None ((0, units (pos 1)) ∷ (1, units (pos 3)) ∷ []) ∷ row None (Some (units (pos 6))) ((0, units (pos 1)) ∷ (1, units (pos 1)) ∷ []) ∷ [];
      decisions = 2;
      own = 2;
    }

abbrev chain_first : Program
chain_first =
    record {
      columns = column (pos 0) (pos 10) (pos 0) ∷ column (pos 0) (pos 8) (pos 1) ∷ column (pos 0) (pos 20) (pos 5) ∷ [];
      rows = row (Some (units (pos 5))) (Some (units (pos 5))) ((0, units (pos 1)) ∷ (1, units (pos 1)) ∷ []) ∷ row (Some (units (pos 6))) (Some (units (pos 6))) ((1, units (pos 1)) ∷ (2, units (pos 1)) ∷ []) ∷ [];
      decisions = 3;
      own = 2;
    }

abbrev chain_second : Program
chain_second =
    record {
      columns = column (pos 0) (pos 10) (pos 0) ∷ column (pos 0) (pos 8) (pos 1) ∷ column (pos 0) (pos 20) (pos 5) ∷ [];
      rows = row (Some (units (pos 9))) (Some (units (pos 9))) ((0, units (pos 1)) ∷ (1, units (pos 1)) ∷ []) ∷ row (Some (units (pos 9))) (Some (units (pos 9))) ((1, units (pos 1)) ∷ (2, units (pos 1)) ∷ []) ∷ [];
      decisions = 3;
      own = 2;
    }

abbrev chain_third : Program
chain_third =
    record {
      columns = column (pos 0) (pos 10) (pos 0) ∷ column (pos 0) (pos 8) (pos 1) ∷ column (pos 0) (pos 20) (pos 5) ∷ [];
      rows = row (Some (units (pos 2))) (Some (units (pos 2))) ((0, units (pos 1)) ∷ (1, units (pos 1)) ∷ []) ∷ row (Some (units (pos 9))) (Some (units (pos 9))) ((1, units (pos 1)) ∷ (2, units (pos 1)) ∷ []) ∷ [];
      decisions = 3;
      own = 2;
    }

-- a reservoir into which at most 8 units can be bought, where the future costs at least 20 less 4 times its content, 9 less it, and 2
abbrev reservoir : ℤ → List LpRow → ℤ → ℤ → Program
reservoir content cuts future cost =
    record {
      columns = column (pos 0) (pos 8) (pos 3) ∷ column (pos 0) (pos 10) (pos 0) ∷ column (neg_ℤ future) future cost ∷ [];
      rows = row (Some (units content)) (Some (units content)) ((0, units (neg_ℤ (pos 1))) ∷ (1, units (pos 1)) ∷ []) ∷ cuts;
      decisions = 2;
      own = 1;
    }

abbrev cuts : List LpRow
cuts =
    row (Some (units (pos 20))) None ((1, units (pos 4)) ∷ (2, units (pos 1)) ∷ [])
    ∷ row (Some (units (pos 9))) None ((1, units (pos 1)) ∷ (2, units (pos 1)) ∷ [])
    ∷ row (Some (units (pos 2))) None ((2, units (pos 1)) ∷ [])
    ∷ []

abbrev with_content : ℤ → Program
with_content content = reservoir content cuts (pos 100) (pos 1)

-- a chain that begins with a start
abbrev begun : Option WarmTable
begun = begun_of (started_of (reservoir (pos 4) [] (pos 0) (pos 0))) (with_content (pos 4))

abbrev contents : List Program
contents = with_content (pos 4) ∷ with_content (pos 1) ∷ with_content (pos 7) ∷ []

-- places flip
abbrev Flips : Type 0
Flips = answer flips ≡ found (pos 12884901888 ∷ pos 17179869184 ∷ pos 25769803776 ∷ neg_ℤ (pos 21474836480) ∷ []) (pos 30064771072 ∷ [])

-- each program goes on from the table that the one before it left
abbrev GoesOn : Type 0
GoesOn =
    along (λ t. t.reduced) None (chain_first ∷ chain_second ∷ chain_third ∷ [])
    ≡ Some (pos 549755813888 ∷ pos 1374389534720 ∷ neg_ℤ (pos 1099511627776) ∷ []) ∷ Some (neg_ℤ (pos 549755813888) ∷ pos 1374389534720 ∷ pos 0 ∷ []) ∷ Some (pos 549755813888 ∷ pos 1374389534720 ∷ neg_ℤ (pos 1099511627776) ∷ []) ∷ []

-- a ray has whole multipliers of own rows
abbrev Shows : Type 0
Shows = answer two_rays ≡ ray (pos 0 ∷ pos 0 ∷ []) (pos 192153584101228544 ∷ neg_ℤ (pos 576460752303423488) ∷ [])

-- one cut is asked for where 4 units are left, another where 1 is left, none where 7 are, and both stay
abbrev Asks : Type 0
Asks = along (λ t. t.cuts.rows) begun contents ≡ Some (2 ∷ []) ∷ Some (2 ∷ 1 ∷ []) ∷ Some (2 ∷ 1 ∷ []) ∷ []

abbrev Answers : Type 0
Answers =
    answers begun contents
    ≡ found (pos 0 ∷ pos 17179869184 ∷ pos 21474836480 ∷ []) (neg_ℤ (pos 4294967296) ∷ pos 0 ∷ pos 4294967296 ∷ pos 0 ∷ [])
    ∷ found (pos 11453246208 ∷ pos 15748213504 ∷ pos 22906492160 ∷ []) (neg_ℤ (pos 12884901888) ∷ pos 2863311530 ∷ pos 1431655765 ∷ pos 0 ∷ [])
    ∷ found (pos 0 ∷ pos 30064771072 ∷ pos 8589934592 ∷ []) (neg_ℤ (pos 4294967296) ∷ pos 0 ∷ pos 4294967296 ∷ pos 0 ∷ [])
    ∷ []

worked : Flips × GoesOn × Shows × Asks × Answers
unfolding solver_answers.zero_of solver_numbers.plus_fixed solver_numbers.minus solver_numbers.times_fixed solver_numbers.over_fixed table_numbers.shift_up table_numbers.shift_down table_updates.moved_cell table_updates.added_row table_updates.moved_table_row answers_enter.is_variable_fixed answers_enter.is_place_eligible answers_enter.rank_at answers_enter.precedes answers_enter.first_step answers_enter.left_after answers_enter.turn_behind answers_finish.dual_of answers_finish.less_place answers_finish.plus_side answers_finish.new_cost answers_finish.finish_of answers_finish.is_far answers_found.rounded answers_found.clamped_value answers_found.basic_point answers_found.slack_dual answers_found.dual_at answers_found.points_of answers_found.dual_step answers_found.duals_of answers_found.found_answer answers_proves.side_of_multiplier answers_proves.lowered answers_proves.whole_times answers_proves.lessened answers_proves.term_step answers_proves.row_step answers_proves.weights_of answers_proves.side_step answers_proves.box_step answers_proves.excess_of answers_proves.proves answers_ray.ray_factor_at answers_ray.top_of_factors answers_ray.clipped_ray_dual answers_ray.ray_answer line_line.line_of line_move.length_of line_move.step_of line_move.bound_span line_move.span_at line_move.carried line_move.put_at_bound line_move.reached_values line_move.arrived_values line_move.moved_along line_move.moved_of line_pivot.inverse_of line_pivot.turned_entry line_pivot.turned_line line_pivot.moved_or_kept line_pivot.entered line_pivot.exchanged_basis line_pivot.eliminated line_pivot.replaced line_pivot.pivoted line_refine.stand_of line_refine.placed_at_bound line_refine.shift_at line_refine.moved_value line_refine.stood_table line_refine.shifts_of line_refine.moved_values line_refine.refined rebuild_clean.slack_basis rebuild_clean.clean_of rebuild_standings.standing rebuild_standings.standing_at rebuild_standings.stood_up rebuild_standings.rebuilt_of rebuild_tighten.was_basic rebuild_tighten.better_place rebuild_tighten.best_place rebuild_tighten.left rebuild_tighten.tight scale_appending.scaled_sides scale_appending.sided scale_appending.row_scale scale_appending.scaled_term scale_appending.scaled_terms scale_appending.appended_row scale_appending.appended_cut scale_exponents.with_row_terms scale_exponents.spans_of scale_exponents.pass_of scale_exponents.columns_of scale_first.first_of scale_scaling.scaled_quantity scale_scaling.scaled_cell scale_scaling.costs_scale scale_scaling.values_scale scale_scaling.scaled_column scale_scaling.column_step scale_scaling.blank_of scale_scaling.columns_table scale_waiting.is_narrow scale_waiting.waiting_of scale_waiting.waits scale_widening.top_of scale_widening.cut_spans scale_widening.rescaled scale_widening.widened_columns scale_widening.widened_by scale_widening.widened scale_widening.widened_in_full scan_scan.violates_last scan_scan.with_asked scan_scan.scan_of scan_values.states_of scan_values.plus_slope scan_values.cut_row_value scan_values.greatest_step scan_values.greatest_cuts simplex_chains.is_poor simplex_chains.new_table simplex_chains.stuck_answer simplex_chains.next_of_chain simplex_chains.started_of simplex_chains.begun_of simplex_going.gone_on simplex_going.go_of simplex_going.restored_of simplex_turns.inspection_of simplex_turns.survey_of simplex_turns.closed_of simplex_turns.finishing simplex_turns.asked simplex_turns.turn_on_table simplex_violations.violation_of simplex_violations.table_value_at simplex_violations.violations_step simplex_violations.violations_of simplex_violations.violation_precedes simplex_violations.next_violation lib.Count.count_leading_zeros
worked = (refl, refl, refl, refl, refl)
