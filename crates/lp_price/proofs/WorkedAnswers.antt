-- Worked tables, and their answers.
use Rattle.std.proofs.Common.{◌≡◌, ℕ, ◌^◌, ◌*◌, ℤ, pos, negsuc, neg_ℤ, Bool, true, false, List, [], ◌∷◌, replicate, Option, Some, None, refl}
use lib.Count.{count_leading_zeros}
use Rattle.lp_program.specs.declared.programs.Column.{Column}
use Rattle.lp_program.specs.declared.programs.Program.{Program}
use Rattle.lp_program.specs.declared.programs.Kind.TheVariants as kinds
use Rattle.lp_program.specs.Numbers.{number, zero_fx, one, plus_fixed, minus}
use Rattle.lp_table.specs.declared.table.WarmTable.{WarmTable}
use Rattle.lp_table.specs.Numbers.{shift_up, shift_down}
use Rattle.lp_price.specs.Proves.{side_of_multiplier, lowered, whole_times, lessened, term_step, row_step, weights_of, side_step, box_step, excess_of, proves}
use Rattle.lp_price.specs.Found.{rounded, clamped_value, basic_point, points_of, slack_dual, dual_at, dual_step, duals_of, found_answer}
use Rattle.lp_price.specs.Ray.{ray_factor_at, top_of_factors, clipped_ray_dual, ray_answer}
use Rattle.lp_price.specs.Enter.{is_variable_fixed, is_place_eligible, rank_at, precedes, first_step, left_after, turn_behind, enter_of}
use Rattle.lp_price.specs.Finish.{dual_of, less_place, plus_side, new_cost, finish_of}
use Rattle.lp_price.proofs.WorkedProofs.{crossed}

abbrev units : ℕ → ℤ
units n = pos (n * 2 ^ 32)

abbrev minus_units : ℕ → ℤ
minus_units n = neg_ℤ (pos (n * 2 ^ 32))

-- n at the scale of costs, which is 2^36 here
abbrev cost : ℕ → ℤ
cost n = pos (n * 2 ^ 36)

abbrev minus_cost : ℕ → ℤ
minus_cost n = neg_ℤ (pos (n * 2 ^ 36))

abbrev column : ℤ → ℤ → ℕ → Column
column low high c = record { low = number low; high = number high; cost = number (units c) }

-- boxes and costs [0, 3] 1; [0, 4] 2; [0, 9] 7; [-5, 5] 9; x0 + 2 x1 + x2 + x3 >= 12
abbrev flips : Program
flips =
    record {
      columns = column (pos 0) (units 3) 1 ∷ column (pos 0) (units 4) 2 ∷ column (pos 0) (units 9) 7 ∷ column (minus_units 5) (units 5) 9 ∷ [];
      rows = record { low = Some (number (units 12)); high = None; terms = (0, one) ∷ (1, number (units 2)) ∷ (2, one) ∷ (3, one) ∷ [] } ∷ [];
      decisions = 4;
      own = 1;
    }

abbrev zeros : List ℤ
zeros = pos 0 ∷ pos 0 ∷ pos 0 ∷ pos 0 ∷ []

abbrev row : List ℤ
row = pos (2 ^ 38) ∷ pos (2 ^ 39) ∷ pos (2 ^ 38) ∷ pos (2 ^ 38) ∷ []

abbrev flipping : List ℕ → List (Option ℕ) → List Bool → List ℤ → List ℤ → WarmTable
flipping nonbasic places high reduced values =
    record {
      scales = record { rows = negsuc 1 ∷ []; columns = zeros; costs = negsuc 3; values = pos 0 };
      rows = ((0, pos (2 ^ 38)) ∷ (1, pos (2 ^ 39)) ∷ (2, pos (2 ^ 38)) ∷ (3, pos (2 ^ 38)) ∷ []) ∷ [];
      costs = cost 1 ∷ cost 2 ∷ cost 7 ∷ cost 9 ∷ [];
      bounds =
          record {
            lows = pos 0 ∷ pos 0 ∷ pos 0 ∷ minus_units 5 ∷ units 3 ∷ [];
            ups = units 3 ∷ units 4 ∷ units 9 ∷ units 5 ∷ pos 0 ∷ [];
            has_low = true ∷ true ∷ true ∷ true ∷ true ∷ [];
            has_up = true ∷ true ∷ true ∷ true ∷ false ∷ [];
          };
      basis = record { nonbasic = nonbasic; places = places; high = high };
      reduced = reduced;
      lines = zeros ∷ zeros ∷ zeros ∷ zeros ∷ [];
      values = values;
      weak = false;
      cuts = record { rows = []; waiting = replicate 4 false };
    }

abbrev first_table : WarmTable
first_table = flipping (0 ∷ 1 ∷ 2 ∷ 3 ∷ []) (Some 0 ∷ Some 1 ∷ Some 2 ∷ Some 3 ∷ None ∷ []) (false ∷ false ∷ false ∷ false ∷ []) (cost 1 ∷ cost 2 ∷ cost 7 ∷ cost 9 ∷ []) zeros

-- 17 are missing: 8 and 3 are passed, of equal ratios the greater factor first, and 6 are left
flips_enter : enter_of first_table row false (pos (17 * 2 ^ 30)) ≡ (Some (2, pos (6 * 2 ^ 30)), 1 ∷ 0 ∷ [])
unfolding is_variable_fixed is_place_eligible rank_at precedes first_step left_after turn_behind
flips_enter = refl

abbrev with_costs : List ℤ → List Bool → WarmTable
with_costs reduced high = flipping (0 ∷ 1 ∷ 2 ∷ 3 ∷ []) (Some 0 ∷ Some 1 ∷ Some 2 ∷ Some 3 ∷ None ∷ []) high reduced zeros

abbrev steep_row : List ℤ
steep_row = pos (2 ^ 39) ∷ pos (2 ^ 38) ∷ pos (2 ^ 38) ∷ pos (2 ^ 38) ∷ []

-- of two ratios that count as 0 the greater factor is first
noise_enter : enter_of (with_costs (pos 65535 ∷ pos 0 ∷ cost 1 ∷ cost 1 ∷ []) (false ∷ false ∷ false ∷ false ∷ [])) steep_row false (pos (17 * 2 ^ 30)) ≡ (Some (2, pos (7 * 2 ^ 30)), 0 ∷ 1 ∷ [])
unfolding is_variable_fixed is_place_eligible rank_at precedes first_step left_after turn_behind
noise_enter = refl

-- a cost of 2^16 counts
beyond_noise : enter_of (with_costs (pos 65536 ∷ pos 0 ∷ cost 1 ∷ cost 1 ∷ []) (false ∷ false ∷ false ∷ false ∷ [])) steep_row false (pos (17 * 2 ^ 30)) ≡ (Some (2, pos (7 * 2 ^ 30)), 1 ∷ 0 ∷ [])
unfolding is_variable_fixed is_place_eligible rank_at precedes first_step left_after turn_behind
beyond_noise = refl

-- noise at high, for a violation of an upper bound
noise_above : enter_of (with_costs (negsuc 65534 ∷ pos 0 ∷ minus_cost 1 ∷ minus_cost 1 ∷ []) (true ∷ true ∷ true ∷ true ∷ [])) steep_row true (pos (17 * 2 ^ 30)) ≡ (Some (2, pos (7 * 2 ^ 30)), 0 ∷ 1 ∷ [])
unfolding is_variable_fixed is_place_eligible rank_at precedes first_step left_after turn_behind
noise_above = refl

-- 2^10 are too many for all of them
none_enters : enter_of first_table row false (pos (2 ^ 40)) ≡ (None, [])
unfolding is_variable_fixed is_place_eligible rank_at precedes first_step left_after turn_behind
none_enters = refl

abbrev last_table : List ℤ → WarmTable
last_table reduced = flipping (0 ∷ 1 ∷ 4 ∷ 3 ∷ []) (Some 0 ∷ Some 1 ∷ None ∷ Some 3 ∷ Some 2 ∷ []) (true ∷ true ∷ false ∷ false ∷ []) reduced (units 3 ∷ units 4 ∷ units 6 ∷ minus_units 5 ∷ [])

abbrev last_costs : List ℤ
last_costs = minus_cost 6 ∷ minus_cost 12 ∷ pos (7 * 2 ^ 38) ∷ cost 2 ∷ []

flips_finish : finish_of (last_table (pos 5 ∷ pos 5 ∷ pos (7 * 2 ^ 38) ∷ pos 5 ∷ [])) ≡ Some (last_table last_costs)
unfolding dual_of less_place plus_side new_cost finish_of
flips_finish = refl

flips_found : found_answer (last_table last_costs) flips ≡ Some (record { kind = kinds.Found; point = number (pos 12884901888) ∷ number (pos 17179869184) ∷ number (pos 25769803776) ∷ number (negsuc 21474836479) ∷ []; duals = number (pos 30064771072) ∷ [] })
unfolding shift_up shift_down rounded clamped_value basic_point points_of slack_dual dual_at dual_step duals_of found_answer
flips_found = refl

-- a table of the program with two rows
abbrev crossing : List ℕ → List (Option ℕ) → WarmTable
crossing nonbasic places =
    record {
      scales = record { rows = negsuc 1 ∷ negsuc 0 ∷ []; columns = pos 0 ∷ pos 0 ∷ []; costs = pos 0; values = pos 0 };
      rows = ((0, pos (2 ^ 38)) ∷ (1, pos (3 * 2 ^ 38)) ∷ []) ∷ ((0, pos (2 ^ 39)) ∷ (1, pos (2 ^ 39)) ∷ []) ∷ [];
      costs = pos 0 ∷ pos 0 ∷ [];
      bounds = record { lows = pos 0 ∷ pos 0 ∷ pos 0 ∷ pos 0 ∷ []; ups = pos 0 ∷ pos 0 ∷ pos 0 ∷ pos 0 ∷ []; has_low = true ∷ true ∷ true ∷ false ∷ []; has_up = true ∷ true ∷ false ∷ true ∷ [] };
      basis = record { nonbasic = nonbasic; places = places; high = false ∷ false ∷ [] };
      reduced = pos 0 ∷ pos 0 ∷ [];
      lines = (pos 0 ∷ pos 0 ∷ []) ∷ (pos 0 ∷ pos 0 ∷ []) ∷ [];
      values = pos 0 ∷ pos 0 ∷ [];
      weak = false;
      cuts = record { rows = []; waiting = replicate 2 false };
    }

-- the first row alone, which is below its low
one_row : ray_answer (crossing (0 ∷ 1 ∷ []) (Some 0 ∷ Some 1 ∷ None ∷ None ∷ [])) (pos (2 ^ 38) ∷ pos (3 * 2 ^ 38) ∷ []) 2 false (crossed 5 4) ≡ Some (record { kind = kinds.Ray; point = zero_fx ∷ zero_fx ∷ []; duals = number (pos 576460752303423488) ∷ zero_fx ∷ [] })
unfolding plus_fixed minus side_of_multiplier lowered whole_times lessened term_step row_step weights_of side_step box_step excess_of proves shift_up shift_down ray_factor_at top_of_factors clipped_ray_dual ray_answer count_leading_zeros
one_row = refl

-- in wider boxes it proves nothing
no_ray : ray_answer (crossing (0 ∷ 1 ∷ []) (Some 0 ∷ Some 1 ∷ None ∷ None ∷ [])) (pos (2 ^ 38) ∷ pos (3 * 2 ^ 38) ∷ []) 2 false (crossed 50 50) ≡ None
unfolding plus_fixed minus side_of_multiplier lowered whole_times lessened term_step row_step weights_of side_step box_step excess_of proves shift_up shift_down ray_factor_at top_of_factors clipped_ray_dual ray_answer count_leading_zeros
no_ray = refl

-- both rows: the second is above its high, where the slack of the first stands at its low
two_rows : ray_answer (crossing (0 ∷ 2 ∷ []) (Some 0 ∷ None ∷ Some 1 ∷ None ∷ [])) (pos 366503875925 ∷ pos 733007751851 ∷ []) 3 true (crossed 50 50) ≡ Some (record { kind = kinds.Ray; point = zero_fx ∷ zero_fx ∷ []; duals = number (pos 192153584101228544) ∷ number (negsuc 576460752303423487) ∷ [] })
unfolding plus_fixed minus side_of_multiplier lowered whole_times lessened term_step row_step weights_of side_step box_step excess_of proves shift_up shift_down ray_factor_at top_of_factors clipped_ray_dual ray_answer count_leading_zeros
two_rows = refl

-- all factors are 0
no_factor : ray_answer (crossing (0 ∷ 1 ∷ []) (Some 0 ∷ Some 1 ∷ None ∷ None ∷ [])) (pos (2 ^ 38) ∷ pos (3 * 2 ^ 38) ∷ []) 4 false (crossed 5 4) ≡ None
unfolding plus_fixed minus side_of_multiplier lowered whole_times lessened term_step row_step weights_of side_step box_step excess_of proves shift_up shift_down ray_factor_at top_of_factors clipped_ray_dual ray_answer count_leading_zeros
no_factor = refl

-- x in [0, 3] and theta in [0, 100]; x >= 5; the cuts theta - x >= 1 and theta + x >= 2
abbrev cut_off : Program
cut_off =
    record {
      columns = column (pos 0) (units 3) 0 ∷ column (pos 0) (units 100) 1 ∷ [];
      rows =
          record { low = Some (number (units 5)); high = None; terms = (0, one) ∷ [] }
          ∷ record { low = Some (number (units 1)); high = None; terms = (0, number (minus_units 1)) ∷ (1, one) ∷ [] }
          ∷ record { low = Some (number (units 2)); high = None; terms = (0, one) ∷ (1, one) ∷ [] }
          ∷ [];
      decisions = 1;
      own = 1;
    }

-- a table of the program with a row of the second cut alone
abbrev with_cut : List ℕ → List (Option ℕ) → List Bool → List ℤ → List ℤ → WarmTable
with_cut nonbasic places high reduced values =
    record {
      scales = record { rows = negsuc 0 ∷ negsuc 4 ∷ []; columns = pos 0 ∷ pos 3 ∷ []; costs = negsuc 3; values = pos 0 };
      rows = ((0, pos (2 ^ 39)) ∷ []) ∷ ((0, pos (2 ^ 35)) ∷ (1, pos (2 ^ 38)) ∷ []) ∷ [];
      cuts = record { rows = 2 ∷ []; waiting = false ∷ true ∷ [] };
      costs = pos 0 ∷ cost 1 ∷ [];
      bounds =
          record {
            lows = pos 0 ∷ pos 0 ∷ pos 10737418240 ∷ pos 268435456 ∷ [];
            ups = units 3 ∷ pos 53687091200 ∷ pos 0 ∷ pos 0 ∷ [];
            has_low = true ∷ true ∷ true ∷ true ∷ [];
            has_up = true ∷ true ∷ false ∷ false ∷ [];
          };
      basis = record { nonbasic = nonbasic; places = places; high = high };
      reduced = reduced;
      lines = (pos 0 ∷ pos 0 ∷ []) ∷ (pos 0 ∷ pos 0 ∷ []) ∷ [];
      values = values;
      weak = false;
    }

-- the own row alone; the slack of the cut is nonbasic and has a greater cell
cut_ray : ray_answer (with_cut (0 ∷ 3 ∷ []) (Some 0 ∷ None ∷ None ∷ Some 1 ∷ []) (false ∷ false ∷ []) zeros zeros) (pos (2 ^ 39) ∷ pos (7 * 2 ^ 50) ∷ []) 2 false cut_off ≡ Some (record { kind = kinds.Ray; point = zero_fx ∷ zero_fx ∷ []; duals = number (pos 576460752303423488) ∷ zero_fx ∷ zero_fx ∷ [] })
unfolding plus_fixed minus side_of_multiplier lowered whole_times lessened term_step row_step weights_of side_step box_step excess_of proves shift_up shift_down ray_factor_at top_of_factors clipped_ray_dual ray_answer count_leading_zeros
cut_ray = refl

-- the first cut has no row in the table, and so a dual of 0
cut_found : found_answer (with_cut (2 ∷ 3 ∷ []) (None ∷ None ∷ Some 0 ∷ Some 1 ∷ []) (false ∷ false ∷ []) (cost 3 ∷ cost 5 ∷ []) (pos 10737418317 ∷ pos 41339072569 ∷ [])) cut_off ≡ Some (record { kind = kinds.Found; point = number (pos 10737418240) ∷ number (pos 330712580608) ∷ []; duals = number (pos 6442450944) ∷ zero_fx ∷ number (pos 671088640) ∷ [] })
unfolding shift_up shift_down rounded clamped_value basic_point points_of slack_dual dual_at dual_step duals_of found_answer
cut_found = refl

-- the own row's slack is basic
cut_alone : found_answer (with_cut (0 ∷ 3 ∷ []) (Some 0 ∷ None ∷ None ∷ Some 1 ∷ []) (true ∷ false ∷ []) (pos 0 ∷ negsuc 12344 ∷ []) (pos 0 ∷ pos 41339072569 ∷ [])) cut_off ≡ Some (record { kind = kinds.Found; point = number (pos 12884901888) ∷ number (pos 330712580608) ∷ []; duals = zero_fx ∷ zero_fx ∷ number (negsuc 24) ∷ [] })
unfolding shift_up shift_down rounded clamped_value basic_point points_of slack_dual dual_at dual_step duals_of found_answer
cut_alone = refl
