-- Worked scans, computed; the numbers are those of the second reading of the same rules.
use Rattle.std.proofs.Common.{◌≡◌, pos, negsuc, true, false, [], ◌∷◌, Some, None, refl}
use lib.Count.{count_leading_zeros}
use Rattle.lp_program.specs.declared.programs.Program.{Program}
use Rattle.lp_program.specs.Covering.{value_of}
use Rattle.lp_program.specs.Numbers.{number}
use Rattle.lp_table.specs.declared.table.WarmTable.{WarmTable}
use Rattle.lp_table.specs.Numbers.{shift_up, shift_down}
use Rattle.lp_scale.specs.Scaling.{scaled_quantity, scaled_cell}
use Rattle.lp_scale.specs.Appending.{scaled_sides, row_scale, scaled_term, scaled_terms, appended_row, appended_cut}
use Rattle.lp_scale.specs.Waiting.{waits}
use Rattle.lp_price.specs.Found.{rounded, clamped_value, basic_point, points_of}
use Rattle.lp_scan.specs.Values.{states_of, plus_slope, cut_row_value, greatest_step, greatest_cuts}
use Rattle.lp_scan.specs.Scan.{scanned, violates_last, with_asked, scan_of}

-- 5 + 10 and 20 - 10, where the state is 10
value_2 : cut_row_value (pos 167772160 ∷ pos 0 ∷ pos 0 ∷ []) (record { low = Some (number (pos 21474836480)); high = None; terms = (0, number (negsuc 4294967295)) ∷ (1, number (pos 4294967296)) ∷ [] }) ≡ pos 4222124650659840
unfolding plus_slope cut_row_value
value_2 = refl

value_1 : cut_row_value (pos 167772160 ∷ pos 0 ∷ pos 0 ∷ []) (record { low = Some (number (pos 85899345920)); high = None; terms = (0, number (pos 4294967296)) ∷ (1, number (pos 4294967296)) ∷ [] }) ≡ pos 2814749767106560
unfolding plus_slope cut_row_value
value_1 = refl

-- the latter cut, where it stands side by side with others
packed_1 : value_of (record { height = pos 335544320; slopes = negsuc 16777215 ∷ [] }) (pos 167772160 ∷ []) ≡ pos 2814749767106560
packed_1 = refl

-- a state of 10: of the first successor's cuts the second is 15 there, and so is the third; the second successor's greatest
-- cut is violated by as much as may be passed
abbrev first_of_equals_program : Program
first_of_equals_program =
    record {
      columns = record { low = number (pos 0); high = number (pos 42949672960); cost = number (negsuc 4294967295) } ∷ record { low = number (pos 0); high = number (pos 4294967296000); cost = number (pos 4294967296) } ∷ record { low = number (pos 0); high = number (pos 4294967296000); cost = number (pos 4294967296) } ∷ [];
      rows = record { low = None; high = Some (number (pos 51539607552)); terms = (0, number (pos 4294967296)) ∷ [] } ∷ record { low = Some (number (pos 85899345920)); high = None; terms = (0, number (pos 4294967296)) ∷ (1, number (pos 4294967296)) ∷ [] } ∷ record { low = Some (number (pos 21474836480)); high = None; terms = (0, number (negsuc 4294967295)) ∷ (1, number (pos 4294967296)) ∷ [] } ∷ record { low = Some (number (pos 107374182400)); high = None; terms = (0, number (pos 4294967296)) ∷ (1, number (pos 4294967296)) ∷ [] } ∷ record { low = Some (number (negsuc 4294967295)); high = None; terms = (2, number (pos 4294967296)) ∷ [] } ∷ record { low = Some (number (pos 8192)); high = None; terms = (2, number (pos 4294967296)) ∷ [] } ∷ [];
      decisions = 1;
      own = 1;
    }

abbrev first_of_equals_before : WarmTable
first_of_equals_before =
    record {
      scales = record { rows = negsuc 0 ∷ []; columns = pos 0 ∷ pos 0 ∷ pos 0 ∷ []; costs = negsuc 0; values = pos 0 };
      rows = ((0, pos 549755813888) ∷ []) ∷ [];
      cuts = record { rows = []; waiting = false ∷ true ∷ true ∷ [] };
      costs = negsuc 549755813887 ∷ pos 549755813888 ∷ pos 549755813888 ∷ [];
      bounds = record { lows = pos 0 ∷ pos 0 ∷ pos 0 ∷ pos 0 ∷ []; ups = pos 42949672960 ∷ pos 4294967296000 ∷ pos 4294967296000 ∷ pos 25769803776 ∷ []; has_low = true ∷ true ∷ true ∷ false ∷ []; has_up = true ∷ true ∷ true ∷ true ∷ [] };
      basis = record { nonbasic = 0 ∷ 1 ∷ 2 ∷ []; places = Some 0 ∷ Some 1 ∷ Some 2 ∷ None ∷ []; high = true ∷ false ∷ false ∷ [] };
      reduced = negsuc 549755813887 ∷ pos 549755813888 ∷ pos 549755813888 ∷ [];
      lines = (pos 0 ∷ pos 0 ∷ pos 0 ∷ []) ∷ (pos 0 ∷ pos 0 ∷ pos 0 ∷ []) ∷ (pos 0 ∷ pos 0 ∷ pos 0 ∷ []) ∷ [];
      values = pos 42949672960 ∷ pos 0 ∷ pos 0 ∷ [];
      weak = false;
    }

abbrev first_of_equals_after : WarmTable
first_of_equals_after =
    record {
      scales = record { rows = negsuc 0 ∷ negsuc 0 ∷ []; columns = pos 0 ∷ pos 0 ∷ pos 0 ∷ []; costs = negsuc 0; values = pos 0 };
      rows = ((0, pos 549755813888) ∷ []) ∷ ((0, negsuc 549755813887) ∷ (1, pos 549755813888) ∷ []) ∷ [];
      cuts = record { rows = 2 ∷ []; waiting = false ∷ true ∷ true ∷ [] };
      costs = negsuc 549755813887 ∷ pos 549755813888 ∷ pos 549755813888 ∷ [];
      bounds = record { lows = pos 0 ∷ pos 0 ∷ pos 0 ∷ pos 0 ∷ pos 10737418240 ∷ []; ups = pos 42949672960 ∷ pos 4294967296000 ∷ pos 4294967296000 ∷ pos 25769803776 ∷ pos 0 ∷ []; has_low = true ∷ true ∷ true ∷ false ∷ true ∷ []; has_up = true ∷ true ∷ true ∷ true ∷ false ∷ [] };
      basis = record { nonbasic = 0 ∷ 1 ∷ 2 ∷ []; places = Some 0 ∷ Some 1 ∷ Some 2 ∷ None ∷ None ∷ []; high = true ∷ false ∷ false ∷ [] };
      reduced = negsuc 549755813887 ∷ pos 549755813888 ∷ pos 549755813888 ∷ [];
      lines = (pos 0 ∷ pos 0 ∷ pos 0 ∷ []) ∷ (pos 0 ∷ pos 0 ∷ pos 0 ∷ []) ∷ (pos 0 ∷ pos 0 ∷ pos 0 ∷ []) ∷ [];
      values = pos 42949672960 ∷ pos 0 ∷ pos 0 ∷ [];
      weak = false;
    }

first_of_equals : scan_of first_of_equals_program first_of_equals_before ≡ scanned false first_of_equals_after
unfolding scan_of states_of points_of basic_point rounded clamped_value waits greatest_cuts greatest_step plus_slope cut_row_value with_asked violates_last appended_cut appended_row row_scale scaled_terms scaled_term scaled_cell scaled_quantity scaled_sides shift_up shift_down count_leading_zeros
first_of_equals = refl

-- a state of 7/3
abbrev basic_state_program : Program
basic_state_program =
    record {
      columns = record { low = number (negsuc 17179869183); high = number (pos 42949672960); cost = number (pos 0) } ∷ record { low = number (pos 0); high = number (pos 34359738368); cost = number (pos 4294967296) } ∷ record { low = number (pos 0); high = number (pos 4294967296000); cost = number (pos 4294967296) } ∷ record { low = number (negsuc 4294967295999); high = number (pos 4294967296000); cost = number (pos 4294967296) } ∷ [];
      rows = record { low = Some (number (pos 30064771072)); high = Some (number (pos 30064771072)); terms = (0, number (pos 12884901888)) ∷ (1, number (pos 4294967296)) ∷ [] } ∷ record { low = Some (number (pos 21474836480)); high = None; terms = (0, number (negsuc 4298127615)) ∷ (2, number (pos 4294967296)) ∷ [] } ∷ record { low = Some (number (pos 34359738368)); high = None; terms = (0, number (pos 4294967296)) ∷ (2, number (pos 4294967296)) ∷ [] } ∷ record { low = Some (number (pos 8448)); high = None; terms = (3, number (pos 4294967296)) ∷ [] } ∷ record { low = Some (number (negsuc 17179869183)); high = None; terms = (0, number (pos 1431655936)) ∷ (3, number (pos 4294967296)) ∷ [] } ∷ [];
      decisions = 2;
      own = 1;
    }

abbrev basic_state_before : WarmTable
basic_state_before =
    record {
      scales = record { rows = negsuc 1 ∷ []; columns = pos 0 ∷ pos 0 ∷ pos 0 ∷ pos 0 ∷ []; costs = negsuc 0; values = pos 0 };
      rows = ((0, pos 824633720832) ∷ (1, pos 274877906944) ∷ []) ∷ [];
      cuts = record { rows = []; waiting = false ∷ false ∷ true ∷ true ∷ [] };
      costs = pos 0 ∷ pos 549755813888 ∷ pos 549755813888 ∷ pos 549755813888 ∷ [];
      bounds = record { lows = negsuc 17179869183 ∷ pos 0 ∷ pos 0 ∷ negsuc 4294967295999 ∷ pos 7516192768 ∷ []; ups = pos 42949672960 ∷ pos 34359738368 ∷ pos 4294967296000 ∷ pos 4294967296000 ∷ pos 7516192768 ∷ []; has_low = true ∷ true ∷ true ∷ true ∷ true ∷ []; has_up = true ∷ true ∷ true ∷ true ∷ true ∷ [] };
      basis = record { nonbasic = 4 ∷ 1 ∷ 2 ∷ 3 ∷ []; places = None ∷ Some 1 ∷ Some 2 ∷ Some 3 ∷ Some 0 ∷ []; high = false ∷ false ∷ false ∷ false ∷ [] };
      reduced = pos 0 ∷ pos 549755813888 ∷ pos 549755813888 ∷ pos 549755813888 ∷ [];
      lines = (pos 1466015503701 ∷ negsuc 366503875924 ∷ pos 0 ∷ pos 0 ∷ []) ∷ (pos 0 ∷ pos 0 ∷ pos 0 ∷ pos 0 ∷ []) ∷ (pos 0 ∷ pos 0 ∷ pos 0 ∷ pos 0 ∷ []) ∷ (pos 0 ∷ pos 0 ∷ pos 0 ∷ pos 0 ∷ []) ∷ [];
      values = pos 10021590357 ∷ pos 0 ∷ pos 0 ∷ negsuc 4294967295999 ∷ [];
      weak = false;
    }

abbrev basic_state_after : WarmTable
basic_state_after =
    record {
      scales = record { rows = negsuc 1 ∷ negsuc 0 ∷ negsuc 0 ∷ []; columns = pos 0 ∷ pos 0 ∷ pos 0 ∷ pos 0 ∷ []; costs = negsuc 0; values = pos 0 };
      rows = ((0, pos 824633720832) ∷ (1, pos 274877906944) ∷ []) ∷ ((0, negsuc 550160334847) ∷ (2, pos 549755813888) ∷ []) ∷ ((3, pos 549755813888) ∷ []) ∷ [];
      cuts = record { rows = 1 ∷ 3 ∷ []; waiting = false ∷ false ∷ true ∷ true ∷ [] };
      costs = pos 0 ∷ pos 549755813888 ∷ pos 549755813888 ∷ pos 549755813888 ∷ [];
      bounds = record { lows = negsuc 17179869183 ∷ pos 0 ∷ pos 0 ∷ negsuc 4294967295999 ∷ pos 7516192768 ∷ pos 10737418240 ∷ pos 4224 ∷ []; ups = pos 42949672960 ∷ pos 34359738368 ∷ pos 4294967296000 ∷ pos 4294967296000 ∷ pos 7516192768 ∷ pos 0 ∷ pos 0 ∷ []; has_low = true ∷ true ∷ true ∷ true ∷ true ∷ true ∷ true ∷ []; has_up = true ∷ true ∷ true ∷ true ∷ true ∷ false ∷ false ∷ [] };
      basis = record { nonbasic = 4 ∷ 1 ∷ 2 ∷ 3 ∷ []; places = None ∷ Some 1 ∷ Some 2 ∷ Some 3 ∷ Some 0 ∷ None ∷ None ∷ []; high = false ∷ false ∷ false ∷ false ∷ [] };
      reduced = pos 0 ∷ pos 549755813888 ∷ pos 549755813888 ∷ pos 549755813888 ∷ [];
      lines = (pos 1466015503701 ∷ negsuc 366503875924 ∷ pos 0 ∷ pos 0 ∷ []) ∷ (pos 0 ∷ pos 0 ∷ pos 0 ∷ pos 0 ∷ []) ∷ (pos 0 ∷ pos 0 ∷ pos 0 ∷ pos 0 ∷ []) ∷ (pos 0 ∷ pos 0 ∷ pos 0 ∷ pos 0 ∷ []) ∷ [];
      values = pos 10021590357 ∷ pos 0 ∷ pos 0 ∷ negsuc 4294967295999 ∷ [];
      weak = false;
    }

basic_state : scan_of basic_state_program basic_state_before ≡ scanned false basic_state_after
unfolding scan_of states_of points_of basic_point rounded clamped_value waits greatest_cuts greatest_step plus_slope cut_row_value with_asked violates_last appended_cut appended_row row_scale scaled_terms scaled_term scaled_cell scaled_quantity scaled_sides shift_up shift_down count_leading_zeros
basic_state = refl

-- the second successor's cut leaves the range of sides; what came in before it stays
abbrev stops_program : Program
stops_program =
    record {
      columns = record { low = number (pos 0); high = number (pos 42949672960); cost = number (negsuc 4294967295) } ∷ record { low = number (pos 0); high = number (pos 4294967296000); cost = number (pos 4294967296) } ∷ record { low = number (pos 0); high = number (pos 4294967296000); cost = number (pos 4294967296) } ∷ [];
      rows = record { low = None; high = Some (number (pos 51539607552)); terms = (0, number (pos 4294967296)) ∷ [] } ∷ record { low = Some (number (pos 85899345920)); high = None; terms = (0, number (pos 4294967296)) ∷ (1, number (pos 4294967296)) ∷ [] } ∷ record { low = Some (number (pos 21474836480)); high = None; terms = (0, number (negsuc 4294967295)) ∷ (1, number (pos 4294967296)) ∷ [] } ∷ record { low = Some (number (pos 107374182400)); high = None; terms = (0, number (pos 4294967296)) ∷ (1, number (pos 4294967296)) ∷ [] } ∷ record { low = Some (number (pos 144115188075855872)); high = None; terms = (2, number (pos 4294967296)) ∷ [] } ∷ [];
      decisions = 1;
      own = 1;
    }

abbrev stops_before : WarmTable
stops_before =
    record {
      scales = record { rows = negsuc 0 ∷ []; columns = pos 0 ∷ pos 0 ∷ pos 0 ∷ []; costs = negsuc 0; values = pos 0 };
      rows = ((0, pos 549755813888) ∷ []) ∷ [];
      cuts = record { rows = []; waiting = false ∷ true ∷ true ∷ [] };
      costs = negsuc 549755813887 ∷ pos 549755813888 ∷ pos 549755813888 ∷ [];
      bounds = record { lows = pos 0 ∷ pos 0 ∷ pos 0 ∷ pos 0 ∷ []; ups = pos 42949672960 ∷ pos 4294967296000 ∷ pos 4294967296000 ∷ pos 25769803776 ∷ []; has_low = true ∷ true ∷ true ∷ false ∷ []; has_up = true ∷ true ∷ true ∷ true ∷ [] };
      basis = record { nonbasic = 0 ∷ 1 ∷ 2 ∷ []; places = Some 0 ∷ Some 1 ∷ Some 2 ∷ None ∷ []; high = true ∷ false ∷ false ∷ [] };
      reduced = negsuc 549755813887 ∷ pos 549755813888 ∷ pos 549755813888 ∷ [];
      lines = (pos 0 ∷ pos 0 ∷ pos 0 ∷ []) ∷ (pos 0 ∷ pos 0 ∷ pos 0 ∷ []) ∷ (pos 0 ∷ pos 0 ∷ pos 0 ∷ []) ∷ [];
      values = pos 42949672960 ∷ pos 0 ∷ pos 0 ∷ [];
      weak = false;
    }

abbrev stops_after : WarmTable
stops_after =
    record {
      scales = record { rows = negsuc 0 ∷ negsuc 0 ∷ []; columns = pos 0 ∷ pos 0 ∷ pos 0 ∷ []; costs = negsuc 0; values = pos 0 };
      rows = ((0, pos 549755813888) ∷ []) ∷ ((0, negsuc 549755813887) ∷ (1, pos 549755813888) ∷ []) ∷ [];
      cuts = record { rows = 2 ∷ []; waiting = false ∷ true ∷ true ∷ [] };
      costs = negsuc 549755813887 ∷ pos 549755813888 ∷ pos 549755813888 ∷ [];
      bounds = record { lows = pos 0 ∷ pos 0 ∷ pos 0 ∷ pos 0 ∷ pos 10737418240 ∷ []; ups = pos 42949672960 ∷ pos 4294967296000 ∷ pos 4294967296000 ∷ pos 25769803776 ∷ pos 0 ∷ []; has_low = true ∷ true ∷ true ∷ false ∷ true ∷ []; has_up = true ∷ true ∷ true ∷ true ∷ false ∷ [] };
      basis = record { nonbasic = 0 ∷ 1 ∷ 2 ∷ []; places = Some 0 ∷ Some 1 ∷ Some 2 ∷ None ∷ None ∷ []; high = true ∷ false ∷ false ∷ [] };
      reduced = negsuc 549755813887 ∷ pos 549755813888 ∷ pos 549755813888 ∷ [];
      lines = (pos 0 ∷ pos 0 ∷ pos 0 ∷ []) ∷ (pos 0 ∷ pos 0 ∷ pos 0 ∷ []) ∷ (pos 0 ∷ pos 0 ∷ pos 0 ∷ []) ∷ [];
      values = pos 42949672960 ∷ pos 0 ∷ pos 0 ∷ [];
      weak = false;
    }

stops : scan_of stops_program stops_before ≡ scanned true stops_after
unfolding scan_of states_of points_of basic_point rounded clamped_value waits greatest_cuts greatest_step plus_slope cut_row_value with_asked violates_last appended_cut appended_row row_scale scaled_terms scaled_term scaled_cell scaled_quantity scaled_sides shift_up shift_down count_leading_zeros
stops = refl
