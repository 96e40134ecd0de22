-- Worked tables, computed.
use Rattle.std.proofs.Common.{◌≡◌, ℕ, ℤ, pos, neg_ℤ, List, [], ◌∷◌, Option, Some, None, true, false, refl}
use Rattle.std.specs.Option.{option_map}
use Rattle.lp_program.specs.declared.fixed.Fx.{Fx}
use Rattle.lp_program.specs.declared.programs.Column.{Column}
use Rattle.lp_program.specs.declared.programs.LpRow.{LpRow}
use Rattle.lp_program.specs.declared.programs.Program.{Program}
use Rattle.lp_program.specs.Numbers.{number}
use Rattle.lp_wide_table.specs.declared.table.WideTable.{WideTable}
use Rattle.lp_wide_table.specs.Making.{table_of}
use Rattle.lp_scale.specs.Appending as scale_appending
use Rattle.lp_scale.specs.Exponents as scale_exponents
use Rattle.lp_scale.specs.Scaling as scale_scaling
use Rattle.lp_scale.specs.Widening as scale_widening
use Rattle.lp_scale.specs.Whole as scale_whole
use Rattle.lp_wide_table.specs.Numbers as table_numbers
use Rattle.lp_wide_table.specs.Scaling as table_scaling
use Rattle.lp_wide_table.specs.Appending as table_appending
use Rattle.lp_wide_table.specs.Making as table_making

abbrev column : ℤ → ℤ → ℤ → Column
column low high cost = record { low = number low; high = number high; cost = number cost }

abbrev row : Option Fx → Option Fx → List (ℕ × Fx) → LpRow
row low high terms = record { low = low; high = high; terms = terms }

-- a reservoir, a turbine, a plant and what is to come, with two cuts
abbrev with_cuts : Program
with_cuts =
    record {
      columns = column (pos 0) (pos 42949672960) (pos 0) ∷ column (pos 0) (pos 34359738368) (pos 4294967296) ∷ column (pos 0) (pos 85899345920) (pos 21474836480) ∷ column (pos 0) (pos 4294967296000) (pos 4294967296) ∷ [];
      rows = row (Some (number (pos 21474836480))) (Some (number (pos 21474836480))) ((0, number (pos 4294967296)) ∷ (1, number (pos 4294967296)) ∷ []) ∷ row (Some (number (pos 25769803776))) (Some (number (pos 25769803776))) ((1, number (pos 4294967296)) ∷ (2, number (pos 4294967296)) ∷ []) ∷ row (Some (number (pos 171798691840))) (None) ((0, number (pos 12884901888)) ∷ (3, number (pos 4294967296)) ∷ []) ∷ row (Some (number (pos 128849018880))) (None) ((0, number (pos 4294967296)) ∷ (3, number (pos 4294967296)) ∷ []) ∷ [];
      decisions = 3;
      own = 2;
    }

scales_of_cuts : option_map (λ (t : WideTable). t.scales) (table_of with_cuts) ≡ Some (record { rows = neg_ℤ (pos 1) ∷ neg_ℤ (pos 1) ∷ neg_ℤ (pos 2) ∷ neg_ℤ (pos 1) ∷ []; columns = pos 0 ∷ pos 0 ∷ pos 0 ∷ pos 0 ∷ []; costs = neg_ℤ (pos 3); values = pos 0 })
unfolding scale_appending.row_scale scale_exponents.with_row_terms scale_exponents.spans_of scale_exponents.pass_of scale_exponents.columns_of scale_scaling.costs_scale scale_scaling.values_scale scale_widening.top_of scale_widening.cut_spans scale_whole.whole_scales table_numbers.nearest table_numbers.wide_shift_up table_scaling.wide_scaled_quantity table_scaling.wide_scaled_cell table_scaling.wide_scaled_column table_scaling.wide_column_step table_scaling.wide_columns_table table_appending.wide_scaled_sides table_appending.wide_scaled_term table_appending.wide_scaled_terms table_appending.wide_appended_row table_making.table_of lib.Count.count_leading_zeros
scales_of_cuts = refl

rows_of_cuts : option_map (λ (t : WideTable). t.rows) (table_of with_cuts) ≡ Some (((0, pos 604462909807314587353088) ∷ (1, pos 604462909807314587353088) ∷ []) ∷ ((1, pos 604462909807314587353088) ∷ (2, pos 604462909807314587353088) ∷ []) ∷ ((0, pos 906694364710971881029632) ∷ (3, pos 302231454903657293676544) ∷ []) ∷ ((0, pos 604462909807314587353088) ∷ (3, pos 604462909807314587353088) ∷ []) ∷ [])
unfolding scale_appending.row_scale scale_exponents.with_row_terms scale_exponents.spans_of scale_exponents.pass_of scale_exponents.columns_of scale_scaling.costs_scale scale_scaling.values_scale scale_widening.top_of scale_widening.cut_spans scale_whole.whole_scales table_numbers.nearest table_numbers.wide_shift_up table_scaling.wide_scaled_quantity table_scaling.wide_scaled_cell table_scaling.wide_scaled_column table_scaling.wide_column_step table_scaling.wide_columns_table table_appending.wide_scaled_sides table_appending.wide_scaled_term table_appending.wide_scaled_terms table_appending.wide_appended_row table_making.table_of lib.Count.count_leading_zeros
rows_of_cuts = refl

costs_of_cuts : option_map (λ (t : WideTable). t.reduced) (table_of with_cuts) ≡ Some (pos 0 ∷ pos 151115727451828646838272 ∷ pos 755578637259143234191360 ∷ pos 151115727451828646838272 ∷ [])
unfolding scale_appending.row_scale scale_exponents.with_row_terms scale_exponents.spans_of scale_exponents.pass_of scale_exponents.columns_of scale_scaling.costs_scale scale_scaling.values_scale scale_widening.top_of scale_widening.cut_spans scale_whole.whole_scales table_numbers.nearest table_numbers.wide_shift_up table_scaling.wide_scaled_quantity table_scaling.wide_scaled_cell table_scaling.wide_scaled_column table_scaling.wide_column_step table_scaling.wide_columns_table table_appending.wide_scaled_sides table_appending.wide_scaled_term table_appending.wide_scaled_terms table_appending.wide_appended_row table_making.table_of lib.Count.count_leading_zeros
costs_of_cuts = refl

bounds_of_cuts : option_map (λ (t : WideTable). t.bounds) (table_of with_cuts) ≡ Some (record { lows = pos 0 ∷ pos 0 ∷ pos 0 ∷ pos 0 ∷ pos 46116860184273879040 ∷ pos 55340232221128654848 ∷ pos 184467440737095516160 ∷ pos 276701161105643274240 ∷ []; ups = pos 184467440737095516160 ∷ pos 147573952589676412928 ∷ pos 368934881474191032320 ∷ pos 18446744073709551616000 ∷ pos 46116860184273879040 ∷ pos 55340232221128654848 ∷ pos 0 ∷ pos 0 ∷ []; has_low = true ∷ true ∷ true ∷ true ∷ true ∷ true ∷ true ∷ true ∷ []; has_up = true ∷ true ∷ true ∷ true ∷ true ∷ true ∷ false ∷ false ∷ [] })
unfolding scale_appending.row_scale scale_exponents.with_row_terms scale_exponents.spans_of scale_exponents.pass_of scale_exponents.columns_of scale_scaling.costs_scale scale_scaling.values_scale scale_widening.top_of scale_widening.cut_spans scale_whole.whole_scales table_numbers.nearest table_numbers.wide_shift_up table_scaling.wide_scaled_quantity table_scaling.wide_scaled_cell table_scaling.wide_scaled_column table_scaling.wide_column_step table_scaling.wide_columns_table table_appending.wide_scaled_sides table_appending.wide_scaled_term table_appending.wide_scaled_terms table_appending.wide_appended_row table_making.table_of lib.Count.count_leading_zeros
bounds_of_cuts = refl
