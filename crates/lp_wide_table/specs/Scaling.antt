-- Numbers of a program by the scales of a table, and its columns.
use Rattle.std.specs.Prelude.{ℕ, ℤ, pos, ◌+ℤ◌, ◌-ℤ◌, true, List, [], map, replicate, slice_set, Option}
use Rattle.std.specs.Option.{option_map, option_and_then}
use Rattle.base_num.specs.Sums.{entry}
use Rattle.lp_program.specs.declared.fixed.Fx.{Fx}
use Rattle.lp_program.specs.declared.programs.Column.{Column}
use Rattle.lp_table.specs.declared.table.Scales.{Scales}
use Rattle.lp_scale.specs.Walks.{run}
use Rattle.lp_scale.specs.Scaling.{blank_basis_of, is_below_zero}
use Rattle.lp_wide_table.specs.Numbers.{wide_cell_of, wide_quantity_of, wide_shift_of}
use Rattle.lp_wide_table.specs.declared.table.WideBounds.{WideBounds}
use Rattle.lp_wide_table.specs.declared.table.WideTable.{WideTable}
use Rattle.lp_wide_table.specs.declared.scaling.WideScaledColumn.{WideScaledColumn}

-- a number times 2^k, as a point, a bound or a side; absent where it leaves their range
unfoldable pub wide_scaled_quantity : Fx → ℤ → Option ℤ
wide_scaled_quantity x k = option_and_then wide_quantity_of (wide_shift_of x.0 k)

-- a number times 2^k, as a cell; absent where it leaves the range of cells
unfoldable pub wide_scaled_cell : Fx → ℤ → Option ℤ
wide_scaled_cell x k = option_and_then wide_cell_of (wide_shift_of x.0 k)

-- both bounds and the cost; absent where one of them is
abbrev pub wide_column_of : Option ℤ → Option ℤ → Option ℤ → Option WideScaledColumn
wide_column_of low up cost = option_and_then (λ l. option_and_then (λ u. option_map (λ c. record { low = l; up = u; cost = c }) cost) up) low

-- the bounds and the cost of a column with the exponent f; g and h are the exponents of costs and of values
unfoldable pub wide_scaled_column : Column → ℤ → ℤ → ℤ → Option WideScaledColumn
wide_scaled_column c f g h =
    wide_column_of (wide_scaled_quantity c.low (h -ℤ f +ℤ pos 32)) (wide_scaled_quantity c.high (h -ℤ f +ℤ pos 32)) (wide_scaled_cell c.cost (g +ℤ f +ℤ pos 48))

-- with the bounds, the cost and the reduced cost of column j, which is nonbasic at place j
abbrev pub wide_with_column : ℕ → WideScaledColumn → WideTable → WideTable
wide_with_column j s t = record t {
  costs = slice_set t.costs j s.cost;
  reduced = slice_set t.reduced j s.cost;
  bounds = record t.bounds { lows = slice_set t.bounds.lows j s.low; ups = slice_set t.bounds.ups j s.up };
}

-- the table with column j of a program
unfoldable pub wide_column_step : ℕ → Column → WideTable → Option WideTable
wide_column_step j c t = option_map (λ s. wide_with_column j s t) (wide_scaled_column c (entry t.scales.columns j) t.scales.costs t.scales.values)

abbrev pub wide_blank_bounds_of : ℕ → WideBounds
wide_blank_bounds_of n = record { lows = replicate n (pos 0); ups = replicate n (pos 0); has_low = replicate n true; has_up = replicate n true }

-- a table without rows, whose n columns are 0
abbrev pub wide_blank_of : ℕ → Scales → WideTable
wide_blank_of n scales = record {
  scales = scales;
  rows = [];
  costs = replicate n (pos 0);
  bounds = wide_blank_bounds_of n;
  basis = blank_basis_of n;
  reduced = replicate n (pos 0);
  lines = replicate n (replicate n (pos 0));
  values = replicate n (pos 0);
}

-- each column stands at its upper bound where its reduced cost is negative
abbrev pub wide_standing_table : WideTable → WideTable
wide_standing_table t = record t { basis = record t.basis { high = map is_below_zero t.reduced } }

-- the table of a program's columns; absent where a number leaves its range
unfoldable pub wide_columns_table : ℕ → Scales → List Column → Option WideTable
wide_columns_table n scales columns = option_map wide_standing_table (run wide_column_step 0 columns (wide_blank_of n scales))
