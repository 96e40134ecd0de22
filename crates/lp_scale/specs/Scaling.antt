-- Numbers of a program by the scales of a table, and the columns of the first table.
use Rattle.std.specs.Prelude.{ℕ, ℤ, pos, negsuc, ◌+ℤ◌, ◌-ℤ◌, ◌≤ℤ◌, Bool, true, false, List, [], map, replicate, slice_set, Option, Some, None, int_lt, if◌then◌else◌}
use Rattle.std.specs.Int.{int_min}
use Rattle.std.specs.Ordering.{int_eq}
use Rattle.std.specs.Option.{option_map, option_and_then}
use Rattle.base_num.specs.Sums.{entry}
use Rattle.lp_program.specs.declared.fixed.Fx.{Fx}
use Rattle.lp_program.specs.declared.programs.Column.{Column}
use Rattle.lp_program.specs.declared.programs.LpRow.{LpRow}
use Rattle.lp_table.specs.declared.table.Scales.{Scales}
use Rattle.lp_table.specs.declared.table.Bounds.{Bounds}
use Rattle.lp_table.specs.declared.table.Basis.{Basis}
use Rattle.lp_table.specs.declared.table.CutRows.{CutRows}
use Rattle.lp_table.specs.declared.table.WarmTable.{WarmTable}
use Rattle.lp_table.specs.Numbers.{bits_of, cell_of, quantity_of, shift_of}
use Rattle.lp_scale.specs.declared.spans.Span.{Span}
use Rattle.lp_scale.specs.declared.scaling.ScaledColumn.{ScaledColumn}
use Rattle.lp_scale.specs.Walks.{run, count_from}
use Rattle.lp_scale.specs.Spans.{span_of}
use Rattle.lp_scale.specs.Exponents.{reach_of, AreUpTo, columns_of}

-- a number times 2^k, as a point, a bound or a side; absent where it leaves their range
unfoldable pub scaled_quantity : Fx → ℤ → Option ℤ
scaled_quantity x k = option_and_then quantity_of (shift_of x.0 k)

-- a number times 2^k, as a cell; absent where it leaves the range of cells
unfoldable pub scaled_cell : Fx → ℤ → Option ℤ
scaled_cell x k = option_and_then cell_of (shift_of x.0 k)

-- how far the greatest is below a limit; 0 where there is none
abbrev pub room : ℤ → Option Span → ℤ
room limit None = pos 0
room limit (Some s) = limit -ℤ s.greatest

-- the binary digits of a scaled cost that is not 0
abbrev pub cost_weight : List ℤ → ℕ → Column → Option ℤ
cost_weight fs j c = if int_eq c.cost.0 (pos 0) then None else Some (pos (bits_of c.cost.0) +ℤ entry fs j)

-- the exponent of costs, by the decisions
unfoldable pub costs_scale : List ℤ → List Column → ℤ
costs_scale fs decisions = room (pos 32) (span_of (cost_weight fs) decisions)

-- the binary digits of a scaled box
abbrev pub box_weight : List ℤ → ℕ → Column → Option ℤ
box_weight fs j c = Some (pos (reach_of c) -ℤ entry fs j)

-- the exponent of values, by the decisions
unfoldable pub values_scale : List ℤ → List Column → ℤ
values_scale fs decisions = int_min (pos 0) (room (pos 54) (span_of (box_weight fs) decisions))

-- both bounds and the cost; absent where one of them is
abbrev pub column_of : Option ℤ → Option ℤ → Option ℤ → Option ScaledColumn
column_of low up cost = option_and_then (λ l. option_and_then (λ u. option_map (λ c. record { low = l; up = u; cost = c }) cost) up) low

-- the bounds and the cost of a column with the exponent f; g and h are the exponents of costs and of values
unfoldable pub scaled_column : Column → ℤ → ℤ → ℤ → Option ScaledColumn
scaled_column c f g h = column_of (scaled_quantity c.low (h -ℤ f)) (scaled_quantity c.high (h -ℤ f)) (scaled_cell c.cost (g +ℤ f +ℤ pos 8))

-- with the bounds, the cost and the reduced cost of column j, which is nonbasic at place j
abbrev pub with_column : ℕ → ScaledColumn → WarmTable → WarmTable
with_column j s t = record t {
  costs = slice_set t.costs j s.cost;
  reduced = slice_set t.reduced j s.cost;
  bounds = record t.bounds { lows = slice_set t.bounds.lows j s.low; ups = slice_set t.bounds.ups j s.up };
}

-- the table with column j of a program
unfoldable pub column_step : ℕ → Column → WarmTable → Option WarmTable
column_step j c t = option_map (λ s. with_column j s t) (scaled_column c (entry t.scales.columns j) t.scales.costs t.scales.values)

-- 0, 1, .. , n - 1
abbrev pub column_numbers : ℕ → List ℕ
column_numbers n = count_from 0 n

abbrev pub blank_bounds_of : ℕ → Bounds
blank_bounds_of n = record { lows = replicate n (pos 0); ups = replicate n (pos 0); has_low = replicate n true; has_up = replicate n true }

abbrev pub blank_basis_of : ℕ → Basis
blank_basis_of n = record { nonbasic = column_numbers n; places = map Some (column_numbers n); high = replicate n false }

-- no rows of cuts, and none that wait
abbrev pub blank_cuts_of : ℕ → CutRows
blank_cuts_of n = record { rows = []; waiting = replicate n false }

-- a table without rows, whose columns are 0, by the exponents of columns, costs and values
abbrev pub blank_with : ℕ → List ℤ → ℤ → ℤ → WarmTable
blank_with n fs g h = record {
  scales = record { rows = []; columns = fs; costs = g; values = h };
  rows = [];
  cuts = blank_cuts_of n;
  costs = replicate n (pos 0);
  bounds = blank_bounds_of n;
  basis = blank_basis_of n;
  reduced = replicate n (pos 0);
  lines = replicate n (replicate n (pos 0));
  values = replicate n (pos 0);
  weak = false;
}

-- the blank table with the exponents for some decisions and rows
unfoldable pub blank_of : ℕ → List Column → List LpRow → WarmTable
blank_of n decisions rows =
    let fs = columns_of n decisions rows in
    blank_with n fs (costs_scale fs decisions) (values_scale fs decisions)

abbrev pub is_below_zero : ℤ → Bool
is_below_zero d = int_lt d (pos 0)

-- each column stands at its upper bound where its reduced cost is negative
abbrev pub standing_table : WarmTable → WarmTable
standing_table t = record t { basis = record t.basis { high = map is_below_zero t.reduced } }

-- the columns of the first table; absent where a number leaves its range
unfoldable pub columns_table : ℕ → List Column → List LpRow → Option WarmTable
columns_table n decisions rows = option_map standing_table (run column_step 0 decisions (blank_of n decisions rows))

abbrev pub AreRowScales : List ℤ → Type 0
AreRowScales es = (i : ℕ) → (negsuc 1299 ≤ℤ entry es i) × (entry es i ≤ℤ pos 1300)

-- the range of exponents: those of columns from 0 to `most`
pub record AreSmall (most : ℕ) (s : Scales) : Type 0 where
  pub columns : AreUpTo most s.columns
  pub rows : AreRowScales s.rows
  pub costs_least : negsuc 1299 ≤ℤ s.costs
  pub costs_greatest : s.costs ≤ℤ pos 1300
  pub values_least : negsuc 1299 ≤ℤ s.values
  pub values_greatest : s.values ≤ℤ pos 0
