-- The first table of a program.
use Rattle.std.specs.Prelude.{◌++◌, length, map, take, drop, Option, None, nat_lt, if◌then◌else◌}
use Rattle.std.specs.Option.{option_and_then}
use Rattle.lp_program.specs.declared.programs.Column.{Column}
use Rattle.lp_program.specs.declared.programs.Program.{Program}
use Rattle.lp_program.specs.Numbers.{zero_fx}
use Rattle.lp_table.specs.declared.table.WarmTable.{WarmTable}
use Rattle.lp_scale.specs.Scaling.{columns_table}
use Rattle.lp_scale.specs.Appending.{appended}

-- a column that stands at 0 and costs nothing
abbrev pub idle : Column → Column
idle c = record { low = zero_fx; high = zero_fx; cost = zero_fx }

-- a program without its cuts, whose columns from `decisions` on are idle
abbrev pub own_part : Program → Program
own_part lp = record {
  columns = take lp.decisions lp.columns ++ map idle (drop lp.decisions lp.columns);
  rows = take lp.own lp.rows;
  decisions = lp.decisions;
  own = lp.own;
}

-- the first table of a program's own part: of its own rows, with its decisions, where the other columns stand at 0 and cost
-- nothing. Absent where there are more than 1,199 columns, or where a number leaves its range
unfoldable pub first_of : Program → Option WarmTable
first_of lp =
    if nat_lt 1199 (length lp.columns) then None else option_and_then (appended (take lp.own lp.rows)) (columns_table (length lp.columns) (take lp.decisions lp.columns) (take lp.own lp.rows))
