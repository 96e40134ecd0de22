-- The table of a whole program.
use Rattle.std.specs.Prelude.{length, Option, None, nat_lt, if◌then◌else◌}
use Rattle.std.specs.Option.{option_and_then}
use Rattle.lp_program.specs.declared.programs.Program.{Program}
use Rattle.lp_scale.specs.Whole.{whole_scales}
use Rattle.lp_wide_table.specs.Scaling.{wide_columns_table}
use Rattle.lp_wide_table.specs.Appending.{wide_appended}
use Rattle.lp_wide_table.specs.declared.table.WideTable.{WideTable}

-- all columns and all rows of a program, with all slacks basic. Absent where there are more than 1,199 columns, or where a number
-- leaves its range
unfoldable pub table_of : Program → Option WideTable
table_of lp =
    if nat_lt 1199 (length lp.columns) then None else option_and_then (wide_appended lp.rows) (wide_columns_table (length lp.columns) (whole_scales lp) lp.columns)
