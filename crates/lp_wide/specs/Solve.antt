-- The answer to a program in wide numbers, from nothing.
use Rattle.std.specs.Prelude.{◌+◌, ◌*◌, false, length, Option}
use Rattle.std.specs.Option.{option_and_then}
use Rattle.lp_program.specs.declared.programs.Program.{Program}
use Rattle.lp_program.specs.declared.programs.Answer.{Answer}
use Rattle.lp_wide_table.specs.declared.table.WideTable.{WideTable}
use Rattle.lp_wide_table.specs.Making.{table_of}
use Rattle.lp_wide.specs.Turns.{wide_turns_on_table}

-- by the table of the whole program
abbrev pub solved : Program → WideTable → Option Answer
solved lp t = wide_turns_on_table lp (20 * length t.costs + 100) false t

-- a point or a proved ray; none where a number leaves its range, where the turns run out, or with more than 1,199 columns
unfoldable pub wide_of : Program → Option Answer
wide_of lp = option_and_then (solved lp) (table_of lp)
