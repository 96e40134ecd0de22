-- Turns on a table with the sides of a program.
use Rattle.std.specs.Prelude.{◌+◌, ◌*◌, ℤ, pos, Bool, true, false, List, length, replicate, take, Option, Some, None}
use Rattle.lp_program.specs.declared.programs.Program.{Program}
use Rattle.lp_table.specs.declared.table.WarmTable.{WarmTable}
use Rattle.lp_table.specs.SameParts.{with_values, with_work}
use Rattle.lp_pivot.specs.Refine.{refined}
use Rattle.lp_scale.specs.Appending.{sided, with_bounds}
use Rattle.lp_pivot.specs.Standings.{rebuilt_of}
use Rattle.lp_solve.specs.Turns.{Went, went, turns_on_table}

-- nothing is known yet of the answer that will be found
abbrev pub trusted : WarmTable → WarmTable
trusted t = with_work t t.basis t.reduced t.lines t.values false

-- turns on a table with these values of its basis, which are not fresh
abbrev pub by_point : Program → WarmTable → Option (List ℤ) → Went
by_point lp t None = went None t
by_point lp t (Some x) = turns_on_table lp (20 * length t.costs + 100) false (with_values t x)

-- turns on a table from the values of its basis on
unfoldable pub gone_on : Program → WarmTable → Went
gone_on lp t = by_point lp t (refined t)

-- by whether all sides were set
abbrev pub by_sides : Program → WarmTable → Bool → Went
by_sides lp t true = gone_on lp t
by_sides lp t false = went None t

-- the sides of own rows are set to those of a program, and turns are taken until there is an answer
unfoldable pub go_of : Program → WarmTable → Went
go_of lp t = by_sides lp (with_bounds (sided (trusted t) (take lp.own lp.rows)).1 (trusted t)) (sided (trusted t) (take lp.own lp.rows)).0

-- no line is known, as none is needed where all slacks are basic
abbrev pub cleared : WarmTable → WarmTable
cleared t = with_work t t.basis t.reduced (replicate (length t.costs) (replicate (length t.costs) (pos 0))) t.values t.weak

-- the basis of a table in a clean one: it depends on the table's program and basis alone
unfoldable pub restored_of : WarmTable → Option WarmTable
restored_of t = rebuilt_of (cleared t)
