-- The solver of the program: the warm simplex, which keeps a table along a chain.
use Rattle.std.specs.Prelude.{Option}
use Rattle.lp_program.specs.Solving.{Solving}
use Rattle.lp_table.specs.declared.table.WarmTable.{WarmTable}
use Rattle.lp_solve.specs.Chains.{begun_of, next_of_chain, started_of, takes_long}

abbrev pub own_solver : Solving (Option WarmTable) (Option WarmTable)
own_solver = record { started = started_of; begun = begun_of; next = next_of_chain; in_two = takes_long }
