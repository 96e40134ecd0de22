-- The parts of a table that turns leave as they were.
use Rattle.std.specs.Prelude.{◌≡◌, length}
use Rattle.lp_program.specs.declared.programs.Program.{Program}
use Rattle.lp_table.specs.declared.table.WarmTable.{WarmTable}
use Rattle.lp_table.specs.SameParts.{KeepsProgram, with_work}
use Rattle.lp_solve.specs.declared.turns.WorkRoom.{WorkRoom}

-- the program of the table is as it was, and its basis
abbrev pub IsHeld : WarmTable → WarmTable → Type 0
IsHeld old new = new ≡ with_work old old.basis new.reduced new.lines new.values new.weak

-- of a program without cuts no rows come in
abbrev pub KeepsOwn : Program → WarmTable → WarmTable → Type 0
KeepsOwn lp old new = lp.own ≡ length lp.rows → KeepsProgram old new

-- lists for work are as long as the table asks
pub record IsRoomy (room : WorkRoom) (t : WarmTable) : Type 0 where
  pub line : length room.line ≡ length t.costs
  pub steps : length room.steps ≡ length t.costs
  pub shifts : length room.shifts ≡ length t.costs
