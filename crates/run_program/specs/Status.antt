-- The numbers and the lines of statuses.
use Rattle.std.specs.Prelude.{ℕ, List, [], ◌++◌, codes}
use Rattle.run_program.specs.Kinds.{Output, all_written, partly_written, kind, none_written}
use Rattle.run_program.specs.declared.status.Status.{Status}

-- the process ends with this number
abbrev pub status_number : Status → ℕ
status_number status = (kind status).number

unfoldable pub status_text : Status → List ℕ
status_text status = (kind status).text

-- the program's name
unfoldable pub name : List ℕ
name = codes "hydroplan: "

abbrev pub line_for : Output → List ℕ → List ℕ
line_for all_written text = []
line_for partly_written text = name ++ text ++ codes "\n"
line_for none_written text = name ++ text ++ codes "\n"

-- the line on standard error; a run that wrote its whole text has none
unfoldable pub status_line_text : Status → List ℕ
status_line_text status = line_for (kind status).output (status_text status)

-- the line where that of a status finds no memory
unfoldable pub memory_line : List ℕ
memory_line = codes "hydroplan: memory\n"
