-- The words of the command line, and what they ask for.
use Rattle.std.specs.Prelude.{◌≡◌, Bool, true, false, if◌then◌else◌, List, [], ◌∷◌, ℕ, String, codes, Option, Some, None, ⊤}
use Rattle.std.specs.Str.{bytes_eq}
use Rattle.std.specs.declared.alloc.Global.{Global}
use Rattle.run_words.specs.declared.command.Command.{Command}
use Rattle.run_words.specs.Commands.{command_of, texts}
use Rattle.run_words.specs.Traits.{Input, IsWithin, of_description, of_numbers, of_problem, trains, traits}
use Rattle.run_program.specs.declared.help.TheConstants.{HELP, VERSION}

-- the command that the words ask for; none where they are no command
abbrev pub asked_command : List (String Global) → Option Command
asked_command words = command_of (texts words)

abbrev pub IsProblem : Input → Type 0
IsProblem of_problem = ⊤
IsProblem of_description = ⊥
IsProblem (of_numbers seed stages reservoirs) = ⊥

-- the command plans over the problem in the source: it is a task
abbrev pub IsPlanning : Command → Type 0
IsPlanning command = IsProblem (traits command).input

-- a task, whose numbers are in their ranges
abbrev pub IsTaskWithin : Command → Type 0
IsTaskWithin command = IsPlanning command × IsWithin command

abbrev pub is_in_source : Input → Bool
is_in_source of_problem = true
is_in_source of_description = true
is_in_source (of_numbers seed stages reservoirs) = false

-- the command needs what the source holds
abbrev pub reads_source : Option Command → Bool
reads_source None = false
reads_source (Some command) = is_in_source (traits command).input

-- the name of the journal: the second word, and empty where there are fewer
abbrev pub journal_name : List (List ℕ) → List ℕ
journal_name [] = []
journal_name (word ∷ []) = []
journal_name (word ∷ (name ∷ ws)) = name

abbrev pub trains_if : Option Command → Bool
trains_if None = false
trains_if (Some command) = trains command

-- the journal is written
abbrev pub writes_journal : List (List ℕ) → Bool
writes_journal words = trains_if (command_of words)

-- the text that the program says of itself, where it is asked by one of these words alone
abbrev pub text_asked : List (List ℕ) → Option (List ℕ)
text_asked [] = None
text_asked (word ∷ []) = if bytes_eq word (codes "--help") then Some HELP.now else if bytes_eq word (codes "--version") then Some VERSION.now else None
text_asked (word ∷ (next ∷ ws)) = None
