-- Answers along a chain: each program goes on from the table that the one before it left.
use Rattle.std.specs.Prelude.{ℕ, ◌+◌, ◌*◌, ◌^◌, Bool, true, false, not, List, length, Option, Some, None, nat_lt, nat_le, if◌then◌else◌}
use Rattle.std.specs.Option.{option_map, option_and_then}
use Rattle.lp_program.specs.declared.programs.Program.{Program}
use Rattle.lp_program.specs.declared.programs.Answer.{Answer}
use Rattle.lp_program.specs.declared.programs.Kind.{Kind}
use Rattle.lp_program.specs.declared.programs.Kind.TheVariants as kinds
use Rattle.lp_program.specs.Answers.{lows_of, zeros_of}
use Rattle.lp_table.specs.declared.table.WarmTable.{WarmTable}
use Rattle.lp_price.specs.Finish.{is_far}
use Rattle.lp_scale.specs.First.{first_of}
use Rattle.lp_scale.specs.Widening.{widened, widened_in_full}
use Rattle.lp_wide.specs.Solve.{wide_of}
use Rattle.lp_solve.specs.declared.attempts.Attempt.{Attempt}
use Rattle.lp_solve.specs.declared.violations.Violation.{Violation}
use Rattle.lp_solve.specs.Turns.{Went}
use Rattle.lp_solve.specs.Violations.{violations_of}
use Rattle.lp_solve.specs.Going.{go_of, restored_of}

abbrev pub attempt : Option Answer → Bool → Option WarmTable → Attempt
attempt a good t = record { answer = a; good = good; table = t }

abbrev pub is_ray : Kind → Bool
is_ray kinds.Found = false
is_ray kinds.Ray = true
is_ray kinds.Stuck = false

-- a ray is good, since it is a proof, and a point where it is to be trusted
abbrev pub is_good : Option Answer → Bool → Bool
is_good None weak = false
is_good (Some a) weak = if is_ray a.kind then true else not weak

-- whether a basic variable violates a bound, or one has no value
abbrev pub is_violated_by : Option (List Violation) → Bool
is_violated_by None = true
is_violated_by (Some vs) = nat_lt 0 (length vs)

-- a weak point is poor where a violation was passed over, or where it is far from the best one
unfoldable pub is_poor : WarmTable → Bool
is_poor t = if t.weak then (if is_violated_by (violations_of t) then true else is_far t) else false

-- where there is a new answer the chain goes on with its table; else the answer before stays, and the chain has none. A point that is not
-- poor is good here, since turns on a table after the chain's seldom come to a better one
abbrev pub replaced_by : Option Answer → WarmTable → Option Answer → Attempt
replaced_by before t None = attempt before false None
replaced_by before t (Some a) = attempt (Some a) (is_good (Some a) (is_poor t)) (Some t)

abbrev pub replaced_attempt : Option Answer → Went → Attempt
replaced_attempt before w = replaced_by before w.table w.answer

-- turns on another table, where there is one
abbrev pub tried : Program → Option Answer → Option WarmTable → Attempt
tried lp before None = attempt before false None
tried lp before (Some t) = replaced_attempt before (go_of lp t)

-- where turns came to nothing good, turns on the same basis in a clean table
abbrev pub unless_good : Program → Option Answer → WarmTable → Attempt
unless_good lp a t = if is_good a t.weak then attempt a true (Some t) else tried lp a (restored_of t)

abbrev pub warm_attempt : Program → Went → Attempt
warm_attempt lp w = unless_good lp w.answer w.table

-- by the table that a chain has
abbrev pub by_chain : Program → Option WarmTable → Attempt
by_chain lp None = attempt None false None
by_chain lp (Some t) = warm_attempt lp (go_of lp t)

-- the table of a program from nothing, with the rows of all cuts
unfoldable pub new_table : Program → Option WarmTable
new_table lp = option_and_then (widened_in_full lp) (first_of lp)

-- where nothing good was found, turns on a table from nothing
abbrev pub then_anew : Program → Attempt → Attempt
then_anew lp a = if a.good then a else tried lp a.answer (new_table lp)

-- where there is no answer
unfoldable pub stuck_answer : Program → Answer
stuck_answer lp = record { kind = kinds.Stuck; point = lows_of lp.columns; duals = zeros_of lp.rows }

-- the answer in wide numbers, which is asked for where nothing good was found
abbrev pub wide_unless : Bool → Program → Option Answer
wide_unless good lp = if good then None else wide_of lp

-- the answer in wide numbers, else that of attempts
abbrev pub or_stuck : Program → Option Answer → Option Answer → Answer
or_stuck lp (Some b) a = b
or_stuck lp None (Some a) = a
or_stuck lp None None = stuck_answer lp

-- a chain has the table of attempts where their answer stays, else none
abbrev pub table_left : Option Answer → Option Answer → Option WarmTable → Option WarmTable
table_left (Some b) a t = None
table_left None (Some a) t = t
table_left None None t = None

abbrev pub with_wide : Program → Attempt → Option Answer → Answer × Option WarmTable
with_wide lp a wide = (or_stuck lp wide a.answer, table_left wide a.answer a.table)

abbrev pub last_resort : Program → Attempt → Answer × Option WarmTable
last_resort lp a = with_wide lp a (wide_unless a.good lp)

-- the answer to a program of a chain that has this table, and the table that it has then
unfoldable pub next_of_chain : Option WarmTable → Program → Answer × Option WarmTable
next_of_chain chain lp = last_resort lp (then_anew lp (by_chain lp chain))

-- the table after turns that came to something good, else as it was before them
abbrev pub readied_by : WarmTable → Option Answer → WarmTable → WarmTable
readied_by t a u = if is_good a u.weak then u else t

abbrev pub readied : WarmTable → Went → WarmTable
readied t w = readied_by t w.answer w.table

-- the start that a program of own rows makes
unfoldable pub started_of : Program → Option WarmTable
started_of lp = option_map (λ t. readied t (go_of lp t)) (first_of lp)

-- the table of a chain that begins with a program
unfoldable pub begun_of : Option WarmTable → Program → Option WarmTable
begun_of start lp = option_and_then (widened lp) start

-- whether so many solves of programs like one go in two chains: they take long, where the cells of own rows and of eight cuts' rows
-- are 2^20 or more in all solves together
unfoldable pub takes_long : Program → ℕ → Bool
takes_long lp solves = nat_le (2 ^ 20) (length lp.columns * (lp.own + 8) * solves)
