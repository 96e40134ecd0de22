-- Turns of the bounded dual simplex method (Lemke, 1954; Wagner, 1958), with bound flips (Maros, 2003), on a table whose point
-- goes along and whose cuts come in as they are asked for.
use Rattle.std.specs.Prelude.{ℕ, zero, suc, ℤ, Bool, true, false, ◌||◌, List, length, Option, Some, None, nat_lt, if◌then◌else◌}
use Rattle.std.specs.Option.{option_map, is_some}
use Rattle.lp_program.specs.declared.programs.Program.{Program}
use Rattle.lp_program.specs.declared.programs.Answer.{Answer}
use Rattle.lp_table.specs.declared.table.WarmTable.{WarmTable}
use Rattle.lp_table.specs.SameParts.{with_values, with_work}
use Rattle.lp_pivot.specs.declared.moves.Swap.{Swap}
use Rattle.lp_pivot.specs.Refine.{refined}
use Rattle.lp_pivot.specs.Line.{line_of}
use Rattle.lp_pivot.specs.Move.{moved_of}
use Rattle.lp_pivot.specs.Pivot.{pivoted}
use Rattle.lp_price.specs.Enter.{Entry, enter_of}
use Rattle.lp_price.specs.Ray.{ray_answer}
use Rattle.lp_price.specs.Finish.{finish_of}
use Rattle.lp_price.specs.Found.{found_answer}
use Rattle.lp_scan.specs.Scan.{Scanned, scan_of}
use Rattle.lp_solve.specs.declared.violations.Violation.{Violation}
use Rattle.lp_solve.specs.Violations.{violations_of, next_violation}

-- the outcome of one violation: nothing can be done; it is mended, by the variable that enters for it, its line and the places that flip;
-- it shows by its ray that no point keeps all bounds; or a number is out of range
pub data Inspection : Type 0 where
  passes : Inspection
  mends : Swap → List ℤ → List ℕ → Inspection
  shows : Answer → Inspection
  stops : Inspection

abbrev pub by_ray : Option Answer → Inspection
by_ray None = passes
by_ray (Some a) = shows a

-- the variable of a violation leaves for the one at a place, with the violation that is left there
abbrev pub swap_at : Violation → ℕ × ℤ → Swap
swap_at v e = record { leaving = v.variable; above = v.above; place = e.0; tail = e.1 }

-- by the place that enters, else by the ray
abbrev pub by_entering_place : Violation → Option Answer → List ℤ → List ℕ → Option (ℕ × ℤ) → Inspection
by_entering_place v ray line flips None = by_ray ray
by_entering_place v ray line flips (Some e) = mends (swap_at v e) line flips

abbrev pub by_entry : Violation → Option Answer → List ℤ → Entry → Inspection
by_entry v ray line entry = by_entering_place v ray line entry.1 entry.0

abbrev pub by_line : Program → WarmTable → Violation → Option (List ℤ) → Inspection
by_line lp t v None = stops
by_line lp t v (Some line) = by_entry v (ray_answer t line v.variable v.above lp) line (enter_of t line v.above v.amount)

unfoldable pub inspection_of : Program → WarmTable → Violation → Inspection
inspection_of lp t v = by_line lp t v (line_of t v.variable)

-- the outcome of all violations: none can be mended, and some were passed over or none; this one is; one shows that no point keeps all
-- bounds; or a number is out of range
pub data Survey : Type 0 where
  rests : Bool → Survey
  takes : Swap → List ℤ → List ℕ → Survey
  finds : Answer → Survey
  fails : Survey

-- a violation by its inspection, where `after` is the outcome of those after it
abbrev pub by_inspection : Survey → Inspection → Survey
by_inspection after passes = after
by_inspection after (mends swap line flips) = takes swap line flips
by_inspection after (shows a) = finds a
by_inspection after stops = fails

-- where none is left, all up to the last one were passed over
abbrev pub by_next : (Violation → Survey) → Option Violation → Option Violation → Survey
by_next go last None = rests (is_some last)
by_next go last (Some v) = go v

-- the violations behind the last one, at most `count` of them, the greatest first
abbrev pub survey_from : Program → WarmTable → List Violation → ℕ → Option Violation → Survey
survey_from lp t vs zero last = rests (is_some last)
survey_from lp t vs (suc count) last = by_next (λ v. by_inspection (survey_from lp t vs count (Some v)) (inspection_of lp t v)) last (next_violation last vs)

abbrev pub by_violations : Program → WarmTable → Option (List Violation) → Survey
by_violations lp t None = fails
by_violations lp t (Some vs) = survey_from lp t vs (length vs) None

unfoldable pub survey_of : Program → WarmTable → Survey
survey_of lp t = by_violations lp t (violations_of t)

-- the outcome of a turn: a pivot; a point that is as exact as its table, refined or with rows of cuts more; or the end, with an answer or
-- without. Of the table of an end without one its program, its rows and its basis count, as it was when the turn began
pub data WarmTurn : Type 0 where
  pivots : WarmTable → WarmTurn
  settles : WarmTable → WarmTurn
  ends : Option Answer → WarmTable → WarmTurn

-- t is the table as the turn began
abbrev pub by_pivoted_table : WarmTable → Option WarmTable → WarmTurn
by_pivoted_table t None = ends None t
by_pivoted_table t (Some u) = pivots u

-- the point has gone along, and then the variables change places
abbrev pub by_move : WarmTable → Swap → List ℤ → List ℕ → Option (List ℤ) → WarmTurn
by_move t s line flips None = ends None t
by_move t s line flips (Some x) = by_pivoted_table t (pivoted (with_values t x) line s.leaving s.above s.place flips)

-- the variable that leaves has this line
abbrev pub swapped : WarmTable → Swap → List ℤ → List ℕ → WarmTurn
swapped t s line flips = by_move t s line flips (moved_of t line s.leaving s.above s.place s.tail flips)

-- on with the values of the basis
abbrev pub by_values : WarmTable → Option (List ℤ) → WarmTurn
by_values t None = ends None t
by_values t (Some x) = settles (with_values t x)

-- weak also where a violation was passed over
abbrev pub with_passed : Bool → WarmTable → WarmTable
with_passed passed t = with_work t t.basis t.reduced t.lines t.values (t.weak || passed)

-- with reduced costs computed afresh; none where one is no cell
unfoldable pub closed_of : Bool → WarmTable → Option WarmTable
closed_of passed t = option_map (with_passed passed) (finish_of t)

abbrev pub by_found : WarmTable → WarmTable → Option Answer → WarmTurn
by_found t u None = ends None t
by_found t u (Some a) = ends (Some a) u

abbrev pub by_closed : Program → WarmTable → Option WarmTable → WarmTurn
by_closed lp t None = ends None t
by_closed lp t (Some u) = by_found t u (found_answer u lp)

-- the point and the duals of a table on which nothing is left to do
unfoldable pub finishing : Program → Bool → WarmTable → WarmTurn
finishing lp passed t = by_closed lp t (closed_of passed t)

-- by whether rows came in, of which there were so many
abbrev pub by_rows : Program → Bool → ℕ → WarmTable → WarmTurn
by_rows lp passed count t = if nat_lt count (length t.rows) then settles t else finishing lp passed t

-- by the cuts that were asked for, where there were so many rows
abbrev pub by_scan : Program → Bool → ℕ → Scanned → WarmTurn
by_scan lp passed count s = if s.stopped then ends None s.table else by_rows lp passed count s.table

unfoldable pub asked : Program → Bool → WarmTable → WarmTurn
asked lp passed t = by_scan lp passed (length t.rows) (scan_of lp t)

-- where no violation can be mended: the point is refined, and once that is so, cuts are asked for
abbrev pub turn_without_violation : Program → Bool → Bool → WarmTable → WarmTurn
turn_without_violation lp fresh passed t = if fresh then asked lp passed t else by_values t (refined t)

abbrev pub by_survey : Program → Bool → WarmTable → Survey → WarmTurn
by_survey lp fresh t (rests passed) = turn_without_violation lp fresh passed t
by_survey lp fresh t (takes swap line flips) = swapped t swap line flips
by_survey lp fresh t (finds a) = ends (Some a) t
by_survey lp fresh t fails = ends None t

-- one turn on a table whose point is fresh, that is refined since the last pivot, or not
unfoldable pub turn_on_table : Program → Bool → WarmTable → WarmTurn
turn_on_table lp fresh t = by_survey lp fresh t (survey_of lp t)

-- how turns end: with an answer or without, and the table then
pub record Went : Type 0 where
  pub answer : Option Answer
  pub table : WarmTable

abbrev pub went : Option Answer → WarmTable → Went
went a t = record { answer = a; table = t }

-- after a turn, by what follows it
abbrev pub after_turn : (Bool → WarmTable → Went) → WarmTurn → Went
after_turn next (pivots u) = next false u
after_turn next (settles u) = next true u
after_turn next (ends a u) = went a u

-- at most so many turns
abbrev pub turns_on_table : Program → ℕ → Bool → WarmTable → Went
turns_on_table lp zero fresh t = went None t
turns_on_table lp (suc count) fresh t = after_turn (turns_on_table lp count) (turn_on_table lp fresh t)
