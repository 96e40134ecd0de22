-- Turns of the bounded dual simplex method (Lemke, 1954; Wagner, 1958), with bound flips (Maros, 2003).
use Rattle.std.specs.Prelude.{ℕ, zero, suc, ℤ, Bool, true, false, List, length, Option, Some, None, if◌then◌else◌}
use Rattle.lp_program.specs.declared.programs.Program.{Program}
use Rattle.lp_program.specs.declared.programs.Answer.{Answer}
use Rattle.lp_wide_table.specs.declared.table.WideTable.{WideTable}
use Rattle.lp_wide_table.specs.SameParts.{wide_with_values}
use Rattle.lp_wide.specs.declared.entering.WideEntering.{WideEntering}
use Rattle.lp_wide.specs.declared.violations.WideViolation.{WideViolation}
use Rattle.lp_wide.specs.declared.inspecting.Mend.{Mend}
use Rattle.lp_wide.specs.declared.inspecting.WideInspection.{WideInspection}
use Rattle.lp_wide.specs.declared.inspecting.WideInspection.TheVariants as inspections
use Rattle.lp_wide.specs.Refine.{wide_refined}
use Rattle.lp_wide.specs.Line.{wide_line_of}
use Rattle.lp_wide.specs.Pivot.{wide_pivoted}
use Rattle.lp_wide.specs.Enter.{wide_enter_of}
use Rattle.lp_wide.specs.Ray.{wide_ray_answer}
use Rattle.lp_wide.specs.Found.{finished_of}
use Rattle.lp_wide.specs.Violations.{wide_violations_of, wide_next_violation}

abbrev pub wide_by_ray : Option Answer → WideInspection
wide_by_ray None = inspections.Rests
wide_by_ray (Some a) = inspections.Shows a

abbrev pub wide_mend : WideViolation → List ℤ → ℕ → List ℕ → Mend
wide_mend v line e flips = record { violation = v; line = line; place = e; flips = flips }

-- a place that enters, else the ray
abbrev pub wide_by_entering_place : Option Answer → WideViolation → List ℤ → List ℕ → Option ℕ → WideInspection
wide_by_entering_place ray v line flips None = wide_by_ray ray
wide_by_entering_place ray v line flips (Some e) = inspections.Mends (wide_mend v line e flips)

abbrev pub wide_by_entry : Option Answer → WideViolation → List ℤ → Option WideEntering → WideInspection
wide_by_entry ray v line None = inspections.Stops
wide_by_entry ray v line (Some e) = wide_by_entering_place ray v line e.flips e.place

abbrev pub wide_by_line : Program → WideTable → WideViolation → Option (List ℤ) → WideInspection
wide_by_line lp t v None = inspections.Stops
wide_by_line lp t v (Some line) = wide_by_entry (wide_ray_answer t line v.variable v.above lp) v line (wide_enter_of t line v.above v.amount)

-- the outcome of one violation: nothing can be done; it is mended; it shows by its ray that no point keeps all bounds; or a number is out
-- of range
unfoldable pub inspection_at : Program → WideTable → WideViolation → WideInspection
inspection_at lp t v = wide_by_line lp t v (wide_line_of t v.variable)

-- where nothing can be done, the outcome of `after`
abbrev pub or_after : WideInspection → WideInspection → WideInspection
or_after after inspections.Rests = after
or_after after (inspections.Mends m) = inspections.Mends m
or_after after (inspections.Shows a) = inspections.Shows a
or_after after inspections.Stops = inspections.Stops

abbrev pub wide_by_next : (WideViolation → WideInspection) → Option WideViolation → WideInspection
wide_by_next go None = inspections.Rests
wide_by_next go (Some v) = go v

-- the violations behind the last one, at most `count` of them, the greatest first
abbrev pub inspection_from : Program → WideTable → List WideViolation → ℕ → Option WideViolation → WideInspection
inspection_from lp t vs zero last = inspections.Rests
inspection_from lp t vs (suc count) last = wide_by_next (λ v. or_after (inspection_from lp t vs count (Some v)) (inspection_at lp t v)) (wide_next_violation last vs)

abbrev pub wide_by_violations : Program → WideTable → Option (List WideViolation) → WideInspection
wide_by_violations lp t None = inspections.Stops
wide_by_violations lp t (Some vs) = inspection_from lp t vs (length vs) None

-- the outcome of all violations
unfoldable pub wide_inspection_of : Program → WideTable → WideInspection
wide_inspection_of lp t = wide_by_violations lp t (wide_violations_of t)

-- the outcome of a turn: a pivot, nothing, a ray, or a number out of range
pub data WideTurn : Type 0 where
  pivots : WideTable → WideTurn
  idles : WideTable → WideTurn
  ends : Answer → WideTurn
  halts : WideTurn

abbrev pub wide_by_pivoted_table : Option WideTable → WideTurn
wide_by_pivoted_table None = halts
wide_by_pivoted_table (Some u) = pivots u

unfoldable pub mended : WideTable → Mend → Option WideTable
mended t m = wide_pivoted t m.line m.violation.variable m.violation.above m.place m.flips

abbrev pub wide_by_inspection : WideTable → WideInspection → WideTurn
wide_by_inspection t inspections.Rests = idles t
wide_by_inspection t (inspections.Mends m) = wide_by_pivoted_table (mended t m)
wide_by_inspection t (inspections.Shows a) = ends a
wide_by_inspection t inspections.Stops = halts

-- on the table with the values of its basis
abbrev pub wide_by_values : Program → WideTable → Option (List ℤ) → WideTurn
wide_by_values lp t None = halts
wide_by_values lp t (Some x) = wide_by_inspection (wide_with_values t x) (wide_inspection_of lp (wide_with_values t x))

unfoldable pub wide_turn_on_table : Program → WideTable → WideTurn
wide_turn_on_table lp t = wide_by_values lp t (wide_refined t)

-- after a turn, by what follows it and by whether the turn before did nothing
abbrev pub wide_after_turn : Program → (Bool → WideTable → Option Answer) → Bool → WideTurn → Option Answer
wide_after_turn lp next idle (pivots u) = next false u
wide_after_turn lp next idle (idles u) = if idle then finished_of u lp else next true u
wide_after_turn lp next idle (ends a) = Some a
wide_after_turn lp next idle halts = None

-- at most so many turns, after one that did nothing or not; none where all are used up
abbrev pub wide_turns_on_table : Program → ℕ → Bool → WideTable → Option Answer
wide_turns_on_table lp zero idle t = None
wide_turns_on_table lp (suc count) idle t = wide_after_turn lp (wide_turns_on_table lp count) idle (wide_turn_on_table lp t)
