-- The contracts of steps in place.
use Rattle.std.specs.Prelude.{◌≡◌, ◌<◌, ◌≤◌, ◌^◌, nat_abs, length, All, ⊤}
use Rattle.base_num.specs.Sums.{entry}
use Rattle.lp_wide_table.specs.Shape.{wide_variables}
use Rattle.lp_wide_table.specs.declared.table.WideTable.{WideTable}
use Rattle.lp_wide.specs.declared.inspecting.Mend.{Mend}
use Rattle.lp_wide.specs.declared.inspecting.WideInspection.{WideInspection}
use Rattle.lp_wide.specs.declared.inspecting.WideInspection.TheVariants as inspections
use Rattle.lp_wide.specs.declared.turns.Turn.{Turn}
use Rattle.lp_wide.specs.declared.turns.Turn.TheVariants as steps
use Rattle.lp_wide.specs.Turns as turns

-- a violated variable of the table, its line, a place whose cell is not small, and places that flip
pub record Mends (t : WideTable) (m : Mend) : Type 0 where
  pub there : m.violation.variable < wide_variables t
  pub line : length m.line ≡ length t.costs
  pub place : m.place < length t.costs
  pub cell : 2 ^ 40 ≤ nat_abs (entry m.line m.place)
  pub flips : All (λ j. j < length t.costs) m.flips

abbrev pub IsWideInspectionInside : WideTable → WideInspection → Type 0
IsWideInspectionInside t inspections.Rests = ⊤
IsWideInspectionInside t (inspections.Mends m) = Mends t m
IsWideInspectionInside t (inspections.Shows a) = ⊤
IsWideInspectionInside t inspections.Stops = ⊤

-- the turn leaves the new table
abbrev pub WideTakesTurn : Turn → turns.WideTurn → WideTable → Type 0
WideTakesTurn steps.Pivots turn new = turn ≡ turns.pivots new
WideTakesTurn steps.Idles turn new = turn ≡ turns.idles new
WideTakesTurn (steps.Ends a) turn new = turn ≡ turns.ends a
WideTakesTurn steps.Stops turn new = turn ≡ turns.halts
