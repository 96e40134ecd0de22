-- The contracts of steps in place.
use Rattle.std.specs.Prelude.{◌≡◌, ◌<◌, ◌≤◌, ◌^◌, ℕ, ℤ, nat_abs, List, length, Option, Some, None, ⊤}
use Rattle.base_num.specs.Sums.{entry}
use Rattle.lp_program.specs.declared.programs.Answer.{Answer}
use Rattle.lp_table.specs.declared.table.WarmTable.{WarmTable}
use Rattle.lp_table.specs.Shape.{variables}
use Rattle.lp_pivot.specs.declared.moves.Swap.{Swap}
use Rattle.lp_price.specs.Enters.{AreThere}
use Rattle.lp_solve.specs.declared.inspecting.Inspection.{Inspection}
use Rattle.lp_solve.specs.declared.inspecting.Inspection.TheVariants as inspections
use Rattle.lp_solve.specs.declared.inspecting.Survey.{Survey}
use Rattle.lp_solve.specs.declared.inspecting.Survey.TheVariants as surveys
use Rattle.lp_solve.specs.declared.turns.Turn.{Turn}
use Rattle.lp_solve.specs.declared.turns.Turn.TheVariants as steps
use Rattle.lp_solve.specs.Fitting.{IsHeld}
use Rattle.lp_solve.specs.Turns as turns

-- with the line and the flips that are left
abbrev pub Inspects : Inspection → turns.Inspection → List ℤ → List ℕ → Type 0
Inspects inspections.Passes g line flips = g ≡ turns.passes
Inspects (inspections.Mends swap) g line flips = g ≡ turns.mends swap line flips
Inspects (inspections.Shows a) g line flips = g ≡ turns.shows a
Inspects inspections.Stops g line flips = g ≡ turns.stops

-- a variable and a place of the table, whose cell is not small, and places that flip, fewer than there are
abbrev pub Enters : WarmTable → List ℤ → List ℕ → Swap → Type 0
Enters t line flips s = (s.leaving < variables t) × (s.place < length t.costs) × (2 ^ 24 ≤ nat_abs (entry line s.place)) × (length flips < length t.costs) × AreThere t flips

abbrev pub InspectsInside : Inspection → WarmTable → List ℤ → List ℕ → Type 0
InspectsInside inspections.Passes t line flips = ⊤
InspectsInside (inspections.Mends swap) t line flips = Enters t line flips swap
InspectsInside (inspections.Shows a) t line flips = ⊤
InspectsInside inspections.Stops t line flips = ⊤

-- with the line and the flips that are left
abbrev pub Surveys : Survey → turns.Survey → List ℤ → List ℕ → Type 0
Surveys (surveys.Rests passed) l line flips = l ≡ turns.rests passed
Surveys (surveys.Mends swap) l line flips = l ≡ turns.takes swap line flips
Surveys (surveys.Shows a) l line flips = l ≡ turns.finds a
Surveys surveys.Stops l line flips = l ≡ turns.fails

abbrev pub SurveysInside : Survey → WarmTable → List ℤ → List ℕ → Type 0
SurveysInside (surveys.Rests passed) t line flips = ⊤
SurveysInside (surveys.Mends swap) t line flips = Enters t line flips swap
SurveysInside (surveys.Shows a) t line flips = ⊤
SurveysInside surveys.Stops t line flips = ⊤

-- the turn ends without an answer, with the program, the rows and the basis of this table
abbrev pub Halts : turns.WarmTurn → WarmTable → Type 0
Halts (turns.pivots u) new = ⊥
Halts (turns.settles u) new = ⊥
Halts (turns.ends None u) new = IsHeld u new
Halts (turns.ends (Some a) u) new = ⊥

-- the turn leaves this table
abbrev pub TakesTurn : Turn → turns.WarmTurn → WarmTable → Type 0
TakesTurn steps.Pivots turn new = turn ≡ turns.pivots new
TakesTurn steps.Settles turn new = turn ≡ turns.settles new
TakesTurn (steps.Ends a) turn new = turn ≡ turns.ends (Some a) new
TakesTurn steps.Stops turn new = Halts turn new

-- turns end with an answer and this table, or with none and this basis
abbrev pub EndsTurns : Option Answer → turns.Went → WarmTable → Type 0
EndsTurns (Some a) went t = went ≡ turns.went (Some a) t
EndsTurns None went t = (went.answer ≡ None) × IsHeld went.table t
