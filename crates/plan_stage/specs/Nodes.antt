-- The stage problems of a validated problem's nodes.
use Rattle.std.specs.Prelude.{◌≡◌, ℕ, ◌<◌, ◌^◌, true, ℤ, pos, ◌+ℤ◌, ◌*ℤ◌, List, [], ◌++◌, length, map, zip, get_or, Option, Some, None, slice_get, option_and_then}
use Rattle.std.specs.Option.{option_map}
use Rattle.problem.specs.declared.parts.Node.{Node}
use Rattle.problem.specs.declared.parts.Subproblem.{Subproblem}
use Rattle.problem.specs.Formulas.{successor_total}
use Rattle.problem.specs.Validated.{Validated, is_validated, subproblem_of}
use Rattle.theory.specs.declared.cut.Cut.{Cut}
use Rattle.lp_program.specs.declared.programs.Column.{Column}
use Rattle.lp_program.specs.declared.programs.Program.{Program}
use Rattle.lp_program.specs.Numbers.{zero_fx}
use Rattle.plan_stage.specs.Stage.{decision_column, own_row, stage_program}

-- a validated problem has this node and this subproblem at the number m
pub record Stands (p : Validated) (m : ℕ) (n : Node) (s : Subproblem) : Type 0 where
  pub validated : is_validated p ≡ true
  pub known : m < length p.parts.nodes
  pub the_node : slice_get p.parts.nodes m ≡ Some n
  pub the_subproblem : subproblem_of p m ≡ Some s

-- the program that is made of the node m and its subproblem
abbrev pub program_at_node : Validated → ℕ → (Node → Subproblem → Program) → Option Program
program_at_node p m f = option_and_then (λ (n : Node). option_map (f n) (slice_get p.parts.subs n.sub)) (slice_get p.parts.nodes m)

-- the stage problem of the node m over these pools, at these values and this state
unfoldable pub stage_in : Validated → List (List Cut) → ℕ → List ℤ → List ℤ → Option Program
stage_in p pools m values state = program_at_node p m (λ n s. stage_program pools n s values state)

-- a stage problem of the node m, over some pools at some values and state
pub record IsStageAt (p : Validated) (m : ℕ) (lp : Program) : Type 0 where
  pub pools : List (List Cut)
  pub values : List ℤ
  pub state : List ℤ
  pub is : stage_in p pools m values state ≡ Some lp

-- a column that stands at 0 and costs nothing
abbrev pub idle_column : Column
idle_column = record { low = zero_fx; high = zero_fx; cost = zero_fx }

-- a quarter of the way from the lower end of each box to the upper one, at the scale of states
abbrev pub quarter : ℤ × ℤ → ℤ
quarter b = pos (2 ^ 22) *ℤ (pos 3 *ℤ b.0 +ℤ b.1)

abbrev pub quarters : List ℤ → List ℤ → List ℤ
quarters low high = map quarter (zip low high)

-- Reference: the stage problem without cuts, at the first realization's values and a state inside the box; the successors' columns stand idle
unfoldable pub reference_of : Node → Subproblem → List ℤ → List ℤ → Program
reference_of n s low high = record {
  columns = map (decision_column (successor_total n.stop n.successor_weights)) s.decisions ++ map (λ (m : ℕ). idle_column) n.successors;
  rows = map (own_row (get_or n.values 0 []) (quarters low high)) s.rows;
  decisions = length s.decisions;
  own = length s.rows;
}

-- the reference program of the node m
unfoldable pub reference_in : Validated → ℕ → Option Program
reference_in p m = program_at_node p m (λ n s. reference_of n s (get_or p.lo m []) (get_or p.hi m []))

-- the program at a number that is no node
abbrev pub no_program : Program
no_program = record { columns = []; rows = []; decisions = 0; own = 0 }

abbrev pub program_of : Option Program → Program
program_of None = no_program
program_of (Some lp) = lp

-- the stage problem of the node m over these pools, at these values and this state
abbrev pub stage_at : Validated → List (List Cut) → ℕ → List ℤ → List ℤ → Program
stage_at p pools m values state = program_of (stage_in p pools m values state)

-- the reference program of the node m
abbrev pub reference_at : Validated → ℕ → Program
reference_at p m = program_of (reference_in p m)
