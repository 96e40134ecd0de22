-- A small problem and a text that were worked out by hand.
use Rattle.std.specs.Prelude.{ℕ, ◌^◌, pos, negsuc, List, [], ◌∷◌, None}
use Rattle.problem.specs.declared.parts.Node.{Node}
use Rattle.problem.specs.declared.parts.Row.{Row}
use Rattle.problem.specs.declared.parts.Subproblem.{Subproblem}
use Rattle.problem.specs.Validated.{Validated}
use Rattle.cut_pool.specs.declared.entry.Entry.{Entry}

abbrev free_row : Row
free_row = record { low = None; high = None; decisions = []; states = []; randoms = [] }

-- a stage with one row
abbrev one_row_stage_example : Subproblem
one_row_stage_example = record { decisions = []; outs = []; randoms = []; rows = free_row ∷ []; constant = pos 0; state_costs = []; random_costs = []; low = []; high = [] }

-- a node of that stage with one realization, which leads to these
abbrev node_to : List ℕ → List ℕ → Node
node_to successors weights = record { name = []; sub = 0; weights = 1 ∷ []; values = [] ∷ []; successors = successors; successor_weights = weights; stop = 0 }

-- the root leads to node 0, and that one to node 1
abbrev pub chain : Validated
chain = record {
  parts = record { states = []; root = 0 ∷ []; root_weights = 1 ∷ []; nodes = node_to (1 ∷ []) (1 ∷ []) ∷ node_to [] [] ∷ []; subs = one_row_stage_example ∷ []; scenarios = [] };
  order = 1 ∷ 0 ∷ [];
  longest = 2;
  lo = [] ∷ [] ∷ [];
  hi = [] ∷ [] ∷ [];
}

-- iteration 3, one unanswered solve, and the steps at node 1 with the multiplier -1 and at node 0 with the multiplier 2 and the cut 4 of node 1
abbrev pub two_steps : Entry
two_steps = record {
  iteration = 3;
  unanswered = 1;
  steps = record { node = 1; list = record { rows = negsuc 0 ∷ []; cuts = [] } ∷ [] }
      ∷ record { node = 0; list = record { rows = pos 2 ∷ []; cuts = ((4, 2 ^ 24) ∷ []) ∷ [] } ∷ [] } ∷ [];
}

-- an iteration's number, the unanswered solves, and the number of steps
abbrev pub head : ℕ → ℕ → List ℕ
head iteration steps = 0 ∷ 0 ∷ 0 ∷ iteration ∷ 0 ∷ 0 ∷ 0 ∷ 1 ∷ 0 ∷ steps ∷ []

-- a step at this node with the multiplier -1
abbrev pub first_step_example : ℕ → List ℕ
first_step_example node = 0 ∷ node ∷ 255 ∷ 255 ∷ 255 ∷ 255 ∷ 255 ∷ 255 ∷ 255 ∷ 255 ∷ []

-- a step at this node with the multiplier 2 and so many pairs
abbrev pub second_step : ℕ → ℕ → List ℕ
second_step node pairs = 0 ∷ node ∷ 0 ∷ 0 ∷ 0 ∷ 0 ∷ 0 ∷ 0 ∷ 0 ∷ 2 ∷ 0 ∷ 0 ∷ 0 ∷ pairs ∷ []

-- the place 4 and the multiplier 2^24
abbrev pub pair_example : List ℕ
pair_example = 0 ∷ 0 ∷ 0 ∷ 4 ∷ 0 ∷ 0 ∷ 0 ∷ 0 ∷ 1 ∷ 0 ∷ 0 ∷ 0 ∷ []
