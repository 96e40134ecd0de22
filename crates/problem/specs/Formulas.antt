-- The weights of a node, and the formulas that bound the numbers and bytes of training and simulation.
use Rattle.std.specs.Prelude.{ℕ, ◌+◌, ◌*◌, ◌^◌, List, [], ◌∷◌, length, map, Option, Some, None, sum, if◌then◌else◌, nat_lt}
use Rattle.std.specs.List.{sum_by}
use Rattle.base_graph.specs.Ranks.{greatest}
use Rattle.problem.specs.declared.parts.Node.{Node}
use Rattle.problem.specs.declared.parts.Subproblem.{Subproblem}
use Rattle.problem.specs.declared.parts.ProblemParts.{ProblemParts}
use Rattle.problem.specs.declared.formulas.TooMuch.{TooMuch}
use Rattle.problem.specs.Parts.{own_subproblem}
use Rattle.problem.specs.Validated.{Validated}

-- the sum of the weights, and 1 without any
abbrev pub total_weight : List ℕ → ℕ
total_weight [] = 1
total_weight (w ∷ ws) = sum (w ∷ ws)

-- the stop weight and the weights of a node's successors together, and 1 without successors
abbrev pub successor_total : ℕ → List ℕ → ℕ
successor_total stop [] = 1
successor_total stop (w ∷ ws) = stop + sum (w ∷ ws)

-- the rows of a node's subproblem, and its decisions
abbrev pub row_count : Option Subproblem → ℕ
row_count None = 0
row_count (Some s) = length s.rows

abbrev pub decision_count : Option Subproblem → ℕ
decision_count None = 0
decision_count (Some s) = length s.decisions

-- formula 1: the numbers of all cuts of one path, with `cuts` cuts at each node
abbrev pub cut_numbers : Validated → ℕ → ℕ
cut_numbers p cuts = cuts * p.longest * (length p.parts.states + 1)

-- formula 2: the numbers of a node's dictionary
abbrev pub dictionary : ProblemParts → ℕ → Node → ℕ
dictionary parts cuts n =
    (row_count (own_subproblem parts n) + (cuts + 1) * length n.successors) * (decision_count (own_subproblem parts n) + length n.successors)

-- formula 3: the bytes of a node's step in a record
abbrev pub step_bytes : ProblemParts → ℕ → Node → ℕ
step_bytes parts cuts n = 2 + length n.weights * (8 * row_count (own_subproblem parts n) + length n.successors * (4 + 12 * (cuts + 1)))

abbrev pub record_bytes : ProblemParts → ℕ → ℕ → ℕ
record_bytes parts cuts batch = batch * (10 + sum_by (step_bytes parts cuts) parts.nodes)

-- formula 4: the numbers of a step of a trace
abbrev pub step_numbers : ℕ → Subproblem → ℕ
step_numbers states s = length s.decisions + length s.rows + length s.randoms + states + 4

abbrev pub trace_numbers : Validated → ℕ → ℕ
trace_numbers p count = count * p.longest * greatest (map (step_numbers (length p.parts.states)) p.parts.subs)

-- the formula with this number and value, where the value is above the limit
abbrev pub above : ℕ → ℕ → ℕ → Option TooMuch
above which limit value = if nat_lt limit value then Some (record { which = which; value = value }) else None

-- the first of these that is there
abbrev pub or_then : Option TooMuch → Option TooMuch → Option TooMuch
or_then (Some t) u = Some t
or_then None u = u

-- the first node whose dictionary is too large
abbrev pub first_dictionary : ProblemParts → ℕ → List Node → Option TooMuch
first_dictionary parts cuts [] = None
first_dictionary parts cuts (n ∷ ns) = or_then (above 2 (2 ^ 22) (dictionary parts cuts n)) (first_dictionary parts cuts ns)

-- the first of formulas 1 to 3 that is above its limit, after k iterations of `batch` paths each
unfoldable pub too_much : Validated → ℕ → ℕ → Option TooMuch
too_much p k batch =
    or_then (above 1 (2 ^ 24) (cut_numbers p (k * batch)))
    (or_then (first_dictionary p.parts (k * batch) p.parts.nodes) (above 3 (2 ^ 26) (record_bytes p.parts (k * batch) batch)))

-- formula 4, where it is above its limit
unfoldable pub too_wide : Validated → ℕ → Option TooMuch
too_wide p count = above 4 (2 ^ 22) (trace_numbers p count)
