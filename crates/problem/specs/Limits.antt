-- The limits that the parts of a problem keep.
use Rattle.std.specs.Prelude.{ℕ, ◌^◌, ◌+◌, ℤ, Bool, true, false, ◌&&◌, ◌==◌, not, List, [], ◌∷◌, length, Option, Some, None, nat_le, nat_lt, int_le, unsigned_abs, sum, slice_get}
use Rattle.std.specs.List.{list_all, list_any, zip}
use Rattle.std.specs.Str.{bytes_eq}
use Rattle.problem.specs.Distinct.{rises, are_distinct, is_before}
use Rattle.problem.specs.Parts.{successors_at, subproblem_at}
use Rattle.problem.specs.declared.parts.ProblemParts.{ProblemParts}
use Rattle.problem.specs.declared.parts.State.{State}
use Rattle.problem.specs.declared.parts.Decision.{Decision}
use Rattle.problem.specs.declared.parts.Row.{Row}
use Rattle.problem.specs.declared.parts.Subproblem.{Subproblem}
use Rattle.problem.specs.declared.parts.Node.{Node}
use Rattle.problem.specs.declared.parts.Moment.{Moment}

-- the absolute value is at most 2^40
abbrev pub is_small : ℤ → Bool
is_small z = nat_le (unsigned_abs z) (2 ^ 40)

abbrev pub are_small : List ℤ → Bool
are_small zs = list_all is_small zs

-- a name has at most 128 bytes
abbrev pub is_name : List ℕ → Bool
is_name name = nat_le (length name) 128

-- as many numbers as are wanted, each small
abbrev pub are_numbers : ℕ → List ℤ → Bool
are_numbers count zs = (length zs == count) && are_small zs

abbrev pub is_bound : Option ℤ → Bool
is_bound None = true
is_bound (Some z) = is_small z

-- the sides are small, and do not pass each other
abbrev pub sides_fit : Option ℤ → Option ℤ → Bool
sides_fit None high = is_bound high
sides_fit (Some low) None = is_small low
sides_fit (Some low) (Some high) = is_small low && is_small high && int_le low high

abbrev pub state_fits : State → Bool
state_fits s = is_name s.name && is_small s.initial

abbrev pub decision_fits : Decision → Bool
decision_fits d = is_name d.name && is_small d.low && is_small d.high && int_le d.low d.high && is_small d.cost

-- the number is from `least` and below `count`, and the factor is small and not 0
abbrev pub term_fits : ℕ → ℕ → ℕ × ℤ → Bool
term_fits count least t = nat_le least t.0 && nat_lt t.0 count && is_small t.1 && not (unsigned_abs t.1 == 0)

-- the terms' numbers rise
abbrev pub terms_fit : ℕ → ℕ → List (ℕ × ℤ) → Bool
terms_fit count least [] = true
terms_fit count least (t ∷ ts) = term_fits count least t && terms_fit count (t.0 + 1) ts

abbrev pub row_fits : ℕ → Subproblem → Row → Bool
row_fits states s row =
    sides_fit row.low row.high && terms_fit (length s.decisions) 0 row.decisions && terms_fit states 0 row.states && terms_fit (length s.randoms) 0 row.randoms

-- each weight is at least 1
abbrev pub are_weights : List ℕ → Bool
are_weights ws = list_all (λ w. nat_lt 0 w) ws

-- the counts and numbers of a subproblem of a problem with so many states
abbrev pub counts_fit : ℕ → Subproblem → Bool
counts_fit states s =
    nat_le (length s.decisions) 200 && nat_le (length s.rows) 200 && nat_le (length s.randoms) 50
    && (length s.outs == states) && (length s.low == states) && (length s.high == states)

abbrev pub costs_fit : ℕ → Subproblem → Bool
costs_fit states s = is_small s.constant && are_numbers states s.state_costs && are_numbers (length s.randoms) s.random_costs

-- the names of the decisions and of the random variables have at most 128 bytes, and no two are the same
unfoldable pub names_fit : Subproblem → Bool
names_fit s =
    are_distinct (λ (a b : Decision). bytes_eq a.name b.name) s.decisions && are_distinct bytes_eq s.randoms
    && list_all (λ (d : Decision). not (list_any (bytes_eq d.name) s.randoms)) s.decisions && list_all is_name s.randoms

-- the given bounds of each incoming state do not pass each other
unfoldable pub bounds_fit : Subproblem → Bool
bounds_fit s = list_all (λ (b : Option ℤ × Option ℤ). sides_fit b.0 b.1) (zip s.low s.high)

-- no decision is the outgoing state of two states
unfoldable pub outs_differ : Subproblem → Bool
outs_differ s = are_distinct (λ (a b : ℕ). a == b) s.outs

abbrev pub subproblem_fits : ℕ → Subproblem → Bool
subproblem_fits states s =
    names_fit s && bounds_fit s && outs_differ s && counts_fit states s && costs_fit states s && list_all decision_fits s.decisions && list_all (λ o. nat_lt o (length s.decisions)) s.outs
    && list_all is_bound s.low && list_all is_bound s.high && list_all (row_fits states s) s.rows

-- at least one realization and at most 100, a total weight of at most 65535, and as many values for each as there are random variables
abbrev pub realizations_fit : ℕ → Node → Bool
realizations_fit randoms n =
    nat_lt 0 (length n.weights) && nat_le (length n.weights) 100 && (length n.values == length n.weights)
    && are_weights n.weights && nat_le (sum n.weights) 65535 && list_all (are_numbers randoms) n.values

-- known successors with weights, and a total with the stop weight of at most 65535
abbrev pub successors_fit : ℕ → Node → Bool
successors_fit nodes n =
    nat_le (length n.successors) nodes && (length n.successor_weights == length n.successors) && list_all (λ m. nat_lt m nodes) n.successors && are_weights n.successor_weights && nat_le (sum n.successor_weights + n.stop) 65535

-- and each successor once
abbrev pub successors_in_order_fit : ℕ → Node → Bool
successors_in_order_fit nodes n = rises nat_lt n.successors && successors_fit nodes n

-- there is such a subproblem, and the realizations have its random variables
abbrev pub values_fit : Option Subproblem → Node → Bool
values_fit None n = false
values_fit (Some s) n = realizations_fit (length s.randoms) n

abbrev pub node_fits : ProblemParts → Node → Bool
node_fits parts n = is_name n.name && values_fit (slice_get parts.subs n.sub) n && successors_in_order_fit (length parts.nodes) n

-- the root leads somewhere, with a total weight of at most 65535
abbrev pub root_successors_fit : ProblemParts → Bool
root_successors_fit parts =
    nat_lt 0 (length parts.root) && nat_le (length parts.root) (length parts.nodes) && (length parts.root_weights == length parts.root) && list_all (λ m. nat_lt m (length parts.nodes)) parts.root
    && are_weights parts.root_weights && nat_le (sum parts.root_weights) 65535

-- and to each node at most once
abbrev pub root_fits : ProblemParts → Bool
root_fits parts = rises nat_lt parts.root && root_successors_fit parts

-- a subproblem that is there, and one small value per random variable
abbrev pub are_values : Option Subproblem → List ℤ → Bool
are_values None zs = false
are_values (Some s) zs = are_numbers (length s.randoms) zs

-- a step to one of these successors, with values of the node's random variables
abbrev pub step_fits : ProblemParts → List ℕ → Moment → Bool
step_fits parts successors step = list_any (λ m. m == step.node) successors && are_values (subproblem_at parts step.node) step.values

-- the first step goes to one of these successors, each later one to a successor of the node before it
abbrev pub steps_fit : ProblemParts → List ℕ → List Moment → Bool
steps_fit parts successors [] = true
steps_fit parts successors (step ∷ steps) = step_fits parts successors step && steps_fit parts (successors_at parts step.node) steps

-- at least one step, and the first goes to a successor of the root
abbrev pub scenario_fits : ProblemParts → List Moment → Bool
scenario_fits parts steps = nat_lt 0 (length steps) && steps_fit parts parts.root steps

-- the stored scenarios
unfoldable pub scenarios_fit : ProblemParts → Bool
scenarios_fit parts = nat_le (length parts.scenarios) 1000 && list_all (scenario_fits parts) parts.scenarios

-- the states and the nodes stand in the byte order of their names, and each name is there once
unfoldable pub names_rise : ProblemParts → Bool
names_rise parts = rises (λ (a b : State). is_before a.name b.name) parts.states && rises (λ (a b : Node). is_before a.name b.name) parts.nodes

-- the limits of all parts
unfoldable pub parts_are_lawful : ProblemParts → Bool
parts_are_lawful parts =
    names_rise parts && scenarios_fit parts && nat_le (length parts.states) 50 && nat_le (length parts.nodes) 1000 && nat_le (length parts.subs) 1000 && list_all state_fits parts.states
    && list_all (subproblem_fits (length parts.states)) parts.subs && list_all (node_fits parts) parts.nodes && root_fits parts
