-- The hull of the states that come into a node, and the box of its incoming state.
use Rattle.std.specs.Prelude.{ℕ, ℤ, pos, Bool, true, ◌&&◌, ◌==◌, not, List, [], ◌∷◌, length, map, Option, Some, None, int_le, get_or, slice_get, option_and_then, unwrap_or, if◌then◌else◌}
use Rattle.std.specs.Int.{int_min, int_max}
use Rattle.std.specs.List.{list_any, find, fold, cons_option}
use Rattle.base_num.specs.Sums.{entry}
use Rattle.base_graph.specs.Paths.{numbers}
use Rattle.base_graph.specs.Ranks.{predecessors}
use Rattle.problem.specs.declared.parts.ProblemParts.{ProblemParts}
use Rattle.problem.specs.declared.parts.Node.{Node}
use Rattle.problem.specs.declared.parts.Subproblem.{Subproblem}
use Rattle.problem.specs.Validated.{graph_of, initial_values, out_lows, out_highs}
use Rattle.problem.specs.declared.side.Side.{Side}
use Rattle.problem.specs.declared.side.Side.TheVariants.{Low, High}

-- the number that lies further out on this side
abbrev pub outer : Side → ℤ → ℤ → ℤ
outer Low a b = int_min a b
outer High a b = int_max a b

-- a lies at b or further out
abbrev pub is_outside : Side → ℤ → ℤ → Bool
is_outside Low a b = int_le a b
is_outside High a b = int_le b a

-- the outermost of these numbers; 0 of none
abbrev pub outermost : Side → List ℤ → ℤ
outermost side [] = pos 0
outermost side (x ∷ xs) = fold (outer side) x xs

-- the ends on this side of the states that leave each subproblem, one per state
abbrev pub hull_ends : Side → ProblemParts → List (List ℤ)
hull_ends Low parts = map out_lows parts.subs
hull_ends High parts = map out_highs parts.subs

-- the end of the state s that leaves the node p, with the ends of each subproblem
abbrev pub end_at : List Node → List (List ℤ) → ℕ → ℕ → ℤ
end_at nodes all s p = unwrap_or (option_and_then (λ n. option_and_then (λ es. slice_get es s) (slice_get all n.sub)) (slice_get nodes p)) (pos 0)

-- the initial value of state s, where the root leads to the node n
abbrev pub start_at : ProblemParts → ℕ → ℕ → Option ℤ
start_at parts n s = if list_any (λ m. m == n) parts.root then slice_get (initial_values parts) s else None

-- the ends of the state s that comes into the node n: the initial value, and the ends that its predecessors let out
abbrev pub incoming : Side → ProblemParts → ℕ → ℕ → List ℤ
incoming side parts n s = cons_option (start_at parts n s) (map (end_at parts.nodes (hull_ends side parts) s) (predecessors (graph_of parts) n))

-- the side of the least box that holds the states that come into the node n, one entry per state
unfoldable pub hull : Side → ProblemParts → ℕ → List ℤ
hull side parts n = map (λ s. outermost side (incoming side parts n s)) (numbers (length parts.states))

abbrev pub hulls : Side → ProblemParts → List (List ℤ)
hulls side parts = map (hull side parts) (numbers (length parts.nodes))

-- the bounds that are given for the incoming states of a subproblem
abbrev pub bounds : Side → Subproblem → List (Option ℤ)
bounds Low sub = sub.low
bounds High sub = sub.high

abbrev pub given_in : Side → Option Subproblem → ℕ → Option ℤ
given_in side None s = None
given_in side (Some sub) s = get_or (bounds side sub) s None

abbrev pub given : Side → ProblemParts → ℕ → ℕ → Option ℤ
given side parts n s = given_in side (option_and_then (λ (node : Node). slice_get parts.subs node.sub) (slice_get parts.nodes n)) s

-- a bound, where one is given, lies at the hull or further out
abbrev pub encloses : Side → Option ℤ → ℤ → Bool
encloses side None h = true
encloses side (Some bound) h = is_outside side bound h

-- a given bound does not enclose the states that come in
abbrev pub has_gap : ProblemParts → ℕ → ℕ → Bool
has_gap parts n s = not (encloses Low (given Low parts n s) (entry (hull Low parts n) s) && encloses High (given High parts n s) (entry (hull High parts n) s))

-- the least of these nodes with a gap, and its least state with one
abbrev pub gap_in : ℕ → Option ℕ → Option (ℕ × ℕ) → Option (ℕ × ℕ)
gap_in n (Some s) next = Some (n, s)
gap_in n None next = next

abbrev pub first_gap : ProblemParts → List ℕ → Option (ℕ × ℕ)
first_gap parts [] = None
first_gap parts (n ∷ ns) = gap_in n (find (has_gap parts n) (numbers (length parts.states))) (first_gap parts ns)

-- the side of the box: the given bound, else the hull's
abbrev pub box_side : Side → ProblemParts → ℕ → List ℤ
box_side side parts n = map (λ s. unwrap_or (given side parts n s) (entry (hull side parts n) s)) (numbers (length parts.states))

abbrev pub sides : Side → ProblemParts → List (List ℤ)
sides side parts = map (box_side side parts) (numbers (length parts.nodes))
