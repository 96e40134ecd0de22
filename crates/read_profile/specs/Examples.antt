-- Small documents, and the files that they state.
use Rattle.std.specs.Prelude.{ℕ, ℤ, List, ◌++◌, map, Bool, Option, option_map, codes}
use Rattle.serde_json.specs.Data.{Data}
use Rattle.serde_json.specs.Read.{read}
use Rattle.read_profile.specs.File.{Name, Function, Constraint, FileNode, File, ◌>>=◌}

-- the value that f gives of the document in a text
unfoldable pub said : {A : Type 0} → (Data → Option A) → List ℕ → Option A
said f text = read text >>= f

-- a function's value where each variable is z/N
abbrev pub valued : ℕ → ℤ → Option Function → Option ℤ
valued units z = option_map (λ (f : Function). f units (λ v. z))

-- whether a constraint is kept where each variable is z/N, for each z
abbrev pub tested : ℕ → List ℤ → Option Constraint → Option (List Bool)
tested units zs = option_map (λ (c : Constraint). map (λ z. c units (λ v. z)) zs)

-- the value that f gives of the node k of a file
abbrev pub at_node_example : {A : Type 0} → (FileNode → A) → Name → Option File → Option A
at_node_example f k file = file >>= λ (g : File). option_map f (g.nodes k)

-- ---- functions

unfoldable pub name_twice : List ℕ
name_twice = codes "{\"type\":\"ScalarAffineFunction\",\"terms\":[{\"coefficient\":1,\"variable\":\"q\"},{\"coefficient\":2,\"variable\":\"q\"}],\"constant\":7}"

unfoldable pub no_constant : List ℕ
no_constant = codes "{\"type\":\"ScalarAffineFunction\",\"terms\":[{\"coefficient\":-3,\"variable\":\"q\"}]}"

unfoldable pub no_terms : List ℕ
no_terms = codes "{\"type\":\"ScalarAffineFunction\",\"constant\":7}"

unfoldable pub with_point : List ℕ
with_point = codes "{\"type\":\"ScalarAffineFunction\",\"terms\":[{\"coefficient\":1.0,\"variable\":\"q\"}],\"constant\":0}"

unfoldable pub two_names : List ℕ
two_names = codes "{\"type\":\"Variable\",\"variable\":\"b\",\"name\":\"a\"}"

unfoldable pub quadratic : List ℕ
quadratic = codes "{\"type\":\"ScalarQuadraticFunction\",\"terms\":[],\"quadratic_terms\":[],\"constant\":0}"

-- ---- constraints

-- the text that the variable q lies in this set
abbrev pub lies_in : List ℕ → List ℕ
lies_in set = codes "{\"function\":{\"type\":\"Variable\",\"name\":\"q\"},\"set\":" ++ set ++ codes "}"

unfoldable pub equal_to_example : List ℕ
equal_to_example = lies_in (codes "{\"type\":\"EqualTo\",\"value\":3}")

unfoldable pub greater_than : List ℕ
greater_than = lies_in (codes "{\"type\":\"GreaterThan\",\"lower\":3}")

unfoldable pub less_than : List ℕ
less_than = lies_in (codes "{\"type\":\"LessThan\",\"upper\":3}")

unfoldable pub interval_example : List ℕ
interval_example = lies_in (codes "{\"type\":\"Interval\",\"lower\":3,\"upper\":5}")

unfoldable pub crossed_interval : List ℕ
crossed_interval = lies_in (codes "{\"type\":\"Interval\",\"lower\":5,\"upper\":3}")

unfoldable pub integer_example : List ℕ
integer_example = lies_in (codes "{\"type\":\"Integer\"}")

-- q + 1 is at least 3
unfoldable pub with_constant : List ℕ
with_constant = codes "{\"function\":{\"type\":\"ScalarAffineFunction\",\"terms\":[{\"coefficient\":1,\"variable\":\"q\"}],\"constant\":1},\"set\":{\"type\":\"GreaterThan\",\"lower\":3}}"

-- ---- objectives

unfoldable pub least_example : List ℕ
least_example = codes "{\"sense\":\"min\",\"function\":{\"type\":\"Variable\",\"name\":\"q\"}}"

unfoldable pub greatest_example : List ℕ
greatest_example = codes "{\"sense\":\"max\",\"function\":{\"type\":\"Variable\",\"name\":\"q\"}}"

unfoldable pub feasible : List ℕ
feasible = codes "{\"sense\":\"feasibility\"}"

-- ---- stages

-- the state v, the random variable w, and two bounds on q
unfoldable pub two_bounds : List ℕ
two_bounds =
    codes "{\"state_variables\":{\"v\":{\"in\":\"v_in\",\"out\":\"v_out\"}},\"random_variables\":[\"w\"],\"subproblem\":{\"objective\":{\"sense\":\"feasibility\"},\"constraints\":[" ++ lies_in (codes "{\"type\":\"LessThan\",\"upper\":8}") ++ codes ","
    ++ lies_in (codes "{\"type\":\"LessThan\",\"upper\":5}") ++ codes "]}}"

-- ---- realizations

unfoldable pub only_w : List ℕ
only_w = codes "{\"probability\":2,\"support\":{\"w\":3}}"

-- ---- files

-- a reservoir with 4 at first and room for 10, an inflow w of 1 or 3, a turbine q of at most 8 and a demand of 9, which g meets at 5 a unit
unfoldable pub one_reservoir : List ℕ
one_reservoir =
    codes "{\"version\":{\"major\":1,\"minor\":0},\"root\":{\"state_variables\":{\"v\":4},\"successors\":{\"n\":1}},"
    ++ codes "\"nodes\":{\"n\":{\"subproblem\":\"p\",\"realizations\":[{\"probability\":1,\"support\":{\"w\":1}},{\"probability\":1,\"support\":{\"w\":3}}],\"successors\":{}}},"
    ++ codes "\"subproblems\":{\"p\":{\"state_variables\":{\"v\":{\"in\":\"v_in\",\"out\":\"v_out\"}},\"random_variables\":[\"w\"],"
    ++ codes "\"subproblem\":{\"variables\":[{\"name\":\"v_in\"},{\"name\":\"w\"},{\"name\":\"v_out\"},{\"name\":\"q\"},{\"name\":\"g\"}],"
    ++ codes "\"objective\":{\"sense\":\"min\",\"function\":{\"type\":\"ScalarAffineFunction\",\"terms\":[{\"coefficient\":5,\"variable\":\"g\"}],\"constant\":0}},"
    ++ codes "\"constraints\":[{\"function\":{\"type\":\"ScalarAffineFunction\",\"terms\":[{\"coefficient\":1,\"variable\":\"v_out\"},{\"coefficient\":1,\"variable\":\"q\"},"
    ++ codes "{\"coefficient\":-1,\"variable\":\"v_in\"},{\"coefficient\":-1,\"variable\":\"w\"}],\"constant\":0},\"set\":{\"type\":\"EqualTo\",\"value\":0}},"
    ++ codes "{\"function\":{\"type\":\"ScalarAffineFunction\",\"terms\":[{\"coefficient\":1,\"variable\":\"q\"},{\"coefficient\":1,\"variable\":\"g\"}],\"constant\":0},\"set\":{\"type\":\"EqualTo\",\"value\":9}},"
    ++ codes "{\"function\":{\"type\":\"Variable\",\"name\":\"v_in\"},\"set\":{\"type\":\"Interval\",\"lower\":0,\"upper\":10}},"
    ++ codes "{\"function\":{\"type\":\"Variable\",\"name\":\"v_out\"},\"set\":{\"type\":\"Interval\",\"lower\":0,\"upper\":10}},"
    ++ codes "{\"function\":{\"type\":\"Variable\",\"name\":\"q\"},\"set\":{\"type\":\"Interval\",\"lower\":0,\"upper\":8}},"
    ++ codes "{\"function\":{\"type\":\"Variable\",\"name\":\"g\"},\"set\":{\"type\":\"Interval\",\"lower\":0,\"upper\":20}}]}}}}"

-- a node a, which ends the horizon with weight 2 and leads to b with weight 3 and to c with weight 5; a stage costs w: 0 at a, 10 at b, 20
-- at c
unfoldable pub with_stop : List ℕ
with_stop =
    codes "{\"version\":{\"major\":1,\"minor\":0},\"root\":{\"successors\":{\"a\":1}},\"nodes\":{"
    ++ codes "\"c\":{\"subproblem\":\"p\",\"realizations\":[{\"probability\":1,\"support\":{\"w\":20}}]},"
    ++ codes "\"b\":{\"subproblem\":\"p\",\"realizations\":[{\"probability\":1,\"support\":{\"w\":10}}]},"
    ++ codes "\"a\":{\"subproblem\":\"p\",\"realizations\":[{\"probability\":1,\"support\":{\"w\":0}}],\"stop\":2,\"successors\":{\"c\":5,\"b\":3}}},"
    ++ codes "\"subproblems\":{\"p\":{\"random_variables\":[\"w\"],\"subproblem\":{\"objective\":{\"sense\":\"min\",\"function\":{\"type\":\"Variable\",\"name\":\"w\"}},\"constraints\":[]}}}}"

-- a node without realizations, and one, to which the root leads, whose realization gives the random variable w no value
unfoldable pub without_values : List ℕ
without_values =
    codes "{\"version\":{\"major\":1,\"minor\":0},\"root\":{\"successors\":{\"b\":1}},\"nodes\":{"
    ++ codes "\"a\":{\"subproblem\":\"p\"},\"b\":{\"subproblem\":\"p\",\"realizations\":[{\"probability\":1,\"support\":{\"u\":20}}]}},"
    ++ codes "\"subproblems\":{\"p\":{\"random_variables\":[\"w\"],\"subproblem\":{\"objective\":{\"sense\":\"feasibility\"},\"constraints\":[]}}}}"

unfoldable pub of_version_2 : List ℕ
of_version_2 = codes "{\"version\":{\"major\":2,\"minor\":0},\"root\":{\"successors\":{}},\"nodes\":{},\"subproblems\":{}}"

-- a key twice
unfoldable pub key_twice : List ℕ
key_twice = codes "{\"a\":1,\"a\":2}"
