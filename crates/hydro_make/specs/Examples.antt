-- Small descriptions that were worked out by hand.
use Rattle.std.specs.Prelude.{ℕ, ℤ, pos, negsuc, List, [], ◌∷◌, ◌++◌, codes, Some, None}
use Rattle.problem.specs.declared.parts.Row.{Row}
use Rattle.theory.specs.Problem.{Node}
use Rattle.hydro_read.specs.declared.plants.Plants.{Plants}
use Rattle.hydro_make.specs.Plan.{Choice, Moment, Plan, choose, no_plan, the_end}

-- one stage: a bus with demand 9 and deficit cost 200, a thermal up to 20 of cost 5
abbrev pub one_stage : Plants
one_stage = record {
  buses = record { name = 98 ∷ []; deficit_cost = pos 200 } ∷ [];
  reservoirs = [];
  thermals = record { name = 116 ∷ []; bus = 0; high = pos 20; cost = pos 5 } ∷ [];
  lines = [];
  stages = record { demand = pos 9 ∷ []; inflows = record { weight = 1; water = [] } ∷ [] } ∷ [];
}

-- 9 units of the thermal, in halves
abbrev pub nine : Choice
nine = record { turbine = λ j. pos 0; spill = λ j. pos 0; thermal = λ i. pos 18; line = λ l. pos 0; deficit = λ b. pos 0 }

abbrev pub nine_plan : Plan
nine_plan = choose nine the_end no_plan

-- two reservoirs, of which the first leads to the second, and has a cost of spill; the bus is served by both turbines
abbrev pub cascade : ℕ → Plants
cascade n = record {
  buses = record { name = 120 ∷ []; deficit_cost = pos 200 } ∷ [];
  reservoirs = record { name = 97 ∷ []; bus = 0; low = pos 1; high = pos 10; initial = pos 5; turbine = pos 4; spill = pos 3; factor = pos 2; spill_cost = pos 3; downstream = Some (record { target = 1; stages = n }) }
      ∷ record { name = 98 ∷ []; bus = 0; low = pos 0; high = pos 20; initial = pos 6; turbine = pos 8; spill = pos 9; factor = pos 3; spill_cost = pos 0; downstream = None } ∷ [];
  thermals = [];
  lines = [];
  stages = record { demand = pos 9 ∷ []; inflows = record { weight = 1; water = pos 7 ∷ pos 2 ∷ [] } ∷ record { weight = 3; water = negsuc 0 ∷ pos 0 ∷ [] } ∷ [] }
      ∷ record { demand = pos 8 ∷ []; inflows = record { weight = 1; water = pos 0 ∷ pos 1 ∷ [] } ∷ [] } ∷ [];
}

abbrev pub zero_row_example : List (ℕ × ℤ) → List (ℕ × ℤ) → List (ℕ × ℤ) → Row
zero_row_example ds ss rs = record { low = Some (pos 0); high = Some (pos 0); decisions = ds; states = ss; randoms = rs }

-- 3 go through each turbine and 1 past it, with 7 and 2 flowing in; then nothing, with 0 and 1
abbrev pub moving : Moment
moving = record { water = pos 7 ∷ pos 2 ∷ []; choice = record { turbine = λ j. pos 3; spill = λ j. pos 1; thermal = λ i. pos 0; line = λ l. pos 0; deficit = λ b. pos 0 } }

abbrev pub still : Moment
still = record { water = pos 0 ∷ pos 1 ∷ []; choice = record { turbine = λ j. pos 0; spill = λ j. pos 0; thermal = λ i. pos 0; line = λ l. pos 0; deficit = λ b. pos 0 } }

-- the node of the one stage: decisions g:t, u:b
abbrev pub one_stage_node : Node
one_stage_node = record {
  decision_low = pos 0 ∷ pos 0 ∷ [];
  decision_high = pos 20 ∷ pos 1048576 ∷ [];
  costs = pos 5 ∷ pos 200 ∷ [];
  outs = [];
  rows = record { low = Some (pos 0); high = Some (pos 0); decisions = (0, pos 1) ∷ (1, pos 1) ∷ []; states = []; randoms = (0, negsuc 0) ∷ [] } ∷ [];
  constant = pos 0;
  state_costs = [];
  random_costs = pos 0 ∷ [];
  low = [];
  high = [];
  realizations = record { weight = 1; values = pos 9 ∷ [] } ∷ [];
  successors = [];
  stop = 0;
}

-- the first node where the water travels for two stages: decisions o:a, q:a, z:a, b1:a, b2:a, o:b, q:b, z:b, u:x; states p1:a, p2:a, v:a, v:b
abbrev pub two_stages_node : Node
two_stages_node = record {
  decision_low = pos 1 ∷ pos 0 ∷ pos 0 ∷ pos 0 ∷ pos 0 ∷ pos 0 ∷ pos 0 ∷ pos 0 ∷ pos 0 ∷ [];
  decision_high = pos 10 ∷ pos 4 ∷ pos 3 ∷ pos 7 ∷ pos 7 ∷ pos 20 ∷ pos 8 ∷ pos 9 ∷ pos 1048576 ∷ [];
  costs = pos 0 ∷ pos 0 ∷ pos 3 ∷ pos 0 ∷ pos 0 ∷ pos 0 ∷ pos 0 ∷ pos 0 ∷ pos 200 ∷ [];
  outs = 3 ∷ 4 ∷ 0 ∷ 5 ∷ [];
  rows = zero_row_example ((0, pos 1) ∷ (1, pos 1) ∷ (2, pos 1) ∷ []) ((2, negsuc 0) ∷ []) ((0, negsuc 0) ∷ [])
      ∷ zero_row_example ((5, pos 1) ∷ (6, pos 1) ∷ (7, pos 1) ∷ []) ((0, negsuc 0) ∷ (3, negsuc 0) ∷ []) ((1, negsuc 0) ∷ [])
      ∷ zero_row_example ((3, pos 1) ∷ []) ((1, negsuc 0) ∷ []) []
      ∷ zero_row_example ((1, negsuc 0) ∷ (2, negsuc 0) ∷ (4, pos 1) ∷ []) [] []
      ∷ zero_row_example ((1, pos 2) ∷ (6, pos 3) ∷ (8, pos 1) ∷ []) [] ((2, negsuc 0) ∷ []) ∷ [];
  constant = pos 0;
  state_costs = pos 0 ∷ pos 0 ∷ pos 0 ∷ pos 0 ∷ [];
  random_costs = pos 0 ∷ pos 0 ∷ pos 0 ∷ [];
  low = pos 0 ∷ pos 0 ∷ pos 1 ∷ pos 0 ∷ [];
  high = pos 7 ∷ pos 7 ∷ pos 10 ∷ pos 20 ∷ [];
  realizations = record { weight = 1; values = pos 7 ∷ pos 2 ∷ pos 9 ∷ [] } ∷ record { weight = 3; values = negsuc 0 ∷ pos 0 ∷ pos 9 ∷ [] } ∷ [];
  successors = record { node = 1; weight = 1 } ∷ [];
  stop = 0;
}

-- the rows where it is there at once: decisions o:a, q:a, z:a, o:b, q:b, z:b, u:x; states v:a, v:b
abbrev pub at_once_rows : List Row
at_once_rows = zero_row_example ((0, pos 1) ∷ (1, pos 1) ∷ (2, pos 1) ∷ []) ((0, negsuc 0) ∷ []) ((0, negsuc 0) ∷ [])
    ∷ zero_row_example ((1, negsuc 0) ∷ (2, negsuc 0) ∷ (3, pos 1) ∷ (4, pos 1) ∷ (5, pos 1) ∷ []) ((1, negsuc 0) ∷ []) ((1, negsuc 0) ∷ [])
    ∷ zero_row_example ((1, pos 2) ∷ (4, pos 3) ∷ (6, pos 1) ∷ []) [] ((2, negsuc 0) ∷ []) ∷ []

-- the problem of the one stage, as it is written
unfoldable pub one_stage_text : List ℕ
one_stage_text =
    codes "{\"nodes\":{\"s001\":{\"realizations\":[{\"probability\":1,\"support\":{\"d:b\":9}}],\"subproblem\":\"p\",\"successors\":{}}},\"root\":{\"state_variables\":{},\"successors\":{\"s001\":1}},"
    ++ codes "\"subproblems\":{\"p\":{\"random_variables\":[\"d:b\"],\"state_variables\":{},\"subproblem\":{\"constraints\":["
    ++ codes "{\"function\":{\"constant\":0,\"terms\":[{\"coefficient\":1,\"variable\":\"g:t\"},{\"coefficient\":1,\"variable\":\"u:b\"},{\"coefficient\":-1,\"variable\":\"d:b\"}],\"type\":\"ScalarAffineFunction\"},"
    ++ codes "\"set\":{\"type\":\"EqualTo\",\"value\":0}},"
    ++ codes "{\"function\":{\"name\":\"g:t\",\"type\":\"Variable\"},\"set\":{\"lower\":0,\"type\":\"Interval\",\"upper\":20}},"
    ++ codes "{\"function\":{\"name\":\"u:b\",\"type\":\"Variable\"},\"set\":{\"lower\":0,\"type\":\"Interval\",\"upper\":1048576}}],"
    ++ codes "\"objective\":{\"function\":{\"constant\":0,\"terms\":[{\"coefficient\":5,\"variable\":\"g:t\"},{\"coefficient\":200,\"variable\":\"u:b\"}],\"type\":\"ScalarAffineFunction\"},\"sense\":\"min\"},"
    ++ codes "\"variables\":[{\"name\":\"g:t\"},{\"name\":\"d:b\"},{\"name\":\"u:b\"}]}}},\"version\":{\"major\":1,\"minor\":0}}\n"

-- the variables of a stage of the cascade
abbrev pub cascade_names : List (List ℕ)
cascade_names = codes "i:a" ∷ codes "w:a" ∷ codes "o:a" ∷ codes "q:a" ∷ codes "z:a" ∷ codes "a1:a" ∷ codes "b1:a" ∷ codes "a2:a" ∷ codes "b2:a" ∷ codes "i:b" ∷ codes "w:b" ∷ codes "o:b" ∷ codes "q:b" ∷ codes "z:b" ∷ codes "d:x" ∷ codes "u:x" ∷ []

-- its rows, as they are written
unfoldable pub cascade_rows_text : List ℕ
cascade_rows_text =
    codes "[{\"function\":{\"constant\":0,\"terms\":[{\"coefficient\":1,\"variable\":\"o:a\"},{\"coefficient\":1,\"variable\":\"q:a\"},{\"coefficient\":1,\"variable\":\"z:a\"},{\"coefficient\":-1,\"variable\":\"i:a\"},{\"coefficient\":-1,\"variable\":\"w:a\"}],\"type\":\"ScalarAffineFunction\"},\"set\":{\"type\":\"EqualTo\",\"value\":0}}"
    ++ codes ",{\"function\":{\"constant\":0,\"terms\":[{\"coefficient\":1,\"variable\":\"o:b\"},{\"coefficient\":1,\"variable\":\"q:b\"},{\"coefficient\":1,\"variable\":\"z:b\"},{\"coefficient\":-1,\"variable\":\"i:b\"},{\"coefficient\":-1,\"variable\":\"w:b\"},{\"coefficient\":-1,\"variable\":\"a1:a\"}],\"type\":\"ScalarAffineFunction\"},\"set\":{\"type\":\"EqualTo\",\"value\":0}}"
    ++ codes ",{\"function\":{\"constant\":0,\"terms\":[{\"coefficient\":1,\"variable\":\"b1:a\"},{\"coefficient\":-1,\"variable\":\"a2:a\"}],\"type\":\"ScalarAffineFunction\"},\"set\":{\"type\":\"EqualTo\",\"value\":0}}"
    ++ codes ",{\"function\":{\"constant\":0,\"terms\":[{\"coefficient\":1,\"variable\":\"b2:a\"},{\"coefficient\":-1,\"variable\":\"q:a\"},{\"coefficient\":-1,\"variable\":\"z:a\"}],\"type\":\"ScalarAffineFunction\"},\"set\":{\"type\":\"EqualTo\",\"value\":0}}"
    ++ codes ",{\"function\":{\"constant\":0,\"terms\":[{\"coefficient\":2,\"variable\":\"q:a\"},{\"coefficient\":3,\"variable\":\"q:b\"},{\"coefficient\":1,\"variable\":\"u:x\"},{\"coefficient\":-1,\"variable\":\"d:x\"}],\"type\":\"ScalarAffineFunction\"},\"set\":{\"type\":\"EqualTo\",\"value\":0}}]"

-- its costs, as written
unfoldable pub cascade_objective_text : List ℕ
cascade_objective_text =
    codes "{\"function\":{\"constant\":0,\"terms\":[{\"coefficient\":200,\"variable\":\"u:x\"},{\"coefficient\":3,\"variable\":\"z:a\"}],\"type\":\"ScalarAffineFunction\"},\"sense\":\"min\"}"

-- its nodes, as written
unfoldable pub cascade_nodes_text : List ℕ
cascade_nodes_text =
    codes "{\"s001\":{\"realizations\":[{\"probability\":1,\"support\":{\"d:x\":9,\"w:a\":7,\"w:b\":2}},{\"probability\":3,\"support\":{\"d:x\":9,\"w:a\":-1,\"w:b\":0}}],\"subproblem\":\"p\",\"successors\":{\"s002\":1}},"
    ++ codes "\"s002\":{\"realizations\":[{\"probability\":1,\"support\":{\"d:x\":8,\"w:a\":0,\"w:b\":1}}],\"subproblem\":\"p\",\"successors\":{}}}"

-- its root, as written
unfoldable pub cascade_root_text : List ℕ
cascade_root_text =
    codes "{\"state_variables\":{\"p1:a\":0,\"p2:a\":0,\"v:a\":5,\"v:b\":6},\"successors\":{\"s001\":1}}"

-- its states, as written
unfoldable pub cascade_states_text : List ℕ
cascade_states_text =
    codes "{\"p1:a\":{\"in\":\"a1:a\",\"out\":\"b1:a\"},\"p2:a\":{\"in\":\"a2:a\",\"out\":\"b2:a\"},\"v:a\":{\"in\":\"i:a\",\"out\":\"o:a\"},\"v:b\":{\"in\":\"i:b\",\"out\":\"o:b\"}}"

-- its bounds, as written
unfoldable pub cascade_bounds_text : List ℕ
cascade_bounds_text =
    codes "[{\"function\":{\"name\":\"i:a\",\"type\":\"Variable\"},\"set\":{\"lower\":1,\"type\":\"Interval\",\"upper\":10}}"
    ++ codes ",{\"function\":{\"name\":\"o:a\",\"type\":\"Variable\"},\"set\":{\"lower\":1,\"type\":\"Interval\",\"upper\":10}}"
    ++ codes ",{\"function\":{\"name\":\"q:a\",\"type\":\"Variable\"},\"set\":{\"lower\":0,\"type\":\"Interval\",\"upper\":4}}"
    ++ codes ",{\"function\":{\"name\":\"z:a\",\"type\":\"Variable\"},\"set\":{\"lower\":0,\"type\":\"Interval\",\"upper\":3}}"
    ++ codes ",{\"function\":{\"name\":\"a1:a\",\"type\":\"Variable\"},\"set\":{\"lower\":0,\"type\":\"Interval\",\"upper\":7}}"
    ++ codes ",{\"function\":{\"name\":\"b1:a\",\"type\":\"Variable\"},\"set\":{\"lower\":0,\"type\":\"Interval\",\"upper\":7}}"
    ++ codes ",{\"function\":{\"name\":\"a2:a\",\"type\":\"Variable\"},\"set\":{\"lower\":0,\"type\":\"Interval\",\"upper\":7}}"
    ++ codes ",{\"function\":{\"name\":\"b2:a\",\"type\":\"Variable\"},\"set\":{\"lower\":0,\"type\":\"Interval\",\"upper\":7}}"
    ++ codes ",{\"function\":{\"name\":\"i:b\",\"type\":\"Variable\"},\"set\":{\"lower\":0,\"type\":\"Interval\",\"upper\":20}}"
    ++ codes ",{\"function\":{\"name\":\"o:b\",\"type\":\"Variable\"},\"set\":{\"lower\":0,\"type\":\"Interval\",\"upper\":20}}"
    ++ codes ",{\"function\":{\"name\":\"q:b\",\"type\":\"Variable\"},\"set\":{\"lower\":0,\"type\":\"Interval\",\"upper\":8}}"
    ++ codes ",{\"function\":{\"name\":\"z:b\",\"type\":\"Variable\"},\"set\":{\"lower\":0,\"type\":\"Interval\",\"upper\":9}}"
    ++ codes ",{\"function\":{\"name\":\"u:x\",\"type\":\"Variable\"},\"set\":{\"lower\":0,\"type\":\"Interval\",\"upper\":1048576}}]"

-- the water of the second reservoir where that of the first is there at once
unfoldable pub at_once_row_text : List ℕ
at_once_row_text =
    codes "{\"function\":{\"constant\":0,\"terms\":[{\"coefficient\":1,\"variable\":\"o:b\"},{\"coefficient\":1,\"variable\":\"q:b\"},{\"coefficient\":1,\"variable\":\"z:b\"},{\"coefficient\":-1,\"variable\":\"i:b\"},{\"coefficient\":-1,\"variable\":\"w:b\"},{\"coefficient\":-1,\"variable\":\"q:a\"},{\"coefficient\":-1,\"variable\":\"z:a\"}],\"type\":\"ScalarAffineFunction\"},\"set\":{\"type\":\"EqualTo\",\"value\":0}}"
