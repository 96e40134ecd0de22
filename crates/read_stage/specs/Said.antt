-- Ties a stage of a problem file to the subproblem that the reader gives.
use Rattle.std.specs.Prelude.{◌≡◌, ◌↔◌, ℕ, ◌<◌, ℤ, pos, ◌+ℤ◌, ◌*ℤ◌, ◌≤ℤ◌, List, ◌++◌, length, map, get_or, true, Option, Some, None}
use Rattle.std.specs.Str.{bytes_eq}
use Rattle.std.specs.List.{AllByRecursion, IsDistinct}
use Rattle.base_num.specs.Sums.{entry, dot, at_terms}
use Rattle.problem.specs.declared.parts.Decision.{Decision}
use Rattle.problem.specs.declared.parts.Row.{Row}
use Rattle.problem.specs.declared.parts.Subproblem.{Subproblem}
use Rattle.read_profile.specs.File.{Name, Numbers, Constraint, State, Stage}

abbrev pub IsAboveLow : Option ℤ → ℕ → ℤ → Type 0
IsAboveLow None units z = Unit {0}
IsAboveLow (Some low) units z = (pos units *ℤ low) ≤ℤ z

abbrev pub IsBelowHigh : Option ℤ → ℕ → ℤ → Type 0
IsBelowHigh None units z = Unit {0}
IsBelowHigh (Some high) units z = z ≤ℤ (pos units *ℤ high)

-- z, in units of 1/N, lies between the sides that are there
abbrev pub Between : ℕ → Option ℤ → Option ℤ → ℤ → Type 0
Between units low high z = IsAboveLow low units z × IsBelowHigh high units z

abbrev pub decision_names : Subproblem → List Name
decision_names s = map (λ (d : Decision). d.name) s.decisions

-- the numbers of the decisions, of the incoming and of the random variables
abbrev pub decision_numbers : Subproblem → Numbers → List ℤ
decision_numbers s y = map y (decision_names s)

abbrev pub incoming_numbers : Stage → Numbers → List ℤ
incoming_numbers st y = map (λ (t : State). y t.before) st.states

abbrev pub random_numbers : Stage → Numbers → List ℤ
random_numbers st y = map y st.randoms

-- each decision lies in its box
abbrev pub InBoxes : ℕ → Subproblem → Numbers → Type 0
InBoxes units s y = AllByRecursion (λ (d : Decision). Between units (Some d.low) (Some d.high) (y d.name)) s.decisions

abbrev pub row_value_by_numbers : Stage → Subproblem → Numbers → Row → ℤ
row_value_by_numbers st s y row = at_terms row.decisions (entry (decision_numbers s y)) +ℤ at_terms row.states (entry (incoming_numbers st y)) +ℤ at_terms row.randoms (entry (random_numbers st y))

abbrev pub RowKept : ℕ → Stage → Subproblem → Numbers → Row → Type 0
RowKept units st s y row = Between units row.low row.high (row_value_by_numbers st s y row)

-- the incoming values keep the bounds that are given
abbrev pub Given : ℕ → Stage → Subproblem → Numbers → Type 0
Given units st s y = (k : ℕ) → k < length st.states → Between units (get_or s.low k None) (get_or s.high k None) (entry (incoming_numbers st y) k)

-- the states have these names
pub record StageSaid (names : List Name) (st : Stage) (s : Subproblem) : Type 0 where
  pub states : map (λ (t : State). t.name) st.states ≡ names
  pub randoms : st.randoms ≡ s.randoms
  -- the outgoing variable of each state is the decision that is its `out`
  pub outs : (y : Numbers) → map (λ (t : State). y t.after) st.states ≡ map (entry (decision_numbers s y)) s.outs
  pub objective : (units : ℕ) (y : Numbers) → st.objective units y
      ≡ pos units *ℤ s.constant +ℤ dot (map (λ (d : Decision). d.cost) s.decisions) (decision_numbers s y) +ℤ dot s.state_costs (incoming_numbers st y) +ℤ dot s.random_costs (random_numbers st y)
  -- the constraints are kept where boxes, rows and given bounds are
  pub kept : (units : ℕ) (y : Numbers) → AllByRecursion (λ (c : Constraint). c units y ≡ true) st.constraints
      ↔ (InBoxes units s y × AllByRecursion (RowKept units st s y) s.rows × Given units st s y)
  -- no two of the variables that the subproblem knows have one name
  pub distinct : IsDistinct bytes_eq (decision_names s ++ map (λ (t : State). t.before) st.states ++ st.randoms)
