-- Values and states that are given for a stage, and rows that go with them.
use Rattle.std.specs.Prelude.{◌≡◌, ℕ, ◌<◌, ◌≤◌, ◌^◌, ℤ, true, nat_lt, nat_abs, List, [], length, get_or, All}
use Rattle.std.specs.List.{list_all}
use Rattle.problem.specs.declared.parts.Row.{Row}
use Rattle.problem.specs.declared.parts.Node.{Node}
use Rattle.problem.specs.declared.parts.Subproblem.{Subproblem}
use Rattle.problem.specs.Limits.{terms_fit, outs_differ}
use Rattle.theory.specs.declared.cut.Cut.{Cut}
use Rattle.theory.specs.Pools.{pool}
use Rattle.plan_stage.specs.Nodes.{quarters}
use Rattle.plan_stage.specs.Spans.{Spans}

-- few values of at most 2^40 and few states of at most 2^64
pub record AreGiven (values state : List ℤ) : Type 0 where
  pub few_values : length values ≤ 50
  pub few_states : length state ≤ 50
  pub small_values : All (λ z. nat_abs z ≤ 2 ^ 40) values
  pub small_state : All (λ z. nat_abs z ≤ 2 ^ 64) state

-- a row over so many states and random variables
pub record IsOver (states randoms : ℕ) (row : Row) : Type 0 where
  pub over_states : terms_fit states 0 row.states ≡ true
  pub over_randoms : terms_fit randoms 0 row.randoms ≡ true

-- values and a state for the rows of this subproblem
pub record AreOf (s : Subproblem) (values state : List ℤ) : Type 0 where
  pub given : AreGiven values state
  pub over : All (IsOver (length state) (length values)) s.rows

-- the parts of a node within limits, and the cuts of its successors
pub record AreNodePartsWithin (pools : List (List Cut)) (n : Node) (s : Subproblem) : Type 0 where
  pub decisions : length s.decisions ≤ 200
  pub rows : length s.rows ≤ 200
  pub outs : length s.outs ≤ 50
  pub known_outs : list_all (λ o. nat_lt o (length s.decisions)) s.outs ≡ true
  pub differ : outs_differ s ≡ true
  pub weights : length n.successor_weights ≡ length n.successors
  pub successors : length n.successors ≤ 1000
  pub there : All (λ m. m < length pools) n.successors
  pub some : All (λ m. 0 < length (pool pools m)) n.successors
  pub spans : All (λ m. All (Spans s) (pool pools m)) n.successors

-- the parts of the reference program of a node in this box, within limits
pub record HasReference (n : Node) (s : Subproblem) (low high : List ℤ) : Type 0 where
  pub some : 0 < length n.values
  pub decisions : length s.decisions ≤ 200
  pub rows : length s.rows ≤ 200
  pub given : AreOf s (get_or n.values 0 []) (quarters low high)
