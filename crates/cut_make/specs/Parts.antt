-- The sums of a list of certificates over the program's parts of a node, and parts of their size.
use Rattle.std.specs.Prelude.{◌≡◌, ℕ, ◌+◌, ◌-◌, ◌^◌, ◌<◌, ◌≤◌, ℤ, pos, ◌+ℤ◌, ◌-ℤ◌, ◌*ℤ◌, ◌≤ℤ◌, List, length, get_or, map, zip, sum, All}
use Rattle.std.specs.Int.{int_min}
use Rattle.base_num.specs.Sums.{sum_to, total, entry, dot, at_terms, coefficient, placed}
use Rattle.problem.specs.declared.parts.Row.{Row}
use Rattle.problem.specs.declared.parts.Decision.{Decision}
use Rattle.problem.specs.declared.parts.Node as nodes
use Rattle.problem.specs.declared.parts.Subproblem.{Subproblem}
use Rattle.theory.specs.declared.cut.Cut.{Cut}
use Rattle.theory.specs.declared.cut.Certificate.{Certificate}
use Rattle.theory.specs.Problem.{S, Realization, Node}
use Rattle.theory.specs.Pools.{pool, no_cut}
use Rattle.theory.specs.CutOf.{scale, side, over_rows, alpha_sum, remainder}
use Rattle.theory.specs.Size.{magnitude, reach, beta_size}
use Rattle.cut_make.specs.Sized.{Sized, unboxed}

-- the sum of multiplier * f over the pairs of one successor
abbrev pub over_pool : List Cut → (Cut → ℤ) → List (ℕ × ℕ) → ℤ
over_pool cuts f pairs = total (λ (s : ℕ × ℕ). pos s.1 *ℤ f (get_or cuts s.0 no_cut)) pairs

-- the sum of multiplier * f over the pairs of the successors with these numbers
abbrev pub over_successors : List (List Cut) → List ℕ → List (List (ℕ × ℕ)) → (Cut → ℤ) → ℤ
over_successors pools successors cuts f = total (λ (q : ℕ × List (ℕ × ℕ)). over_pool (pool pools q.0) f q.1) (zip successors cuts)

-- the ends of the decisions' boxes
abbrev pub lows : Subproblem → List ℤ
lows s = map (λ (d : Decision). d.low) s.decisions

abbrev pub highs : Subproblem → List ℤ
highs s = map (λ (d : Decision). d.high) s.decisions

-- the decisions' costs at the scale k
abbrev pub costs_at_scale : ℤ → Subproblem → ℕ → ℤ
costs_at_scale k s j = k *ℤ entry (map (λ (d : Decision). d.cost) s.decisions) j

-- d_j at the scale k
abbrev pub reduced_at : ℤ → List (List Cut) → nodes.Node → Subproblem → Certificate → ℕ → ℤ
reduced_at k pools n s c j =
    costs_at_scale k s j -ℤ pos S *ℤ total (λ (q : Row × ℤ). q.1 *ℤ coefficient q.0.decisions j) (zip s.rows c.rows) +ℤ over_successors pools n.successors c.cuts (λ cut. coefficient (placed s.outs cut.beta) j)

-- the sum of the least products of the reduced costs over the boxes
abbrev pub least_at : ℤ → List (List Cut) → nodes.Node → Subproblem → Certificate → ℤ
least_at k pools n s c = sum_to (length s.decisions) (λ j. int_min (reduced_at k pools n s c j *ℤ entry (lows s) j) (reduced_at k pools n s c j *ℤ entry (highs s) j))

-- A_r at the scale k
abbrev pub constant_at_scale : ℤ → List (List Cut) → nodes.Node → Subproblem → List ℤ → Certificate → ℤ
constant_at_scale k pools n s values c =
    k *ℤ (s.constant +ℤ dot s.random_costs values) +ℤ pos S *ℤ total (λ (q : Row × ℤ). q.1 *ℤ (side q.0 q.1 -ℤ at_terms q.0.randoms (entry values))) (zip s.rows c.rows) +ℤ over_successors pools n.successors c.cuts (λ cut. cut.alpha)
    +ℤ least_at k pools n s c

-- the products of the reduced costs over the boxes are in range
abbrev pub ReducedFit : ℤ → List (List Cut) → nodes.Node → Subproblem → Certificate → Type 0
ReducedFit k pools n s c = (j : ℕ) → j < length s.decisions → (reach (lows s) (highs s) j *ℤ magnitude (reduced_at k pools n s c j)) ≤ℤ pos (2 ^ 127 - 1)

-- the limits of a node and its subproblem
pub record Limited (n : nodes.Node) (s : Subproblem) : Type 0 where
  pub values : length n.values ≡ length n.weights
  pub randoms : All (λ (v : List ℤ). length v ≡ length s.randoms) n.values
  pub decisions : length s.decisions ≤ 200
  pub rows : All (λ (row : Row). All (λ (t : ℕ × ℤ). t.0 < length s.decisions) row.decisions) s.rows
  pub random_terms : All (λ (row : Row). All (λ (t : ℕ × ℤ). t.0 < length s.randoms) row.randoms) s.rows
  pub outs : All (λ o. o < length s.decisions) s.outs
  pub successors : length n.successor_weights ≡ length n.successors
  pub few : length n.successors ≤ 2 ^ 16
  pub stop : sum n.successor_weights + n.stop ≤ 65535

-- one certificate at all realizations with these weights
abbrev pub repeated : Certificate → List ℕ → List Certificate
repeated c ws = map (λ (w : ℕ). c) ws

-- the pairs of a certificate are in the pools of the successors with these numbers
abbrev pub PairsThere : List (List Cut) → List ℕ → List (List (ℕ × ℕ)) → Type 0
PairsThere pools successors cuts = All (λ (q : ℕ × List (ℕ × ℕ)). All (λ (s : ℕ × ℕ). s.0 < length (pool pools q.0)) q.1) (zip successors cuts)

-- the terms of the state k at all realizations, by their weights
abbrev pub slope_size : Node → List Certificate → ℕ → ℤ
slope_size n list k = total (λ (q : Realization × Certificate). pos q.0.weight *ℤ beta_size n q.1 k) (zip n.realizations list)

-- the sum over the realizations of the weight times S times the multipliers times their rows' terms of the state k
abbrev pub rows_sum : Node → List Certificate → ℕ → ℤ
rows_sum n list k = total (λ (q : Realization × Certificate). pos q.0.weight *ℤ (pos S *ℤ over_rows n q.1 (λ row y. coefficient row.states k))) (zip n.realizations list)

-- the premises under which a list of certificates with these weights makes a cut: the limits, pairs that are in the pools, and sums in
-- range
pub record Cuttable (pools : List (List Cut)) (n : nodes.Node) (s : Subproblem) (low : List ℤ) (weights : List ℕ) (list : List Certificate) : Type 0 where
  pub limits : Limited n s
  pub sized : Sized pools n s low weights
  pub each : length list ≡ length n.weights
  pub there : All (λ (c : Certificate). PairsThere pools n.successors c.cuts) list
  pub states : length low ≡ length s.state_costs
  pub reduced : All (ReducedFit (scale (unboxed weights n s)) pools n s) list
  pub slopes : (k : ℕ) → k < length low → slope_size (unboxed weights n s) list k ≤ℤ pos (2 ^ 127 - 1)
  pub constant : magnitude (alpha_sum pools (unboxed weights n s) list +ℤ sum_to (length low) (λ k. remainder (unboxed weights n s) list k *ℤ entry low k)) ≤ℤ pos (2 ^ 127 - 1)
