-- The amounts of Size as they are walked, in natural numbers: by the terms of each row and by the slopes of each pair.
use Rattle.std.specs.Prelude.{ℕ, zero, suc, ◌+◌, ◌*◌, ◌^◌, ◌<◌, ◌≤◌, ◌≡◌, ℤ, List, length, get_or, zip, slice_get, min, max, nat_abs, Option, Some, None, MatchOption}
use Rattle.std.specs.List.{sum_by}
use Rattle.base_num.specs.Sums.{Term, entry}
use Rattle.base_num.specs.declared.size.Size.{Size}
use Rattle.problem.specs.declared.parts.Decision.{Decision}
use Rattle.problem.specs.declared.parts.Row.{Row}
use Rattle.problem.specs.declared.parts.Subproblem.{Subproblem}
use Rattle.problem.specs.declared.parts.Node.{Node}
use Rattle.theory.specs.declared.cut.Cut.{Cut}
use Rattle.theory.specs.declared.cut.Certificate.{Certificate}
use Rattle.theory.specs.Problem.{S, weight_of_successors}
use Rattle.theory.specs.View.{successors_of}
use Rattle.theory.specs.CutOf.{side}
use Rattle.theory.specs.Pools.{pool}

-- the sum with an amount more; none exactly where that exceeds 2^127 - 1
abbrev pub AddsSize : ℕ → Option Size → ℕ → Type 0
AddsSize before result amount = MatchOption result (2 ^ 127 ≤ before + amount) (λ size. size.total ≡ before + amount)

-- f 0 + .. + f (n - 1)
abbrev pub count_by : ℕ → (ℕ → ℕ) → ℕ
count_by zero f = 0
count_by (suc n) f = count_by n f + f n

-- the greatest of 1 and the absolute values of both
abbrev pub span : ℤ → ℤ → ℕ
span low high = max 1 (max (nat_abs low) (nat_abs high))

-- the span of a decision's box, 1 without a decision
abbrev pub decision_span : Option Decision → ℕ
decision_span None = 1
decision_span (Some d) = span d.low d.high

-- the bounds by which the factors of terms are multiplied: over decisions, over a box, and over values
abbrev pub over_decisions : List Decision → ℕ → ℕ
over_decisions ds j = decision_span (slice_get ds j)

abbrev pub over_box : List ℤ → List ℤ → ℕ → ℕ
over_box low high k = span (entry low k) (entry high k)

abbrev pub over_values : List ℤ → ℕ → ℕ
over_values values t = nat_abs (entry values t)

-- |factor| times the value of f at the term's number, and the sum of these
abbrev pub term_by : (ℕ → ℕ) → Term → ℕ
term_by f t = nat_abs t.1 * f t.0

abbrev pub terms_by : (ℕ → ℕ) → List Term → ℕ
terms_by f ts = sum_by (term_by f) ts

-- the sum of |number| times the value of f at its index
abbrev pub numbers_by : (ℕ → ℕ) → List ℤ → ℕ
numbers_by f zs = count_by (length zs) (λ k. nat_abs (entry zs k) * f k)

-- a row's terms of the decisions and of the incoming state, the same at all realizations
abbrev pub fixed_row : List Decision → List ℤ → List ℤ → Row → ℕ
fixed_row ds low high row = terms_by (over_decisions ds) row.decisions + terms_by (over_box low high) row.states

-- the amounts of these rows, by their index, none above 2^127
abbrev pub FixedRows : List Decision → List ℤ → List ℤ → List Row → List ℕ → Type 0
FixedRows ds low high rows amounts = (i : ℕ) (row : Row) (amount : ℕ) → i < length rows → get_or amounts i amount ≡ min (fixed_row ds low high (get_or rows i row)) (2 ^ 127)

-- a row at its side, with its terms of the random variables, beside the part that is the same at all realizations
abbrev pub row_size_over : List ℤ → Row × ℤ → ℕ → ℕ
row_size_over values q fixed = nat_abs (side q.0 q.1) + fixed + terms_by (over_values values) q.0.randoms

-- a row at its side, with its terms
abbrev pub row_amount : List Decision → List ℤ → List ℤ → List ℤ → Row × ℤ → ℕ
row_amount ds low high values q = row_size_over values q (fixed_row ds low high q.0)

-- the rows times their multipliers
abbrev pub scaled_row : List Decision → List ℤ → List ℤ → List ℤ → Row × ℤ → ℕ
scaled_row ds low high values q = nat_abs q.1 * row_amount ds low high values q

abbrev pub rows_amount : List Decision → List ℤ → List ℤ → List ℤ → List Row → List ℤ → ℕ
rows_amount ds low high values rows ys = sum_by (scaled_row ds low high values) (zip rows ys)

-- a decision's cost at the ends of its box
abbrev pub decision_amount : Decision → ℕ
decision_amount d = span d.low d.high * nat_abs d.cost

-- the stage costs without rows, cuts and random costs, the same at all realizations
abbrev pub fixed_costs : Subproblem → List ℤ → List ℤ → ℕ
fixed_costs s low high = nat_abs s.constant + sum_by decision_amount s.decisions + numbers_by (over_box low high) s.state_costs

-- the stage costs without rows and cuts
abbrev pub costs_amount : Subproblem → List ℤ → List ℤ → List ℤ → ℕ
costs_amount s low high values = fixed_costs s low high + numbers_by (over_values values) s.random_costs

-- a cut at the ends of the boxes of the decisions that leave the stage
abbrev pub cut_amount : List Decision → List ℕ → Cut → ℕ
cut_amount ds outs c = nat_abs c.alpha + terms_by (over_decisions ds) (zip outs c.beta)

abbrev pub found_amount : List Decision → List ℕ → Option Cut → ℕ
found_amount ds outs None = 0
found_amount ds outs (Some c) = cut_amount ds outs c

-- a pair's cut times its multiplier, and the pairs of a successor and of all
abbrev pub pair_amount : List Decision → List ℕ → List Cut → ℕ × ℕ → ℕ
pair_amount ds outs cuts s = s.1 * found_amount ds outs (slice_get cuts s.0)

abbrev pub successor_amount : List Decision → List ℕ → List (List Cut) → ℕ × List (ℕ × ℕ) → ℕ
successor_amount ds outs pools q = sum_by (pair_amount ds outs (pool pools q.0)) q.1

abbrev pub successors_amount : List Decision → List ℕ → List (List Cut) → List ℕ → List (List (ℕ × ℕ)) → ℕ
successors_amount ds outs pools successors cuts = sum_by (successor_amount ds outs pools) (zip successors cuts)

-- Q
abbrev pub total_successor_weight : Node → ℕ
total_successor_weight n = weight_of_successors n.stop (successors_of n.successors n.successor_weights)

-- rows and costs of a realization, and with its pairs all of it, without its weight
abbrev pub stage_amount : Node → Subproblem → List ℤ → List ℤ → List ℤ → List ℤ → ℕ
stage_amount n s low high values ys =
    rows_amount s.decisions low high values s.rows ys + S * total_successor_weight n * costs_amount s low high values

abbrev pub certificate_amount : Node → Subproblem → List ℤ → List ℤ → List (List Cut) → List ℤ × Certificate → ℕ
certificate_amount n s low high pools q =
    successors_amount s.decisions s.outs pools n.successors q.1.cuts + S * stage_amount n s low high q.0 q.1.rows

-- all of a realization
abbrev pub weighted_amount : Node → Subproblem → List ℤ → List ℤ → List (List Cut) → ℕ × (List ℤ × Certificate) → ℕ
weighted_amount n s low high pools q = q.0 * certificate_amount n s low high pools q.1

-- the amounts that are the same at all realizations: those of the rows, by their index, and that of the costs
pub record Fixed (s : Subproblem) (low high : List ℤ) (amounts : List ℕ) (cost : ℕ) : Type 0 where
  pub room : length s.rows ≤ length amounts
  pub rows : FixedRows s.decisions low high s.rows amounts
  pub costs : cost ≡ min (fixed_costs s low high) (2 ^ 127)
