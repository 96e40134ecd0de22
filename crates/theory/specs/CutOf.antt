-- The cut of a list of certificates.
-- Source: Neumaier and Shcherbina 2004, with one rounding, downwards over the box.
use Rattle.std.specs.Prelude.{ℕ, zero, suc, ◌*◌, ℤ, pos, negsuc, ◌+ℤ◌, ◌*ℤ◌, ◌-ℤ◌, List, length, zip, Option, Some, None}
use Rattle.std.specs.Int.{int_min}
use Rattle.base_num.specs.Sums.{sum_to, total, entry, dot, at_terms, coefficient, placed, table, floor_over}
use Rattle.problem.specs.declared.parts.Row.{Row}
use Rattle.theory.specs.declared.cut.Cut.{Cut}
use Rattle.theory.specs.declared.cut.Certificate.{Certificate}
use Rattle.theory.specs.Problem.{S, Realization, Successor, Node, realization_weight, successor_weight}
use Rattle.theory.specs.Certificates.{cut_at}

abbrev pub side_of : Option ℤ → ℤ
side_of None = pos 0
side_of (Some x) = x

-- the side of a row that a multiplier stands on
abbrev pub side : Row → ℤ → ℤ
side row (pos zero) = pos 0
side row (pos (suc y)) = side_of row.low
side row (negsuc y) = side_of row.high

-- S^2 * Q
abbrev pub scale : Node → ℤ
scale n = pos (S * S * successor_weight n)

-- the sum of multiplier * f over all pairs of all successors
abbrev pub over_pairs : List (List Cut) → Node → Certificate → (Cut → ℤ) → ℤ
over_pairs pools n c f = total (λ (q : Successor × List (ℕ × ℕ)). total (λ (s : ℕ × ℕ). pos s.1 *ℤ f (cut_at pools q.0 s)) q.1) (zip n.successors c.cuts)

-- the sum of multiplier * f over the rows
abbrev pub over_rows : Node → Certificate → (Row → ℤ → ℤ) → ℤ
over_rows n c f = total (λ (q : Row × ℤ). q.1 *ℤ f q.0 q.1) (zip n.rows c.rows)

-- d_j
abbrev pub reduced_cost : List (List Cut) → Node → Certificate → ℕ → ℤ
reduced_cost pools n c j = scale n *ℤ entry n.costs j -ℤ pos S *ℤ over_rows n c (λ row y. coefficient row.decisions j) +ℤ over_pairs pools n c (λ cut. coefficient (placed n.outs cut.beta) j)

-- min(d_j l_j, d_j h_j)
abbrev pub box_least : Node → ℕ → ℤ → ℤ
box_least n j d = int_min (d *ℤ entry n.decision_low j) (d *ℤ entry n.decision_high j)

-- A_r
abbrev pub alpha_at : List (List Cut) → Node → List ℤ → Certificate → ℤ
alpha_at pools n values c =
    scale n *ℤ (n.constant +ℤ dot n.random_costs values) +ℤ pos S *ℤ over_rows n c (λ row y. side row y -ℤ at_terms row.randoms (entry values)) +ℤ over_pairs pools n c (λ cut. cut.alpha) +ℤ sum_to (length n.costs) (λ j. box_least n j (reduced_cost pools n c j))

-- B_rk
abbrev pub beta_at : Node → Certificate → ℕ → ℤ
beta_at n c k = scale n *ℤ entry n.state_costs k -ℤ pos S *ℤ over_rows n c (λ row y. coefficient row.states k)

-- A: the sum of w_r * A_r
abbrev pub alpha_sum : List (List Cut) → Node → List Certificate → ℤ
alpha_sum pools n list = total (λ (q : Realization × Certificate). pos q.0.weight *ℤ alpha_at pools n q.0.values q.1) (zip n.realizations list)

-- B_k: the sum of w_r * B_rk
abbrev pub beta_sum : Node → List Certificate → ℕ → ℤ
beta_sum n list k = total (λ (q : Realization × Certificate). pos q.0.weight *ℤ beta_at n q.1 k) (zip n.realizations list)

-- D = S * Q * W
abbrev pub divisor : Node → ℕ
divisor n = S * successor_weight n * realization_weight n

-- beta_k
abbrev pub slope : Node → List Certificate → ℕ → ℤ
slope n list k = floor_over (beta_sum n list k) (divisor n)

-- r_k
abbrev pub remainder : Node → List Certificate → ℕ → ℤ
remainder n list k = beta_sum n list k -ℤ pos (divisor n) *ℤ slope n list k

-- CutOf
abbrev pub cut_of : List (List Cut) → Node → List Certificate → Cut
cut_of pools n list = record {
  alpha = floor_over (alpha_sum pools n list +ℤ sum_to (length n.low) (λ k. remainder n list k *ℤ entry n.low k)) (divisor n);
  beta = table (length n.low) (slope n list);
}
