-- When multipliers of a node's rows show that no decisions exist at given values and a given incoming state.
-- Source: Farkas' lemma, over boxed variables.
use Rattle.std.specs.Prelude.{ℕ, ◌+◌, ◌*◌, ◌^◌, ◌<◌, ℤ, pos, neg_ℤ, ◌+ℤ◌, ◌-ℤ◌, ◌*ℤ◌, nat_abs, nat_lt, int_lt, Bool, ◌&&◌, ◌==◌, List, length, zip, All}
use Rattle.std.specs.List.{list_all, sum_by}
use Rattle.base_num.specs.Sums.{sum_to, total, entry, Term, at_terms, same_place, coefficient}
use Rattle.problem.specs.declared.parts.Row.{Row}
use Rattle.theory.specs.Problem.{S, Node}
use Rattle.theory.specs.Tree.{InBox, AtLeast, AtMost, Decides, times_all}
use Rattle.theory.specs.CutOf.{side, box_least}
use Rattle.cut_make.specs.Acceptance.{is_sign}
use Rattle.cut_make.specs.SizeByTerms.{span, terms_by, over_values, count_by}

-- a row's right-hand side once the values omega and the state x, at scale S, are known: S * (side - g·omega) - b·x
abbrev pub right_side : List ℤ → List ℤ → Row → ℤ → ℤ
right_side values x row y = pos S *ℤ (side row y -ℤ at_terms row.randoms (entry values)) -ℤ at_terms row.states (entry x)

-- d_j, with costs 0: minus the sum of y_i * a_ij
abbrev pub farkas_reduced_cost : List Row → List ℤ → ℕ → ℤ
farkas_reduced_cost rows ys j = neg_ℤ (total (λ (q : Row × ℤ). q.1 *ℤ coefficient q.0.decisions j) (zip rows ys))

-- the refuting value: the sum of y_i times the right-hand sides, and S times the least d·u over the boxes
abbrev pub farkas_value : Node → List ℤ → List ℤ → List ℤ → ℤ
farkas_value n values x ys =
    total (λ (q : Row × ℤ). q.1 *ℤ right_side values x q.0 q.1) (zip n.rows ys) +ℤ pos S *ℤ sum_to (length n.decision_low) (λ j. box_least n j (farkas_reduced_cost n.rows ys j))

-- a right-hand side's size: the sum of the absolute values of its terms
abbrev pub right_side_size : List ℤ → List ℤ → Row × ℤ → ℕ
right_side_size values x q = S * (nat_abs (side q.0 q.1) + terms_by (over_values values) q.0.randoms) + terms_by (over_values x) q.0.states

-- and those of a decision's factor, in the terms of a row and in its reduced cost
abbrev pub farkas_coefficient_size : List Term → ℕ → ℕ
farkas_coefficient_size ts j = terms_by (λ i. nat_abs (same_place i j)) ts

abbrev pub farkas_reduced_size : List Row → List ℤ → ℕ → ℕ
farkas_reduced_size rows ys j = sum_by (λ (q : Row × ℤ). nat_abs q.1 * farkas_coefficient_size q.0.decisions j) (zip rows ys)

-- the size of the value: the sum of the absolute values of all its terms, with M_j for a decision's value
abbrev pub farkas_size : Node → List ℤ → List ℤ → List ℤ → ℕ
farkas_size n values x ys =
    sum_by (λ (q : Row × ℤ). nat_abs q.1 * right_side_size values x q) (zip n.rows ys) + S * count_by (length n.decision_low) (λ j. span (entry n.decision_low j) (entry n.decision_high j) * farkas_reduced_size n.rows ys j)

-- Refutes: one multiplier per row, the signs are right, the value is positive, and the size is at most 2^127 - 1
unfoldable pub refutes_of : Node → List ℤ → List ℤ → List ℤ → Bool
refutes_of n values x ys =
    (length ys == length n.rows) && list_all (λ (q : Row × ℤ). is_sign q.0 q.1) (zip n.rows ys) && (nat_lt (farkas_size n values x ys) (2 ^ 127) && int_lt (pos 0) (farkas_value n values x ys))

-- NoDecision: where the state is x / S, no decisions in units of 1/(S*N) lie in their boxes and meet the rows, for any N;
-- so no fractions u/N do, which are S*u in those units
abbrev pub NoDecision : Node → List ℤ → List ℤ → Type 0
NoDecision n values x = (units : ℕ) (u : List ℤ) → 0 < units → ¬ Decides (S * units) n values (times_all units x) u

-- S * N times a row's left side at decisions u in units of 1/N and the state x / S
abbrev pub fraction_side : ℕ → List ℤ → List ℤ → List ℤ → Row → ℤ
fraction_side units values x u row = pos S *ℤ at_terms row.decisions (entry u) +ℤ pos units *ℤ at_terms row.states (entry x) +ℤ pos (S * units) *ℤ at_terms row.randoms (entry values)

-- the fractions u/N lie in the boxes of the decisions, and meet the rows where the state is x / S
pub record FractionsDecide (units : ℕ) (n : Node) (values x u : List ℤ) : Type 0 where
  pub box : InBox units n.decision_low n.decision_high u
  pub low : All (λ (row : Row). AtLeast row.low (S * units) (fraction_side units values x u row)) n.rows
  pub high : All (λ (row : Row). AtMost row.high (S * units) (fraction_side units values x u row)) n.rows
