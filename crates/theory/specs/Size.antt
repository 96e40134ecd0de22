-- Size: the sum of absolute values, taken before any cancellation, that acceptance bounds by 2^127 - 1.
use Rattle.std.specs.Prelude.{ℕ, ◌+◌, ◌-◌, ◌^◌, ◌<◌, ℤ, pos, ◌+ℤ◌, ◌*ℤ◌, ◌≤ℤ◌, nat_abs, List, [], ◌∷◌, ◌++◌, length, map, take, zip, max}
use Rattle.base_num.specs.Sums.{sum_to, total, entry, dot, Term, same_place, coefficient, placed}
use Rattle.problem.specs.declared.parts.Row.{Row}
use Rattle.theory.specs.declared.cut.Cut.{Cut}
use Rattle.theory.specs.declared.cut.Certificate.{Certificate}
use Rattle.theory.specs.Problem.{S, Node, Realization}
use Rattle.theory.specs.CutOf.{scale, over_pairs, side, remainder}

-- the absolute value
abbrev pub magnitude : ℤ → ℤ
magnitude z = pos (nat_abs z)

abbrev pub magnitudes : List ℤ → List ℤ
magnitudes xs = map magnitude xs

-- the sum of the absolute values of terms at the numbers x
abbrev pub terms_size : List Term → (ℕ → ℤ) → ℤ
terms_size ts x = total (λ t. magnitude t.1 *ℤ magnitude (x t.0)) ts

-- the sum of the absolute values of the factors of the variable j
abbrev pub coefficient_size : List Term → ℕ → ℤ
coefficient_size ts j = total (λ t. magnitude t.1 *ℤ same_place t.0 j) ts

-- M_k: the greatest of 1 and the absolute values of the box's sides
abbrev pub reach : List ℤ → List ℤ → ℕ → ℤ
reach low high k = pos (max 1 (max (nat_abs (entry low k)) (nat_abs (entry high k))))

-- the sum of |multiplier| * f over the rows
abbrev pub rows_size : Node → Certificate → (Row → ℤ → ℤ) → ℤ
rows_size n c f = total (λ (q : Row × ℤ). magnitude q.1 *ℤ f q.0 q.1) (zip n.rows c.rows)

-- the terms of the decision j
abbrev pub reduced_size : List (List Cut) → Node → Certificate → ℕ → ℤ
reduced_size pools n c j = scale n *ℤ magnitude (entry n.costs j) +ℤ pos S *ℤ rows_size n c (λ row y. magnitude (coefficient row.decisions j)) +ℤ over_pairs pools n c (λ cut. coefficient_size (placed n.outs cut.beta) j)

-- the terms of a realization, with those of its decisions times M_j
abbrev pub alpha_size : List (List Cut) → Node → List ℤ → Certificate → ℤ
alpha_size pools n values c =
    scale n *ℤ (magnitude n.constant +ℤ dot (magnitudes n.random_costs) (magnitudes values)) +ℤ pos S *ℤ rows_size n c (λ row y. magnitude (side row y) +ℤ terms_size row.randoms (entry values)) +ℤ over_pairs pools n c (λ cut. magnitude cut.alpha)
    +ℤ sum_to (length n.costs) (λ j. reach n.decision_low n.decision_high j *ℤ reduced_size pools n c j)

-- the terms of the state k
abbrev pub beta_size : Node → Certificate → ℕ → ℤ
beta_size n c k = scale n *ℤ magnitude (entry n.state_costs k) +ℤ pos S *ℤ rows_size n c (λ row y. magnitude (coefficient row.states k))

-- all terms of one realization, times its weight
abbrev pub realization_size : List (List Cut) → Node → Realization × Certificate → ℤ
realization_size pools n q = pos q.0.weight *ℤ (alpha_size pools n q.0.values q.1 +ℤ sum_to (length n.low) (λ k. reach n.low n.high k *ℤ beta_size n q.1 k))

-- r_k * |low_k| for each state
abbrev pub remainder_size : Node → List Certificate → ℤ
remainder_size n list = sum_to (length n.low) (λ k. remainder n list k *ℤ magnitude (entry n.low k))

-- Size
abbrev pub size_of : List (List Cut) → Node → List Certificate → ℤ
size_of pools n list = total (realization_size pools n) (zip n.realizations list) +ℤ remainder_size n list

-- the parts of Size in order: one per realization, and the remainders
abbrev pub size_parts : List (List Cut) → Node → List Certificate → List ℤ
size_parts pools n list = map (realization_size pools n) (zip n.realizations list) ++ remainder_size n list ∷ []

abbrev pub size_upto : List (List Cut) → Node → List Certificate → ℕ → ℤ
size_upto pools n list r = total (λ z. z) (take r (size_parts pools n list))

-- r is the least number such that the parts 0 to r exceed 2^127 - 1; it is the number of realizations where only the remainders do that
pub record RangeAt (pools : List (List Cut)) (n : Node) (list : List Certificate) (r : ℕ) : Type 0 where
  pub within : r < length (size_parts pools n list)
  pub before : size_upto pools n list r ≤ℤ pos (2 ^ 127 - 1)
  pub beyond : pos (2 ^ 127) ≤ℤ size_upto pools n list (r + 1)
