-- The costs of a node's branches, one after another, and the bounds that keep them inside 128 bits.
use Rattle.std.proofs.Common.{◌≡◌, ◌∙◌, ℕ, suc, ◌+◌, ◌*◌, ◌<◌, ◌≤◌, ◌^◌, ℤ, pos, ◌+ℤ◌, ◌*ℤ◌, nat_abs, List, [], ◌∷◌, length, Result, Ok, Err, FitsSigned, refl, sym, ap, subst, arith, mul-le-mul_left}
use Rattle.std.specs.Int.{w128}
use Rattle.std.proofs.Math.Nat.{mul-le-mul}
use Rattle.std.proofs.lemmas.Int.{ints, unsigned_abs-mul}
use Rattle.problem.specs.Validated.{Validated}
use Rattle.theory.specs.Problem.{S, Realization, Node, node_at, weight_of_realizations, realization_weight, successor_weight}
use Rattle.theory.specs.View.{problem_of}
use Rattle.policy_evaluate.specs.declared.costs.Walked.{Walked}
use Rattle.policy_evaluate.specs.PolicyTree.{Deciding, Stop}
use Rattle.policy_evaluate.specs.Costs.{add_stage, add_branch, branch_cost, branch_costs, no_cost, share}
use Rattle.policy_evaluate.specs.TooBig.{branches, denominator, most_size}
use Rattle.policy_evaluate.specs.Small.{IsCost, IsSmall, successor_branches, successor_denominator, most_cost}
use Rattle.policy_evaluate.proofs.Adding.{at_least_once, cost_limit, fits, most}

-- U is the number over which the branches stand, k how many branches each of them is
pub record BranchesGo (p : Validated) (n U k before : ℕ) (decide : Deciding) (go : List ℤ → ℕ → ℕ → Result Walked Stop) (node : Node) (m : ℕ) (x : List ℤ) (rs tail : List Realization) (i : ℕ) (total : Walked) : Type 0 where
  pub value : branch_costs decide go node m total i tail x ≡ branch_costs decide go node m (no_cost before) 0 rs x
  pub under : 0 < i → total.under ≡ U
  pub small : nat_abs total.up + U * (weight_of_realizations tail * most_cost p n) ≤ U * (weight_of_realizations rs * most_cost p n)
  pub decided : total.decided + length tail * k ≡ before + length rs * k

pub branches_first : (p : Validated) (n U k decided : ℕ) (decide : Deciding) (go : List ℤ → ℕ → ℕ → Result Walked Stop) (node : Node) (m : ℕ) (x : List ℤ) (rs : List Realization) → BranchesGo p n U k decided decide go node m x rs rs 0 (no_cost decided)
branches_first p n U k decided decide go node m x rs = record { value = refl; under = λ h. absurd (omega (arith, h)); small = omega arith; decided = refl }

-- over plain numbers: y is added w times
branch_small : (x y U w tail W C : ℕ) → x + U * ((w + tail) * C) ≤ U * (W * C) → y ≤ U * (1 * C) → x + w * y + U * (tail * C) ≤ U * (W * C)
branch_small x y U w tail W C h k = omega (arith, h, mul-le-mul_left w k)

some_left : (d k l e : ℕ) → d + suc l * k ≡ e → d + k ≤ e
some_left d k l e h = omega (arith, h)

module _ (p : Validated) (n U k decided : ℕ) (decide : Deciding) (go : List ℤ → ℕ → ℕ → Result Walked Stop) (node : Node) (m : ℕ) (x : List ℤ) (rs : List Realization) (r : Realization) (tail : List Realization) (i : ℕ) (total w : Walked)
    (h : BranchesGo p n U k decided decide go node m x rs (r ∷ tail) i total) (small : IsSmall p n U (weight_of_realizations rs) decided (length rs * k)) where
  pub branch_small_here : IsSmall p n U 1 total.decided k
  branch_small_here = record {
    under = small.under;
    weighted = omega (arith, small.under);
    branches = omega (arith, some_left total.decided k (length tail) (decided + length rs * k) h.decided, small.branches);
    sizes = small.sizes;
  }

  module _ (c : IsCost p n U 1 (total.decided + k) w) where
    summed : nat_abs total.up + r.weight * nat_abs w.up + U * (weight_of_realizations tail * most_cost p n) ≤ U * (weight_of_realizations rs * most_cost p n)
    summed = branch_small (nat_abs total.up) (nat_abs w.up) U r.weight (weight_of_realizations tail) (weight_of_realizations rs) (most_cost p n) h.small c.small

    weighted : nat_abs (pos r.weight *ℤ w.up) ≡ r.weight * nat_abs w.up
    weighted = unsigned_abs-mul (pos r.weight) w.up

    in_range : (j : ℕ) → j ≤ U * (weight_of_realizations rs * most_cost p n) → j < 2 ^ 127
    in_range j le = most U U (weight_of_realizations rs) (most_cost p n) j (omega arith) small.weighted (cost_limit p n small.sizes) le

    pub branch_weighted : FitsSigned w128 (pos r.weight *ℤ w.up)
    branch_weighted = fits (pos r.weight *ℤ w.up) (in_range (nat_abs (pos r.weight *ℤ w.up)) (omega (arith, weighted, summed)))

    whole_abs : nat_abs (total.up +ℤ pos r.weight *ℤ w.up) ≤ nat_abs total.up + nat_abs (pos r.weight *ℤ w.up)
    whole_abs = omega (arith, ints)

    pub branch_whole : FitsSigned w128 (total.up +ℤ pos r.weight *ℤ w.up)
    branch_whole = fits (total.up +ℤ pos r.weight *ℤ w.up) (in_range (nat_abs (total.up +ℤ pos r.weight *ℤ w.up)) (omega (arith, whole_abs, weighted, summed)))

    pub branch_next : branch_cost decide go node total.decided (record { node = m; realization = i }) r.values x ≡ Ok w → BranchesGo p n U k decided decide go node m x rs tail (suc i) (add_branch total r.weight w)
    branch_next e = record {
      value = went e ∙ h.value;
      under = λ some. c.under;
      small = omega (arith, whole_abs, weighted, summed);
      decided = omega (arith, c.decided, h.decided);
    }
      where
        went : branch_cost decide go node total.decided (record { node = m; realization = i }) r.values x ≡ Ok w → branch_costs decide go node m (add_branch total r.weight w) (suc i) tail x ≡ branch_costs decide go node m total i (r ∷ tail) x
        went e = rw e refl

  pub branch_stops : (s : Stop) → branch_cost decide go node total.decided (record { node = m; realization = i }) r.values x ≡ Err s → branch_costs decide go node m (no_cost decided) 0 rs x ≡ Err s
  branch_stops s e = sym h.value ∙ stopped e
    where
      stopped : branch_cost decide go node total.decided (record { node = m; realization = i }) r.values x ≡ Err s → branch_costs decide go node m total i (r ∷ tail) x ≡ Err s
      stopped e = rw e refl

pub branches_last : (p : Validated) (n U k decided : ℕ) (decide : Deciding) (go : List ℤ → ℕ → ℕ → Result Walked Stop) (node : Node) (m : ℕ) (x : List ℤ) (rs : List Realization) (i : ℕ) (total : Walked) → 0 < i → BranchesGo p n U k decided decide go node m x rs [] i total
    → IsCost p n U (weight_of_realizations rs) (decided + length rs * k) total
branches_last p n U k decided decide go node m x rs i total some h = record { under = h.under some; small = omega (arith, h.small); decided = omega (arith, h.decided) }

-- a tree, of the branches that it has
pub share_cost : (p : Validated) (n m decided : ℕ) (w : Walked) → IsCost p (suc n) (successor_weight (node_at (problem_of p) m) * successor_denominator p n (node_at (problem_of p) m).successors) (realization_weight (node_at (problem_of p) m)) (decided + length (node_at (problem_of p) m).realizations * (1 + successor_branches p n (node_at (problem_of p) m).successors)) w
    → IsCost p (suc n) (denominator (problem_of p) (suc n) m) 1 (decided + branches (problem_of p) (suc n) m) (share (realization_weight (node_at (problem_of p) m)) w)
share_cost p n m decided w c = record {
  under = ap (λ (k : ℕ). realization_weight (node_at (problem_of p) m) * k) c.under;
  small = turned (realization_weight (node_at (problem_of p) m)) (successor_weight (node_at (problem_of p) m) * successor_denominator p n (node_at (problem_of p) m).successors) (most_cost p (suc n)) (nat_abs w.up) c.small;
  decided = c.decided;
}
  where
    turned : (W U C x : ℕ) → x ≤ U * (W * C) → x ≤ W * U * (1 * C)
    turned W U C x h = omega (arith, h)

pub share_fits : (p : Validated) (n U W decided : ℕ) (w : Walked) → IsCost p n U W decided w → U * W ≤ 2 ^ 40 → W * w.under < 2 ^ 64
share_fits p n U W decided w c h = subst (λ (k : ℕ). W * k < 2 ^ 64) (sym c.under) (omega (arith, h))

pub tree_small : (p : Validated) (n m decided : ℕ) → 0 < realization_weight (node_at (problem_of p) m) → IsSmall p (suc n) (denominator (problem_of p) (suc n) m) 1 decided (branches (problem_of p) (suc n) m)
    → IsSmall p (suc n) (successor_weight (node_at (problem_of p) m) * successor_denominator p n (node_at (problem_of p) m).successors) (realization_weight (node_at (problem_of p) m)) decided (length (node_at (problem_of p) m).realizations * (1 + successor_branches p n (node_at (problem_of p) m).successors))
tree_small p n m decided some small =
    let U : ℕ = successor_weight (node_at (problem_of p) m) * successor_denominator p n (node_at (problem_of p) m).successors in
    let W : ℕ = realization_weight (node_at (problem_of p) m) in
    let is : W * U ≤ 2 ^ 40 = small.under in
    record {
      under = omega (arith, at_least_once U W some, is, turned U W);
      weighted = omega (arith, is, turned U W);
      branches = small.branches;
      sizes = small.sizes;
    }
  where
    turned : (U W : ℕ) → U * W ≡ W * U
    turned U W = omega arith

-- a branch, of its stage and the trees behind it
pub behind_small : (p : Validated) (n q L wl decided count : ℕ) → 0 < q → wl ≤ q → IsSmall p (suc n) (q * L) 1 decided (1 + count) → IsSmall p n L wl (decided + 1) count
behind_small p n q L wl decided count some le small =
    let once = at_least_once L q some in
    let turned : L * q ≡ q * L = omega arith in
    let less : L * wl ≤ L * q = mul-le-mul_left L le in
    let sizes : n * most_size p ≤ suc n * most_size p = omega arith in
    record {
      under = omega (arith, once, turned, small.under);
      weighted = omega (arith, less, turned, small.under);
      branches = omega (arith, small.branches);
      sizes = omega (arith, sizes, small.sizes);
    }

stage_small : (q L wl n G z y : ℕ) → wl ≤ q → z ≤ S * (1 * G) → y ≤ L * (wl * (S * (n * G))) → q * L * z + y ≤ q * L * (1 * (S * (suc n * G)))
stage_small q L wl n G z y le h k =
    let one : q * L * z ≤ q * L * (S * (1 * G)) = mul-le-mul_left (q * L) h in
    let two : wl * (L * (S * (n * G))) ≤ q * (L * (S * (n * G))) = mul-le-mul le (omega arith) in
    omega (arith, one, two, k)

module _ (p : Validated) (n q L wl decided count : ℕ) (cost : ℤ) (w : Walked) (le : wl ≤ q) (small : IsSmall p (suc n) (q * L) 1 decided (1 + count)) (c : IsCost p n L wl (decided + 1 + count) w) (own : nat_abs cost ≤ most_cost p 1) where
  stage_abs : nat_abs (pos (q * w.under) *ℤ cost) ≡ q * w.under * nat_abs cost
  stage_abs = unsigned_abs-mul (pos (q * w.under)) cost

  stage_sum : q * w.under * nat_abs cost + nat_abs w.up ≤ q * L * (1 * most_cost p (suc n))
  stage_sum = subst (λ (k : ℕ). q * k * nat_abs cost + nat_abs w.up ≤ q * L * (1 * most_cost p (suc n))) (sym c.under) (stage_small q L wl n (most_size p) (nat_abs cost) (nat_abs w.up) le own c.small)

  stage_range : (j : ℕ) → j ≤ q * L * (1 * most_cost p (suc n)) → j < 2 ^ 127
  stage_range j le = most (q * L) (q * L) 1 (most_cost p (suc n)) j (omega arith) small.weighted (cost_limit p (suc n) small.sizes) le

  pub stage_under : q * w.under < 2 ^ 64
  stage_under = subst (λ (k : ℕ). q * k < 2 ^ 64) (sym c.under) (omega (arith, small.under))

  pub stage_fits : FitsSigned w128 (pos (q * w.under) *ℤ cost)
  stage_fits = fits (pos (q * w.under) *ℤ cost) (stage_range (nat_abs (pos (q * w.under) *ℤ cost)) (omega (arith, stage_abs, stage_sum)))

  stage_whole_abs : nat_abs (pos (q * w.under) *ℤ cost +ℤ w.up) ≤ nat_abs (pos (q * w.under) *ℤ cost) + nat_abs w.up
  stage_whole_abs = omega (arith, ints)

  pub stage_whole : FitsSigned w128 (pos (q * w.under) *ℤ cost +ℤ w.up)
  stage_whole = fits (pos (q * w.under) *ℤ cost +ℤ w.up) (stage_range (nat_abs (pos (q * w.under) *ℤ cost +ℤ w.up)) (omega (arith, stage_whole_abs, stage_abs, stage_sum)))

  pub stage_cost_is : IsCost p (suc n) (q * L) 1 (decided + (1 + count)) (add_stage q cost w)
  stage_cost_is = record {
    under = ap (λ (k : ℕ). q * k) c.under;
    small = omega (arith, stage_whole_abs, stage_abs, stage_sum);
    decided = omega (arith, c.decided);
  }
