-- The whole policy: its cost stays inside 128 bits, its tree is a policy, and its verdict is that of its cost.
use Rattle.std.proofs.Common.{◌≡◌, ◌∙◌, ℕ, zero, suc, ◌*◌, ◌<◌, ◌≤◌, ◌^◌, min, ℤ, pos, ◌*ℤ◌, ◌≤ℤ◌, Bool, true, false, if◌then◌else◌, nat_lt, List, [], ◌∷◌, length, get_or, sum, reverse, All, Option, Some, None, Result, Ok, Err, IfOk, refl, sym, ap, subst, arith, mul-pos}
use Rattle.std.proofs.lemmas.Bool.Decides.{nat_tests}
use Rattle.std.proofs.lemmas.List.Elements.{Contains-get_or}
use Rattle.base_num.specs.Steps.{◌>>=◌}
use Rattle.base_num.proofs.Ring.{ring, var, ◌⊗◌}
use Rattle.base_graph.specs.Ranks.{rank}
use Rattle.problem.specs.declared.formulas.TooMuch.{TooMuch}
use Rattle.problem.specs.Formulas.{above, or_then}
use Rattle.problem.specs.Validated.{Validated, is_validated, graph_of}
use Rattle.theory.specs.declared.cut.Cut.{Cut}
use Rattle.theory.specs.Bound.{bound}
use Rattle.theory.specs.Cost.{policy_cost}
use Rattle.theory.specs.Fraction.{Fraction}
use Rattle.theory.specs.Pools.{Sound}
use Rattle.theory.specs.Problem.{S, Successor, successor_weights}
use Rattle.theory.specs.Tree.{Forest, Policy, times_all}
use Rattle.theory.specs.View.{problem_of}
use Rattle.theory.proofs.BoundBelow.{sound_bound}
use Rattle.theory.proofs.Denominators.{positive_policy}
use Rattle.theory.proofs.ValidatedPremises.{root-validated, root_shaped-validated}
use Rattle.theory.proofs.Views.{All-successors_of, root-problem_of}
use Rattle.cut_pool.specs.AtNodes.{PoolsFit}
use Rattle.cut_pool.proofs.Weighted.{have_cuts-fit}
use Rattle.plan_answer.specs.declared.classifying.Infeasibility.{Infeasibility}
use Rattle.plan_answer.specs.declared.plan_fault.PlanFault.{PlanFault}
use Rattle.plan_answer.specs.Faults.{GivesOrRefutes}
use Rattle.lp_program.specs.Solving.{Solving}
use Rattle.plan_draw.proofs.Draws.{root_counted}
use Rattle.policy_evaluate.specs.declared.costs.Walked.{Walked}
use Rattle.policy_evaluate.specs.declared.walking.Missed.{Missed}
use Rattle.policy_evaluate.specs.declared.walking.Verdict.{Verdict}
use Rattle.policy_evaluate.specs.declared.walking.Verdict.TheVariants as verdicts
use Rattle.policy_evaluate.specs.Multiples.{lcm_all}
use Rattle.policy_evaluate.specs.Costs.{successor_costs, no_cost, root_cost, share, tree_cost}
use Rattle.policy_evaluate.specs.PolicyTree.{Deciding, GrownPart, Stop, infeasible, missed, decide_branch, classified, policy_tree, verdict_of, whole_tree}
use Rattle.policy_evaluate.specs.Small.{IsSmall, successor_branches, successor_denominator}
use Rattle.policy_evaluate.specs.TooBig.{branch_count, branches, most_size, root_denominator, too_big_of}
use Rattle.policy_evaluate.specs.Upper.{IsLeastUpper, ceiling_over, upper_of}
use Rattle.policy_evaluate.specs.Verdicts.{OnCost, rounded_verdict}
use Rattle.policy_evaluate.proofs.Agreeing.{Agree, IsPolicy, policies_agree}
use Rattle.policy_evaluate.proofs.Ceilings.{ceiling_same, under_upper, upper_is}
use Rattle.policy_evaluate.proofs.Divisors.{lcm_all_least}
use Rattle.policy_evaluate.proofs.Following.{Lawful, policy_feasible}
use Rattle.policy_evaluate.proofs.Lawful.{lawful}
use Rattle.policy_evaluate.proofs.Ordered.{root_low}
use Rattle.policy_evaluate.proofs.Positive.{dens, dens_some}

-- no formula is above its limit
not_some : (t : TooMuch) → Some t ≡ None → ⊥
not_some t e = cc

within : (which limit value : ℕ) → above which limit value ≡ None → value ≤ limit
within which limit value e = by (nat_lt limit value) refl
  where
    by : (b : Bool) → nat_lt limit value ≡ b → value ≤ limit
    by true is = absurd (not_some (record { which = which; value = value }) (sym (ap (λ (b : Bool). if b then Some (record { which = which; value = value }) else None) is) ∙ e))
    by false is = grind (arith, nat_tests, is)

both_none : (t u : Option TooMuch) → or_then t u ≡ None → (t ≡ None) × (u ≡ None)
both_none (Some t) u e = absurd (not_some t e)
both_none None u e = (refl, e)

pub record Bounded (p : Validated) : Type 0 where
  pub branches : branch_count p ≤ 2 ^ 16
  pub denominator : root_denominator p ≤ 2 ^ 40
  pub sizes : p.longest * most_size p ≤ 2 ^ 60

pub bounded : (p : Validated) → too_big_of p ≡ None → Bounded p
unfolding too_big_of
bounded p e =
    let first = both_none (above 5 (2 ^ 16) (min (branch_count p) (2 ^ 32))) _ e in
    let second = both_none (above 6 (2 ^ 40) (min (root_denominator p) (2 ^ 41))) _ first.1 in
    record {
      branches = omega (arith, within 5 (2 ^ 16) (min (branch_count p) (2 ^ 32)) first.0);
      denominator = omega (arith, within 6 (2 ^ 40) (min (root_denominator p) (2 ^ 41)) second.0);
      sizes = omega (arith, within 7 (2 ^ 60) (min (p.longest * most_size p) (2 ^ 61)) second.1);
    }

S_some : 0 < S
unfolding S
S_some = omega arith

pub upper_validated : (p : Validated) (f : Forest) → is_validated p ≡ true → IsLeastUpper (problem_of p) f (upper_of (problem_of p) f)
upper_validated p f e = upper_is (problem_of p) f (positive_policy p S f e S_some)

positive_mul : (w l : ℕ) → 0 < w → w * l ≤ 2 ^ 40 → (l ≤ 2 ^ 40) × (l * w ≤ 2 ^ 40)
positive_mul zero l h k = absurd (omega (arith, h))
positive_mul (suc w) l h k = (omega (arith, k), omega (arith, k))

module _ (p : Validated) (e : is_validated p ≡ true) where
  pub root_some : 0 < sum (successor_weights (problem_of p).root)
  root_some = (root_shaped-validated p e).some

  -- the root's successors keep their sums small
  pub root_small : too_big_of p ≡ None → IsSmall p p.longest (successor_denominator p p.longest (problem_of p).root) (sum (successor_weights (problem_of p).root)) 0 (successor_branches p p.longest (problem_of p).root)
  unfolding branch_count root_denominator
  root_small none =
      let b = bounded p none in
      let m = positive_mul (sum (successor_weights (problem_of p).root)) (successor_denominator p p.longest (problem_of p).root) root_some b.denominator in
      record { under = m.0; weighted = m.1; branches = omega (arith, b.branches); sizes = b.sizes }

  lcm_some : (n : ℕ) (ls : List Successor) → All (λ (l : Successor). l.node < length p.parts.nodes) ls → 0 < lcm_all 1 (dens p n ls)
  lcm_some n ls h = omega (arith, lcm_all_least 1 (dens p n ls) (omega arith) (dens_some p e n ls h))

  pub root_lcm_some : 0 < successor_denominator p p.longest (problem_of p).root
  root_lcm_some = lcm_some p.longest (problem_of p).root (root-validated p e)

  -- no tree is cut off
  root_ranks : All (λ (l : Successor). rank (graph_of p.parts) l.node < p.longest) (problem_of p).root
  root_ranks =
      subst (λ (ls : List Successor). All (λ (l : Successor). rank (graph_of p.parts) l.node < p.longest) ls) (sym (root-problem_of p))
      (All-successors_of (λ (l : Successor). rank (graph_of p.parts) l.node < p.longest) p.parts.root p.parts.root_weights (root_counted p e)
      (λ i h. root_low p e (get_or p.parts.root i 0) (Contains-get_or p.parts.root i 0 h)))

  module _ (decide : Deciding) (law : Lawful (problem_of p) (length p.parts.nodes) decide) where
    abbrev pub tree : GrownPart Forest
    tree = whole_tree decide (problem_of p) p.longest

    abbrev pub costs : Result Walked Stop
    costs = successor_costs (tree_cost decide (problem_of p) p.longest (times_all S (problem_of p).initial)) (no_cost 0) (problem_of p).root

    -- the verdict on the tree is that on its cost
    same_upper : (w : Walked) (f : Forest) → IsPolicy (problem_of p) decide law.leaves p.longest w f → upper_of (problem_of p) f ≡ ceiling_over w.up (sum (successor_weights (problem_of p).root) * w.under)
    unfolding upper_of
    same_upper w f h =
        let c : Fraction = policy_cost (problem_of p) S f in
        let q : ℕ = sum (successor_weights (problem_of p).root) in
        let some : 0 < q * w.under = mul-pos root_some (subst (λ (k : ℕ). 0 < k) (sym h.1) root_lcm_some) in
        ceiling_same (c.up *ℤ pos S) w.up c.under (q * w.under) (positive_policy p S f e S_some) some
        (ring (c.up ∷ pos S ∷ pos (q * w.under) ∷ []) (var 0 ⊗ var 1 ⊗ var 2) (var 0 ⊗ (var 1 ⊗ var 2)) tt ∙ h.0.crossed)

    pub same_verdict : classified (problem_of p) (tree >>= λ f. Ok f.0) ≡ rounded_verdict (root_cost decide (problem_of p) p.longest)
    same_verdict = by costs tree (policies_agree (problem_of p) decide law.leaves p.longest)
      where
        by : (a : Result Walked Stop) (b : GrownPart Forest) → Agree (IsPolicy (problem_of p) decide law.leaves p.longest) a b → classified (problem_of p) (b >>= λ f. Ok f.0) ≡ rounded_verdict (a >>= λ w. Ok (share (sum (successor_weights (problem_of p).root)) w))
        by (Ok w) (Ok f) h = ap (λ (u : ℤ). Ok (verdicts.Cost u)) (same_upper w f.0 h.1)
        by (Ok w) (Err s) h = absurd h
        by (Err s) (Ok f) h = absurd h
        by (Err s) (Err u) h = subst (λ (u : Stop). classified (problem_of p) (Err u) ≡ rounded_verdict (Err s)) h (stops s)
          where
            stops : (s : Stop) → classified (problem_of p) (Err s) ≡ rounded_verdict (Err s)
            stops (infeasible d) = refl
            stops (missed m) = refl

    -- where there is a cost, there is a policy, and the bound lies below
    abbrev pub TwoSided : List (List Cut) → ℤ → Type 0
    TwoSided pools upper = (f : Forest) × Policy (problem_of p) S f × IsLeastUpper (problem_of p) f upper × (Sound (problem_of p) pools → bound (problem_of p) pools ≤ℤ upper)

    policy_sides : (pools : List (List Cut)) → PoolsFit p pools → (f : Forest) → Policy (problem_of p) S f → TwoSided pools (upper_of (problem_of p) f)
    policy_sides pools fit f policy =
        let some = positive_policy p S f e S_some in
        let upper = upper_is (problem_of p) f some in
        (f, policy, upper, λ sound. under_upper (problem_of p) f (bound (problem_of p) pools) (upper_of (problem_of p) f) some (sound_bound (problem_of p) pools (root_shaped-validated p e) (have_cuts-fit p pools e fit) sound S f S_some policy) upper)

    pub two_sided : (pools : List (List Cut)) → PoolsFit p pools → (r : Result Verdict PlanFault) → GivesOrRefutes r (classified (problem_of p) (tree >>= λ f. Ok f.0)) → OnCost r (TwoSided pools)
    two_sided pools fit r g = by tree r (policy_feasible p e decide law p.longest root_ranks) g
      where
        cost_same : (x y : ℤ) (r : Result Verdict Infeasibility) → r ≡ Ok (verdicts.Cost x) → r ≡ Ok (verdicts.Cost y) → x ≡ y
        cost_same x y r e f = cc

        no_cost_infeasible : (x : ℤ) (d : Infeasibility) (r : Result Verdict Infeasibility) → r ≡ Err d → r ≡ Ok (verdicts.Cost x) → ⊥
        no_cost_infeasible x d r e f = cc

        no_cost_missed : (x : ℤ) (m : Missed) (r : Result Verdict Infeasibility) → r ≡ Ok (verdicts.Missed (reverse m.branches) m.row m.residual) → r ≡ Ok (verdicts.Cost x) → ⊥
        no_cost_missed x m r e f = cc

        by : (b : GrownPart Forest) (r : Result Verdict PlanFault) → IfOk b (λ (f : Forest × ℕ). Policy (problem_of p) S f.0) → GivesOrRefutes r (classified (problem_of p) (b >>= λ f. Ok f.0)) → OnCost r (TwoSided pools)
        by (Ok f) (Ok (verdicts.Cost u)) h g = subst (TwoSided pools) (cost_same (upper_of (problem_of p) f.0) u (Ok (verdicts.Cost (upper_of (problem_of p) f.0))) refl g) (policy_sides pools fit f.0 h)
        by (Err (infeasible d)) (Ok (verdicts.Cost u)) h g = absurd (no_cost_infeasible u d (Err d) refl g)
        by (Err (missed m)) (Ok (verdicts.Cost u)) h g = absurd (no_cost_missed u m (Ok (verdicts.Missed (reverse m.branches) m.row m.residual)) refl g)
        by b (Ok (verdicts.Missed branches row residual)) h g = tt
        by b (Err fault) h g = tt

-- the verdict by a solver's decisions
module _ {Start Chain : Type 0} (v : Solving Start Chain) (p : Validated) (e : is_validated p ≡ true) (pools : List (List Cut)) where
  verdict_by_tree : verdict_of v p pools ≡ classified (problem_of p) (whole_tree (decide_branch v p pools) (problem_of p) p.longest >>= λ f. Ok f.0)
  unfolding verdict_of policy_tree
  verdict_by_tree = refl

  pub verdict_by_cost : verdict_of v p pools ≡ rounded_verdict (root_cost (decide_branch v p pools) (problem_of p) p.longest)
  verdict_by_cost = verdict_by_tree ∙ same_verdict p e (decide_branch v p pools) (lawful v p pools e)

  pub sides_by_verdict : PoolsFit p pools → (r : Result Verdict PlanFault) → GivesOrRefutes r (verdict_of v p pools)
      → OnCost r (λ upper. (f : Forest) × Policy (problem_of p) S f × IsLeastUpper (problem_of p) f upper × (Sound (problem_of p) pools → bound (problem_of p) pools ≤ℤ upper))
  sides_by_verdict fit r g = two_sided p e (decide_branch v p pools) (lawful v p pools e) pools fit r (subst (λ (x : Result Verdict Infeasibility). GivesOrRefutes r x) verdict_by_tree g)
