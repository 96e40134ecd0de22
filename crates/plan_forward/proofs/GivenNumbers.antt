-- Decisions in their boxes, states in theirs and values are small enough for sums in 128 bits.
use Rattle.std.proofs.Common.{◌≡◌, ◌∙◌, ℕ, ◌<◌, ◌≤◌, ◌^◌, ℤ, pos, ◌*ℤ◌, ◌≤ℤ◌, true, nat_abs, List, length, get_or, slice_get, Some, All, sym, ap, subst, arith}
use Rattle.std.proofs.lemmas.Bool.Decides.{nat_tests}
use Rattle.std.proofs.lemmas.Grind.{common_steps}
use Rattle.std.proofs.lemmas.Int.{ints}
use Rattle.std.proofs.lemmas.List.{get_or_default, length-map}
use Rattle.std.proofs.lemmas.List.Elements.{All-map}
use Rattle.base_num.specs.Sums.{entry}
use Rattle.base_num.proofs.Tests.{all_at, some_of}
use Rattle.problem.specs.declared.parts.Decision.{Decision}
use Rattle.problem.specs.declared.parts.Row.{Row}
use Rattle.problem.specs.declared.parts.Node as nodes
use Rattle.problem.specs.declared.parts.Subproblem.{Subproblem}
use Rattle.problem.specs.Limits.{are_numbers, are_values, costs_fit, decision_fits, row_fits, terms_fit}
use Rattle.problem.specs.Validated.{Validated, is_validated, subproblem_of}
use Rattle.problem.proofs.SubproblemFacts.{costs-subproblem_fits, counts-subproblem_fits, decisions-subproblem_fits, few-counts_fit, rows-subproblem_fits}
use Rattle.theory.specs.Problem.{S, Node, node_at}
use Rattle.theory.specs.Tree.{InBox}
use Rattle.theory.specs.View.{node_of, problem_of}
use Rattle.theory.proofs.ValidatedParts.{numbers_counted, numbers_small}
use Rattle.theory.proofs.ValidatedPremises.{shaped-validated}
use Rattle.theory.proofs.Views.{decision_low-node_of, state_costs-node_of}
use Rattle.plan_stage.specs.Given.{AreOf}
use Rattle.plan_stage.specs.Given as of
use Rattle.plan_stage.specs.Nodes.{Stands}
use Rattle.plan_stage.proofs.ValidatedStages.{boxed, of-validated}
use Rattle.plan_forward.specs.Amounts.{AreCosts, AreStageAmounts, AreTermsOver}
use Rattle.cut_pool.specs.AtNodes.{IsStateAt}
use Rattle.plan_forward.proofs.Boxes.{boxes-validated}

small_in : (x l u : ℤ) → (pos S *ℤ l) ≤ℤ x → x ≤ℤ (pos S *ℤ u) → nat_abs l ≤ 2 ^ 40 → nat_abs u ≤ 2 ^ 40 → nat_abs x ≤ 2 ^ 64
unfolding S
small_in x l u a b c d = omega (arith, ints, a, b, c, d)

small_times : (z : ℤ) → nat_abs z ≤ 2 ^ 40 → nat_abs (pos S *ℤ z) ≤ 2 ^ 64
unfolding S
small_times z h = omega (arith, ints, h)

row_terms : (states : ℕ) (s : Subproblem) (row : Row) → row_fits states s row ≡ true → terms_fit (length s.decisions) 0 row.decisions ≡ true
row_terms states s row e = grind (arith, nat_tests, common_steps, e)

cost_small : (d : Decision) → decision_fits d ≡ true → nat_abs d.cost ≤ 2 ^ 40
cost_small d e = grind (arith, nat_tests, common_steps, e)

costs_of : (states : ℕ) (s : Subproblem) → costs_fit states s ≡ true → (are_numbers states s.state_costs ≡ true) × (are_numbers (length s.randoms) s.random_costs ≡ true)
costs_of states s e = (grind (arith, common_steps, e), grind (arith, common_steps, e))

each_small : (zs : List ℤ) (count : ℕ) → are_numbers count zs ≡ true → All (λ z. nat_abs z ≤ 2 ^ 40) zs
each_small zs count e = λ k d h. subst (λ (z : ℤ). nat_abs z ≤ 2 ^ 40) (get_or_default zs k (pos 0) d h) (numbers_small zs count k e h)

module _ (p : Validated) (e : is_validated p ≡ true) (m : ℕ) (h : m < length p.parts.nodes) (s : Subproblem) (is : subproblem_of p m ≡ Some s) (u x values : List ℤ)
    (decisions : InBox S (node_at (problem_of p) m).decision_low (node_at (problem_of p) m).decision_high u) (state : IsStateAt p m x) (given : are_values (subproblem_of p m) values ≡ true) where
  own : (n : nodes.Node) × (slice_get p.parts.nodes m ≡ Some n)
  own = some_of p.parts.nodes m h

  stands : Stands p m own.0 s
  stands = record { validated = e; known = h; the_node = own.1; the_subproblem = is }

  of_rows : AreOf s values x
  of_rows = of-validated values x stands given state

  numbered : are_numbers (length s.randoms) values ≡ true
  numbered = subst (λ o. are_values o values ≡ true) is given

  node_is : node_at (problem_of p) m ≡ node_of own.0 s (boxed stands).low (boxed stands).high
  node_is = (boxed stands).fit.is

  decisions_count : length u ≡ length s.decisions
  decisions_count = decisions.count ∙ ap (λ (n : Node). length n.decision_low) node_is ∙ ap (λ (xs : List ℤ). length xs) (decision_low-node_of own.0 s (boxed stands).low (boxed stands).high) ∙ length-map s.decisions (λ (d : Decision). d.low)

  small_decision : (k : ℕ) → k < length u → nat_abs (entry u k) ≤ 2 ^ 64
  small_decision k l =
      let inside : k < length (node_at (problem_of p) m).decision_low = omega (arith, l, decisions.count) in
      let box = boxes-validated p m e h k inside in
      small_in (entry u k) (entry (node_at (problem_of p) m).decision_low k) (entry (node_at (problem_of p) m).decision_high k) (decisions.above k inside) (decisions.below k inside) box.low box.high

  pub numbers_given : AreStageAmounts u x values
  numbers_given = record {
    of_decisions = record {
      few = omega (arith, decisions_count, (few-counts_fit (length p.parts.states) s (counts-subproblem_fits (length p.parts.states) s (boxed stands).fit.subproblem)).1);
      small = λ k d l. subst (λ (z : ℤ). nat_abs z ≤ 2 ^ 64) (get_or_default u k (pos 0) d l) (small_decision k l);
    };
    of_state = record { few = omega (arith, of_rows.given.few_states); small = of_rows.given.small_state };
    of_values = record {
      few = omega (arith, of_rows.given.few_values, length-map values (λ x. pos S *ℤ x));
      small = All-map (λ z. nat_abs z ≤ 2 ^ 64) (λ x. pos S *ℤ x) values (λ k d l. small_times (get_or values k d) (of_rows.given.small_values k d l));
    };
  }

  pub row_over : (i : ℕ) (row : Row) → i < length s.rows → row ≡ get_or s.rows i row → AreTermsOver u x values row
  row_over i row l at = record {
    decisions = subst (λ (k : ℕ). terms_fit k 0 row.decisions ≡ true) (sym decisions_count) (row_terms (length p.parts.states) s row (subst (λ (r : Row). row_fits (length p.parts.states) s r ≡ true) (sym at) (all_at (row_fits (length p.parts.states) s) s.rows i row (rows-subproblem_fits (length p.parts.states) s (boxed stands).fit.subproblem) l)));
    states = (over).over_states;
    randoms = subst (λ (k : ℕ). terms_fit k 0 row.randoms ≡ true) (sym (length-map values (λ x. pos S *ℤ x))) (over).over_randoms;
  }
    where
      over : of.IsOver (length x) (length values) row
      over = subst (λ (r : Row). of.IsOver (length x) (length values) r) (sym at) (of_rows.over i row l)

  pub costs_over : AreCosts u x values s
  costs_over =
      let costs = costs_of (length p.parts.states) s (costs-subproblem_fits (length p.parts.states) s (boxed stands).fit.subproblem) in
      let fits = decisions-subproblem_fits (length p.parts.states) s (boxed stands).fit.subproblem in
      record {
        decisions = record { count = length-map s.decisions (λ (d : Decision). d.cost) ∙ sym decisions_count; small = All-map (λ z. nat_abs z ≤ 2 ^ 40) (λ (d : Decision). d.cost) s.decisions (λ k d l. cost_small (get_or s.decisions k d) (all_at decision_fits s.decisions k d fits l)) };
        states = record { count = sym (ap (λ (n : Node). length n.state_costs) node_is ∙ ap (λ (xs : List ℤ). length xs) (state_costs-node_of own.0 s (boxed stands).low (boxed stands).high)) ∙ sym (shaped-validated p m e h).states ∙ sym state.count; small = each_small s.state_costs (length p.parts.states) costs.0 };
        randoms = record { count = numbers_counted s.random_costs (length s.randoms) costs.1 ∙ sym (numbers_counted values (length s.randoms) numbered) ∙ sym (length-map values (λ x. pos S *ℤ x)); small = each_small s.random_costs (length s.randoms) costs.1 };
      }
