-- A decision of a node's subproblem as the node shows it.
use Rattle.std.proofs.Common.{◌≡◌, ◌∙◌, ℕ, zero, suc, ◌<◌, ◌≤◌, ◌^◌, Bool, true, false, nat_lt, nat_abs, ℤ, pos, List, [], ◌∷◌, length, get_or, map, Some, refl, sym, ap, ap₂, subst, arith}
use Rattle.std.specs.List.{list_all}
use Rattle.std.proofs.lemmas.Bool.Decides.{nat_tests}
use Rattle.std.proofs.lemmas.Grind.{common_steps}
use Rattle.std.proofs.lemmas.List.{length-map, get_or_past}
use Rattle.base_num.specs.Sums.{entry}
use Rattle.problem.specs.declared.parts.Decision.{Decision}
use Rattle.problem.specs.declared.parts.Subproblem.{Subproblem}
use Rattle.problem.specs.Limits.{decision_fits}
use Rattle.problem.specs.Validated.{Validated, is_validated, subproblem_of}
use Rattle.problem.proofs.SubproblemFacts.{decisions-subproblem_fits}
use Rattle.base_num.proofs.Tests.{all_at}
use Rattle.theory.specs.Problem.{Node, node_at}
use Rattle.theory.specs.View.{problem_of}
use Rattle.theory.proofs.ValidatedParts.{Parts, parts_of_node}
use Rattle.theory.proofs.Views.{decision_low-node_of, decision_high-node_of, costs-node_of}
use Rattle.plan_forward.proofs.ByAnswers.{Viewed, viewed}
use Rattle.plan_mend.specs.Stages.{no_decision}
use Rattle.plan_mend.proofs.Rows.{own_is}

get_or_mapped : {A : Type 0} (f : A → ℤ) (xs : List A) (j : ℕ) (d : A) → get_or (map f xs) j (f d) ≡ f (get_or xs j d)
get_or_mapped f [] j d = refl
get_or_mapped f (x ∷ xs) zero d = refl
get_or_mapped f (x ∷ xs) (suc j) d = get_or_mapped f xs j d

cost_fits : (d : Decision) → decision_fits d ≡ true → nat_abs d.cost ≤ 2 ^ 40
cost_fits d e = grind (arith, nat_tests, common_steps, e)

module _ (p : Validated) (m : ℕ) (s : Subproblem) (h : m < length p.parts.nodes) (is : subproblem_of p m ≡ Some s) where
  view : Viewed p m s
  view = viewed p m s h is

  pub lows_are : (node_at (problem_of p) m).decision_low ≡ map (λ (d : Decision). d.low) s.decisions
  lows_are = ap (λ (n : Node). n.decision_low) view.is ∙ decision_low-node_of view.node s view.low view.high

  pub highs_are : (node_at (problem_of p) m).decision_high ≡ map (λ (d : Decision). d.high) s.decisions
  highs_are = ap (λ (n : Node). n.decision_high) view.is ∙ decision_high-node_of view.node s view.low view.high

  pub costs_are : (node_at (problem_of p) m).costs ≡ map (λ (d : Decision). d.cost) s.decisions
  costs_are = ap (λ (n : Node). n.costs) view.is ∙ costs-node_of view.node s view.low view.high

  pub bounds_counted : length (node_at (problem_of p) m).decision_high ≡ length (node_at (problem_of p) m).decision_low
  bounds_counted =
      ap (λ (xs : List ℤ). length xs) highs_are ∙ length-map s.decisions (λ (d : Decision). d.high) ∙ sym (length-map s.decisions (λ (d : Decision). d.low))
      ∙ sym (ap (λ (xs : List ℤ). length xs) lows_are)

  fits : is_validated p ≡ true → list_all decision_fits s.decisions ≡ true
  fits e = let q : Parts p m = parts_of_node p m e h in subst (λ (t : Subproblem). list_all decision_fits t.decisions ≡ true) (sym (own_is p e m h s is)) (decisions-subproblem_fits (length p.parts.states) q.subproblem q.fit.subproblem)

  -- the entries of a decision
  module _ (ds : List Decision) (j : ℕ) (all : ds ≡ s.decisions) where
    entry_is : (f : Decision → ℤ) (xs : List ℤ) → xs ≡ map f s.decisions → f no_decision ≡ pos 0 → f (get_or ds j no_decision) ≡ entry xs j
    entry_is f xs e zero_is =
        ap (λ (k : List Decision). f (get_or k j no_decision)) all ∙ sym (get_or_mapped f s.decisions j no_decision)
        ∙ ap₂ (λ (ys : List ℤ) (z : ℤ). get_or ys j z) (sym e) zero_is

    pub low_is : (get_or ds j no_decision).low ≡ entry (node_at (problem_of p) m).decision_low j
    low_is = entry_is (λ (d : Decision). d.low) (node_at (problem_of p) m).decision_low lows_are refl

    pub high_is : (get_or ds j no_decision).high ≡ entry (node_at (problem_of p) m).decision_high j
    high_is = entry_is (λ (d : Decision). d.high) (node_at (problem_of p) m).decision_high highs_are refl

    pub cost_is : (get_or ds j no_decision).cost ≡ entry (node_at (problem_of p) m).costs j
    cost_is = entry_is (λ (d : Decision). d.cost) (node_at (problem_of p) m).costs costs_are refl

    pub cost_small : is_validated p ≡ true → nat_abs (get_or ds j no_decision).cost ≤ 2 ^ 40
    cost_small e = subst (λ (k : List Decision). nat_abs (get_or k j no_decision).cost ≤ 2 ^ 40) (sym all) (by (nat_lt j (length s.decisions)) refl)
      where
        by : (b : Bool) → nat_lt j (length s.decisions) ≡ b → nat_abs (get_or s.decisions j no_decision).cost ≤ 2 ^ 40
        by true l = cost_fits (get_or s.decisions j no_decision) (all_at decision_fits s.decisions j no_decision (fits e) (grind (arith, nat_tests)))
        by false l = let none : get_or s.decisions j no_decision ≡ no_decision = get_or_past s.decisions j no_decision (grind (arith, nat_tests)) in subst (λ (d : Decision). nat_abs d.cost ≤ 2 ^ 40) (sym none) (omega arith)
