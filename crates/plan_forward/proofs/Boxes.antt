-- The boxes of a node's decisions, and of the states that leave it for its successors.
use Rattle.std.proofs.Common.{◌≡◌, ◌∙◌, ℕ, ◌<◌, ◌≤◌, ◌^◌, ℤ, pos, ◌*ℤ◌, ◌≤ℤ◌, List, [], length, get_or, nat_abs, true, Contains, sym, ap, subst, arith}
use Rattle.std.specs.Int.{int_min, int_max}
use Rattle.std.proofs.lemmas.Bool.Decides.{nat_tests}
use Rattle.std.proofs.lemmas.Grind.{common_steps}
use Rattle.std.proofs.lemmas.Int.{ints, clamps}
use Rattle.std.proofs.lemmas.List.{get_or-map, get_or_default, length-map}
use Rattle.base_num.specs.Sums.{entry}
use Rattle.base_num.proofs.Order.{le_trans, le_scale}
use Rattle.base_num.proofs.Tests.{all_at, some_of}
use Rattle.problem.specs.declared.parts.Decision.{Decision}
use Rattle.problem.specs.declared.parts.Node as nodes
use Rattle.problem.specs.declared.parts.Subproblem.{Subproblem}
use Rattle.problem.specs.Limits.{decision_fits}
use Rattle.problem.specs.Parts.{successors_at}
use Rattle.problem.specs.Validated.{Validated, is_validated}
use Rattle.problem.proofs.SubproblemFacts.{decisions-subproblem_fits}
use Rattle.plan_draw.proofs.Draws.{made_at}
use Rattle.lp_program.specs.declared.fixed.Fx.{Fx}
use Rattle.theory.specs.Problem.{S, Successor, Node, node_at}
use Rattle.theory.specs.Premises.{Nested}
use Rattle.theory.specs.Tree.{InBox, next_state}
use Rattle.theory.specs.View.{node_of, successors_of, problem_of}
use Rattle.theory.proofs.ValidatedParts.{Parts, parts_of_node, linked}
use Rattle.theory.proofs.ValidatedPremises.{shaped-validated}
use Rattle.theory.proofs.Views.{successor_at, length-successors_of, successors-node_of}
use Rattle.plan_forward.specs.Deciding.{decision_from_point, decisions_from_point}
use Rattle.plan_forward.proofs.Decisions.{length-table, entry-table}

-- the box of the decision j of a node: its ends are in order and small
pub record HasBox (n : Node) (j : ℕ) : Type 0 where
  pub ordered : entry n.decision_low j ≤ℤ entry n.decision_high j
  pub low : nat_abs (entry n.decision_low j) ≤ 2 ^ 40
  pub high : nat_abs (entry n.decision_high j) ≤ 2 ^ 40

decision_box : (d : Decision) → decision_fits d ≡ true → (d.low ≤ℤ d.high) × (nat_abs d.low ≤ 2 ^ 40) × (nat_abs d.high ≤ 2 ^ 40)
decision_box d e = (grind (arith, ints, nat_tests, common_steps, e), grind (arith, nat_tests, common_steps, e), grind (arith, nat_tests, common_steps, e))

box-node_of : (n : nodes.Node) (s : Subproblem) (low high : List ℤ) (states : ℕ) (j : ℕ) → j < length s.decisions → ((i : ℕ) (d : Decision) → i < length s.decisions → decision_fits (get_or s.decisions i d) ≡ true) → HasBox (node_of n s low high) j
unfolding node_of
box-node_of n s low high states j h fits =
    let d : Decision = (some_of s.decisions j h).0 in
    let l = get_or-map (λ (d : Decision). d.low) s.decisions j d (pos 0) h in
    let u = get_or-map (λ (d : Decision). d.high) s.decisions j d (pos 0) h in
    let b = decision_box (get_or s.decisions j d) (fits j d h) in
    record {
      ordered = omega (arith, ints, l, u, b.0);
      low = subst (λ (z : ℤ). nat_abs z ≤ 2 ^ 40) (sym l) b.1;
      high = subst (λ (z : ℤ). nat_abs z ≤ 2 ^ 40) (sym u) b.2;
    }

count-node_of : (n : nodes.Node) (s : Subproblem) (low high : List ℤ) → length (node_of n s low high).decision_low ≡ length s.decisions
unfolding node_of
count-node_of n s low high = length-map s.decisions (λ (d : Decision). d.low)

pub boxes-validated : (p : Validated) (m : ℕ) → is_validated p ≡ true → m < length p.parts.nodes → (j : ℕ) → j < length (node_at (problem_of p) m).decision_low → HasBox (node_at (problem_of p) m) j
boxes-validated p m e h j k =
    let q : Parts p m = parts_of_node p m e h in
    let count = ap (λ (n : Node). length n.decision_low) q.fit.is ∙ count-node_of q.node q.subproblem q.low q.high in
    subst (λ (n : Node). HasBox n j) (sym q.fit.is)
    (box-node_of q.node q.subproblem q.low q.high (length p.parts.states) j (omega (arith, k, count))
    (λ i d l. all_at decision_fits q.subproblem.decisions i d (decisions-subproblem_fits (length p.parts.states) q.subproblem q.fit.subproblem) l))

-- the nearest number in a box is in it
boxed_above : (z l h : ℤ) → l ≤ℤ int_max (int_min z h) l
boxed_above z l h = omega (arith, ints, clamps)

boxed_below : (z l h : ℤ) → l ≤ℤ h → int_max (int_min z h) l ≤ℤ h
boxed_below z l h k = omega (arith, ints, clamps, k)

-- decisions are in their boxes
pub decisions_inside : (n : Node) (point : List Fx) → ((j : ℕ) → j < length n.decision_low → HasBox n j) → InBox S n.decision_low n.decision_high (decisions_from_point n point)
decisions_inside n point boxes =
    let f : ℕ → ℤ = λ j. decision_from_point point j (entry n.decision_low j) (entry n.decision_high j) in
    record {
      count = length-table (length n.decision_low) f;
      above = λ j h. subst (λ (z : ℤ). (pos S *ℤ entry n.decision_low j) ≤ℤ z) (sym (entry-table (length n.decision_low) f j h)) (boxed_above _ (pos S *ℤ entry n.decision_low j) (pos S *ℤ entry n.decision_high j));
      below = λ j h. subst (λ (z : ℤ). z ≤ℤ (pos S *ℤ entry n.decision_high j)) (sym (entry-table (length n.decision_low) f j h)) (boxed_below _ (pos S *ℤ entry n.decision_low j) (pos S *ℤ entry n.decision_high j) (le_scale S (entry n.decision_low j) (entry n.decision_high j) (boxes j h).ordered));
    }

-- the state that leaves a node lies in the box of each successor
pub next_inside : (n k : Node) (u : List ℤ) → Nested n k → InBox S n.decision_low n.decision_high u → InBox S k.low k.high (next_state n u)
next_inside n k u nested b = record {
  count = length-map n.outs (λ o. entry u o) ∙ nested.count;
  above = λ j h. subst (λ (z : ℤ). (pos S *ℤ entry k.low j) ≤ℤ z) (sym (at j h)) (le_trans _ (pos S *ℤ entry n.decision_low (get_or n.outs j 0)) _ (le_scale S (entry k.low j) (entry n.decision_low (get_or n.outs j 0)) (nested.lows j h)) (b.above (get_or n.outs j 0) (nested.outs j h)));
  below = λ j h. subst (λ (z : ℤ). z ≤ℤ (pos S *ℤ entry k.high j)) (sym (at j h)) (le_trans _ (pos S *ℤ entry n.decision_high (get_or n.outs j 0)) _ (b.below (get_or n.outs j 0) (nested.outs j h)) (le_scale S (entry n.decision_high (get_or n.outs j 0)) (entry k.high j) (nested.highs j h)));
}
  where
    at : (j : ℕ) → j < length k.low → entry (next_state n u) j ≡ entry u (get_or n.outs j 0)
    at j h = get_or-map (λ o. entry u o) n.outs j 0 (pos 0) (omega (arith, h, nested.count))

pub nested-validated : (p : Validated) (m k : ℕ) → is_validated p ≡ true → m < length p.parts.nodes → Contains (successors_at p.parts m) k → Nested (node_at (problem_of p) m) (node_at (problem_of p) k)
nested-validated p m k e h c =
    let q : Parts p m = parts_of_node p m e h in
    let l = linked q.node (length p.parts.nodes) q.fit.successors in
    let own : successors_at p.parts m ≡ q.node.successors = made_at (λ (n : nodes.Node). n.successors) p.parts.nodes m q.node [] q.fit.the_node in
    let i : ℕ = c.0 in
    let inside : i < length q.node.successors = subst (λ (ks : List ℕ). i < length ks) own c.1 in
    let no_successor : Successor = record { node = 0; weight = 0 } in
    let successors : (node_at (problem_of p) m).successors ≡ successors_of q.node.successors q.node.successor_weights = ap (λ (n : Node). n.successors) q.fit.is ∙ successors-node_of q.node q.subproblem q.low q.high in
    let there : i < length (node_at (problem_of p) m).successors = subst (λ (ls : List Successor). i < length ls) (sym successors) (omega (arith, inside, length-successors_of q.node.successors q.node.successor_weights l.1)) in
    let at : get_or (node_at (problem_of p) m).successors i no_successor ≡ record { node = get_or q.node.successors i 0; weight = get_or q.node.successor_weights i 0 } = ap (λ (ls : List Successor). get_or ls i no_successor) successors ∙ successor_at q.node.successors q.node.successor_weights i no_successor l.1 inside in
    let is : get_or q.node.successors i 0 ≡ k = get_or_default q.node.successors i 0 k inside ∙ ap (λ (ks : List ℕ). get_or ks i k) (sym own) ∙ c.2 in
    subst (λ (x : ℕ). Nested (node_at (problem_of p) m) (node_at (problem_of p) x)) (ap (λ (x : Successor). x.node) at ∙ is) ((shaped-validated p m e h).nested i no_successor there)
