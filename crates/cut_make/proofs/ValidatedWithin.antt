-- The parts of a node of a validated problem meet the premises of the walk.
use Rattle.std.proofs.Common.{◌≡◌, ℕ, ◌<◌, ◌≤◌, ℤ, true, List, length, get_or, All, sum, slice_get, Some, nat_lt, sym, ap, ◌∙◌, subst, arith}
use Rattle.std.proofs.lemmas.Bool.Decides.{nat_tests}
use Rattle.std.proofs.lemmas.Option.{slice_get-get_or}
use Rattle.problem.specs.declared.parts.ProblemParts.{ProblemParts}
use Rattle.problem.specs.declared.parts.Node.{Node}
use Rattle.problem.specs.declared.parts.Subproblem.{Subproblem}
use Rattle.problem.specs.Limits.{subproblem_fits}
use Rattle.problem.specs.Validated.{Validated, is_validated, subproblem_of}
use Rattle.problem.proofs.ValidatedFacts.{parts-is_validated, few_nodes, few_states}
use Rattle.base_num.proofs.Tests.{all_at}
use Rattle.theory.proofs.ValidatedParts.{PartsFit, parts_given, weighty, linked, successors_known, numbers_counted}
use Rattle.theory.specs.declared.cut.Cut.{Cut}
use Rattle.theory.specs.Problem as problems
use Rattle.theory.specs.Problem.{successor_weight, weight_of_successors}
use Rattle.theory.specs.View.{node_of, successors_of}
use Rattle.theory.proofs.ValidatedPremises.{shaped-validated}
use Rattle.cut_make.specs.Sized.{Sized}
use Rattle.cut_make.specs.Within.{IsWithinLimits}

few_rows : (s : Subproblem) (states : ℕ) → subproblem_fits states s ≡ true → length s.rows ≤ 200
few_rows s states e = grind (arith, nat_tests)

pub within-validated : (p : Validated) (m : ℕ) (n : Node) (s : Subproblem) (low high : List ℤ) → is_validated p ≡ true → PartsFit p m n s low high → IsWithinLimits (length p.parts.nodes) n s
within-validated p m n s low high e fit =
    let w = weighty n (length s.randoms) fit.realizations in
    let l = linked n (length p.parts.nodes) fit.successors in
    record {
      values = w.3;
      realizations = w.1;
      rows = few_rows s (length p.parts.states) fit.subproblem;
      successor_weights = l.1;
      successors = omega (arith, l.0, few_nodes p.parts (parts-is_validated p e));
      known = λ k d h. below (get_or n.successors k d) (all_at (λ m. nat_lt m (length p.parts.nodes)) n.successors k d (successors_known n (length p.parts.nodes) fit.successors) h);
    }
  where
    below : (k : ℕ) → nat_lt k (length p.parts.nodes) ≡ true → k < length p.parts.nodes
    below k h = grind (arith, nat_tests)

-- the node that a problem gives out of its list
pub node_read : (p : Validated) (parts : ProblemParts) (ns : List Node) (m : ℕ) (n : Node) → parts ≡ p.parts → ns ≡ parts.nodes → m < length p.parts.nodes → n ≡ get_or ns m n → slice_get p.parts.nodes m ≡ Some n
node_read p parts ns m n is list h at = slice_get-get_or p.parts.nodes m n h ∙ ap Some (sym (at ∙ ap (λ (ks : List Node). get_or ks m n) (list ∙ ap (λ (r : ProblemParts). r.nodes) is)))

-- the parts that a problem gives out
pub parts_read : (p : Validated) (parts : ProblemParts) (ns : List Node) (m : ℕ) (n : Node) (s : Subproblem) (low high : List ℤ) → is_validated p ≡ true → parts ≡ p.parts → ns ≡ parts.nodes → m < length p.parts.nodes → n ≡ get_or ns m n
    → subproblem_of p m ≡ Some s → slice_get p.lo m ≡ Some low → slice_get p.hi m ≡ Some high → PartsFit p m n s low high
parts_read p parts ns m n s low high e is list h at = parts_given p m n s low high e (node_read p parts ns m n is list h at)

scale : (n : Node) (s : Subproblem) (low high : List ℤ) → 0 < successor_weight (node_of n s low high) → 0 < weight_of_successors n.stop (successors_of n.successors n.successor_weights)
unfolding node_of
scale n s low high h = h

-- with given weights, the size can be taken
pub sized-validated : (p : Validated) (m : ℕ) (n : Node) (s : Subproblem) (low high : List ℤ) (ws : List ℕ) (pools : List (List Cut)) → is_validated p ≡ true → m < length p.parts.nodes → PartsFit p m n s low high → length pools ≡ length p.parts.nodes
    → length ws ≡ length n.weights → All (λ w. 1 ≤ w) ws → sum ws ≤ 65535 → Sized pools n s low ws
sized-validated p m n s low high ws pools e h fit lists count positive total =
    let w = weighty n (length s.randoms) fit.realizations in
    let l = linked n (length p.parts.nodes) fit.successors in
    let k : IsWithinLimits (length p.parts.nodes) n s = within-validated p m n s low high e fit in
    record {
      values = w.3;
      count = count;
      realizations = w.1;
      some = w.0;
      positive = positive;
      total = total;
      successor_weights = l.1;
      few = omega (arith, k.successors);
      stop = l.2;
      scale = scale n s low high (subst (λ (x : problems.Node). 0 < successor_weight x) fit.is (shaped-validated p m e h).successors);
      known = subst (λ (c : ℕ). All (λ m. m < c) n.successors) (sym lists) k.known;
      states = subst (λ (c : ℕ). c ≤ 50) (sym (numbers_counted low (length p.parts.states) fit.lows)) (few_states p.parts (parts-is_validated p e));
      subproblem = subst (λ (c : ℕ). subproblem_fits c s ≡ true) (sym (numbers_counted low (length p.parts.states) fit.lows)) fit.subproblem;
    }

-- the walk needs less
pub within-sized : (pools : List (List Cut)) (n : Node) (s : Subproblem) (low : List ℤ) (ws : List ℕ) → Sized pools n s low ws → IsWithinLimits (length pools) n s
within-sized pools n s low ws z = record {
  values = z.values;
  realizations = z.realizations;
  rows = few_rows s (length low) z.subproblem;
  successor_weights = z.successor_weights;
  successors = z.few;
  known = z.known;
}
