-- The parts of each node of a validated problem, and the facts that its limits state.
use Rattle.std.proofs.Common.{◌≡◌, ℕ, ◌+◌, ◌<◌, ◌≤◌, ◌^◌, nat_abs, ℤ, pos, true, ◌==◌, List, [], length, get_or, sum, Option, Some, slice_get, nat_lt, option_and_then, sym, ap, ◌∙◌, subst, arith}
use Rattle.std.specs.List.{list_all}
use Rattle.std.proofs.lemmas.Option.{get_or_from_slice_get}
use Rattle.std.proofs.lemmas.Grind.{common_steps}
use Rattle.std.proofs.lemmas.Bool.Decides.{nat_tests}
use Rattle.problem.specs.declared.parts.Node as nodes
use Rattle.problem.specs.declared.parts.Subproblem.{Subproblem}
use Rattle.problem.specs.Limits.{are_numbers, are_small, is_small, are_weights, node_fits, values_fit, realizations_fit, successors_in_order_fit, subproblem_fits, counts_fit, costs_fit}
use Rattle.problem.proofs.SubproblemFacts.{counts-subproblem_fits, costs-subproblem_fits, outs-subproblem_fits}
use Rattle.problem.specs.Validated.{Validated, is_validated, boxes_fit, holds_box, initial_values, leaves_inside, subproblem_of}
use Rattle.problem.proofs.ValidatedFacts.{parts-is_validated, boxes-is_validated, known_subproblem, box_counts, nodes_fit, subproblems_fit}
use Rattle.base_num.proofs.Tests.{and_second, all_at, all_get, some_of}
use Rattle.base_num.specs.Sums.{entry}
use Rattle.theory.specs.Problem.{node_at}
use Rattle.theory.specs.View.{node_of, problem_of}
use Rattle.theory.proofs.Views.{node_at-problem_of}

-- the node m has this node, this subproblem and this box, all within the limits
pub record PartsFit (p : Validated) (m : ℕ) (n : nodes.Node) (s : Subproblem) (low high : List ℤ) : Type 0 where
  pub the_node : slice_get p.parts.nodes m ≡ Some n
  pub the_subproblem : slice_get p.parts.subs n.sub ≡ Some s
  pub the_low : slice_get p.lo m ≡ Some low
  pub the_high : slice_get p.hi m ≡ Some high
  pub is : node_at (problem_of p) m ≡ node_of n s low high
  pub realizations : realizations_fit (length s.randoms) n ≡ true
  pub successors : successors_in_order_fit (length p.parts.nodes) n ≡ true
  pub subproblem : subproblem_fits (length p.parts.states) s ≡ true
  pub lows : are_numbers (length p.parts.states) low ≡ true
  pub highs : are_numbers (length p.parts.states) high ≡ true
  pub leaves : leaves_inside p.parts p.lo p.hi n ≡ true

pub record Parts (p : Validated) (m : ℕ) : Type 0 where
  pub node : nodes.Node
  pub subproblem : Subproblem
  pub low : List ℤ
  pub high : List ℤ
  pub fit : PartsFit p m node subproblem low high

-- the boxes: their entries, what leaves a node, and the initial values
pub record Boxes (p : Validated) : Type 0 where
  pub lows : list_all (are_numbers (length p.parts.states)) p.lo ≡ true
  pub highs : list_all (are_numbers (length p.parts.states)) p.hi ≡ true
  pub leaves : list_all (leaves_inside p.parts p.lo p.hi) p.parts.nodes ≡ true
  pub starts : list_all (holds_box p.lo p.hi (initial_values p.parts) (initial_values p.parts)) p.parts.root ≡ true

pub boxes-validated : (p : Validated) → is_validated p ≡ true → Boxes p
unfolding boxes_fit
boxes-validated p e = let b : boxes_fit p.parts p.lo p.hi ≡ true = boxes-is_validated p e in record {
  lows = grind (arith, nat_tests, b);
  highs = grind (arith, nat_tests, b);
  leaves = grind (arith, nat_tests, b);
  starts = grind (arith, nat_tests, b);
}

pub parts_fit : (p : Validated) (m : ℕ) (n : nodes.Node) (s : Subproblem) (low high : List ℤ) → is_validated p ≡ true → slice_get p.parts.nodes m ≡ Some n → slice_get p.parts.subs n.sub ≡ Some s → slice_get p.lo m ≡ Some low → slice_get p.hi m ≡ Some high → PartsFit p m n s low high
parts_fit p m n s low high e fn fs fl fh =
    let parts = parts-is_validated p e in
    let boxes = boxes-validated p e in
    let fits : node_fits p.parts n ≡ true = all_get (node_fits p.parts) p.parts.nodes m n (nodes_fit p.parts parts) fn in
    let values : values_fit (slice_get p.parts.subs n.sub) n ≡ true = grind (arith, nat_tests) in
    record {
      the_node = fn;
      the_subproblem = fs;
      the_low = fl;
      the_high = fh;
      is = node_at-problem_of p m n s fn fs ∙ ap (λ (k : List ℤ). node_of n s k (get_or p.hi m [])) (get_or_from_slice_get p.lo m low [] fl) ∙ ap (node_of n s low) (get_or_from_slice_get p.hi m high [] fh);
      realizations = subst (λ (o : Option Subproblem). values_fit o n ≡ true) fs values;
      successors = grind (arith, nat_tests);
      subproblem = all_get (subproblem_fits (length p.parts.states)) p.parts.subs n.sub s (subproblems_fit p.parts parts) fs;
      lows = all_get (are_numbers (length p.parts.states)) p.lo m low boxes.lows fl;
      highs = all_get (are_numbers (length p.parts.states)) p.hi m high boxes.highs fh;
      leaves = all_get (leaves_inside p.parts p.lo p.hi) p.parts.nodes m n boxes.leaves fn;
    }

-- each node has its parts_of_node
pub parts_of_node : (p : Validated) (m : ℕ) → is_validated p ≡ true → m < length p.parts.nodes → Parts p m
parts_of_node p m e h =
    let n = some_of p.parts.nodes m h in
    let s = some_of p.parts.subs n.0.sub (known_subproblem p m n.0 e n.1) in
    let counts = box_counts p e in
    let l = some_of p.lo m (omega (arith, counts.0)) in
    let u = some_of p.hi m (omega (arith, counts.1)) in
    record {
      node = n.0;
      subproblem = s.0;
      low = l.0;
      high = u.0;
      fit = parts_fit p m n.0 s.0 l.0 u.0 e n.1 s.1 l.1 u.1;
    }

-- the parts_of_node of a node, as a problem gives them out
pub parts_given : (p : Validated) (m : ℕ) (n : nodes.Node) (s : Subproblem) (low high : List ℤ) → is_validated p ≡ true → slice_get p.parts.nodes m ≡ Some n → subproblem_of p m ≡ Some s → slice_get p.lo m ≡ Some low → slice_get p.hi m ≡ Some high → PartsFit p m n s low high
parts_given p m n s low high e fn fs = parts_fit p m n s low high e fn (ap (λ (o : Option nodes.Node). option_and_then (λ (k : nodes.Node). slice_get p.parts.subs k.sub) o) (sym fn) ∙ fs)

-- facts that the limits state
pub weighty : (n : nodes.Node) (randoms : ℕ) → realizations_fit randoms n ≡ true → (0 < length n.weights) × (length n.weights ≤ 100) × (sum n.weights ≤ 65535) × (length n.values ≡ length n.weights)
weighty n randoms e = grind (arith, nat_tests, common_steps)

pub weights_positive : (n : nodes.Node) (randoms : ℕ) → realizations_fit randoms n ≡ true → are_weights n.weights ≡ true
weights_positive n randoms e = grind (arith, nat_tests)

pub linked : (n : nodes.Node) (count : ℕ) → successors_in_order_fit count n ≡ true → (length n.successors ≤ count) × (length n.successor_weights ≡ length n.successors) × (sum n.successor_weights + n.stop ≤ 65535)
linked n count e = grind (arith, nat_tests, common_steps)

pub successors_known : (n : nodes.Node) (count : ℕ) → successors_in_order_fit count n ≡ true → list_all (λ m. nat_lt m count) n.successors ≡ true
successors_known n count e = grind (arith, nat_tests)

pub successors_positive : (n : nodes.Node) (count : ℕ) → successors_in_order_fit count n ≡ true → are_weights n.successor_weights ≡ true
successors_positive n count e = grind (arith, nat_tests)

pub counted : (s : Subproblem) (states : ℕ) → subproblem_fits states s ≡ true → (length s.state_costs ≡ states) × (length s.outs ≡ states)
counted s states e =
    let costs : costs_fit states s ≡ true = costs-subproblem_fits states s e in
    let counts : counts_fit states s ≡ true = counts-subproblem_fits states s e in
    (grind (arith, nat_tests, costs), grind (arith, nat_tests, counts))

pub outs_known : (s : Subproblem) (states : ℕ) → subproblem_fits states s ≡ true → list_all (λ o. nat_lt o (length s.decisions)) s.outs ≡ true
outs_known s states e = outs-subproblem_fits states s e

pub numbers_counted : (zs : List ℤ) (count : ℕ) → are_numbers count zs ≡ true → length zs ≡ count
numbers_counted zs count e = grind (arith, nat_tests)

pub numbers_small : (zs : List ℤ) (count k : ℕ) → are_numbers count zs ≡ true → k < length zs → nat_abs (entry zs k) ≤ 2 ^ 40
numbers_small zs count k e h =
    let small : is_small (entry zs k) ≡ true = all_at is_small zs k (pos 0) (and_second (length zs == count) (are_small zs) e) h in
    grind (arith, nat_tests)
