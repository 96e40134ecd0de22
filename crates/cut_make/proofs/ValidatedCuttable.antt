-- An accepted list of certificates at a node of a validated problem makes a cut.
use Rattle.std.proofs.Common.{◌≡◌, ℕ, ◌-◌, ◌^◌, ◌<◌, ◌≤◌, ℤ, pos, ◌*ℤ◌, ◌≤ℤ◌, true, List, [], ◌∷◌, length, get_or, zip, sum, All, nat_lt, arith, sym, ap, subst, ◌∙◌}
use Rattle.std.specs.List.{list_all}
use Rattle.std.proofs.lemmas.Bool.Decides.{nat_tests}
use Rattle.std.proofs.lemmas.List.{length-map}
use Rattle.std.proofs.lemmas.List.Elements.{All-cons, All-nil}
use Rattle.base_num.proofs.Sums.{All_head, All_tail}
use Rattle.base_num.proofs.Tests.{all_at}
use Rattle.problem.specs.declared.parts.Decision.{Decision}
use Rattle.problem.specs.declared.parts.Node as nodes
use Rattle.problem.specs.declared.parts.Row.{Row}
use Rattle.problem.specs.declared.parts.Subproblem.{Subproblem}
use Rattle.problem.specs.Limits.{are_numbers, terms_fit, row_fits, realizations_fit, subproblem_fits}
use Rattle.problem.specs.Validated.{Validated, is_validated}
use Rattle.problem.proofs.ValidatedFacts.{parts-is_validated, few_nodes}
use Rattle.theory.specs.declared.cut.Cut.{Cut}
use Rattle.theory.specs.declared.cut.Certificate.{Certificate}
use Rattle.theory.specs.Problem.{Realization, Successor, Node, node_at, with_weights, realization_weight}
use Rattle.theory.specs.View.{successors_of, node_of, problem_of}
use Rattle.theory.specs.Pools.{pool}
use Rattle.theory.specs.Certificates.{PairsRight, Right}
use Rattle.theory.specs.CutOf.{scale, divisor}
use Rattle.theory.specs.Size.{magnitude, reach, size_of}
use Rattle.theory.proofs.ValidatedParts.{PartsFit, Parts, parts_of_node, weighty, linked, outs_known, numbers_counted}
use Rattle.cut_make.specs.Sized.{Sized}
use Rattle.cut_make.specs.Parts.{lows, highs, Limited, PairsThere, ReducedFit, Cuttable}
use Rattle.cut_make.proofs.Divisor.{divisor_some}
use Rattle.cut_make.proofs.GivenNode.{length-realizations, realizations-given}
use Rattle.cut_make.proofs.InSize.{slope_in, constant_in, reduced_in}
use Rattle.cut_make.proofs.SizeParts.{terms_inside}
use Rattle.cut_make.proofs.CutSlopes.{rows_fit}
use Rattle.cut_make.proofs.Viewed.{reduced-node_of}
use Rattle.cut_make.proofs.Weighted.{reweighted_at, weight-reweighted, some_weight}

-- facts that the limits state
values_counted : (n : nodes.Node) (randoms : ℕ) → realizations_fit randoms n ≡ true → list_all (are_numbers randoms) n.values ≡ true
values_counted n randoms e = grind (arith, nat_tests)

few_decisions : (s : Subproblem) (states : ℕ) → subproblem_fits states s ≡ true → length s.decisions ≤ 200
few_decisions s states e = grind (arith, nat_tests)

row_decisions : (s : Subproblem) (states : ℕ) (row : Row) → row_fits states s row ≡ true → terms_fit (length s.decisions) 0 row.decisions ≡ true
row_decisions s states row e = grind (arith, nat_tests)

row_randoms : (s : Subproblem) (states : ℕ) (row : Row) → row_fits states s row ≡ true → terms_fit (length s.randoms) 0 row.randoms ≡ true
row_randoms s states row e = grind (arith, nat_tests)

below : (k count : ℕ) → nat_lt k count ≡ true → k < count
below k count h = grind (arith, nat_tests)

pub limited-validated : (p : Validated) (m : ℕ) (n : nodes.Node) (s : Subproblem) (low high : List ℤ) → is_validated p ≡ true → PartsFit p m n s low high → Limited n s
limited-validated p m n s low high e fit =
    let states : ℕ = length p.parts.states in
    let l = linked n (length p.parts.nodes) fit.successors in
    record {
      values = (weighty n (length s.randoms) fit.realizations).3;
      randoms = λ k v h. numbers_counted (get_or n.values k v) (length s.randoms) (all_at (are_numbers (length s.randoms)) n.values k v (values_counted n (length s.randoms) fit.realizations) h);
      decisions = few_decisions s states fit.subproblem;
      rows = λ k row h. terms_inside (length s.decisions) 0 (get_or s.rows k row).decisions (row_decisions s states (get_or s.rows k row) (all_at (row_fits states s) s.rows k row (rows_fit s states fit.subproblem) h));
      random_terms = λ k row h. terms_inside (length s.randoms) 0 (get_or s.rows k row).randoms (row_randoms s states (get_or s.rows k row) (all_at (row_fits states s) s.rows k row (rows_fit s states fit.subproblem) h));
      outs = λ k o h. below (get_or s.outs k o) (length s.decisions) (all_at (λ o. nat_lt o (length s.decisions)) s.outs k o (outs_known s states fit.subproblem) h);
      successors = l.1;
      few = omega (arith, l.0, few_nodes p.parts (parts-is_validated p e));
      stop = l.2;
    }

-- pairs that are right are in the pools
pub pairs_there : (pools : List (List Cut)) (ms ws : List ℕ) (cuts : List (List (ℕ × ℕ))) → length ws ≡ length ms → All (PairsRight pools) (zip (successors_of ms ws) cuts) → PairsThere pools ms cuts
pairs_there pools [] ws cuts e h = All-nil (λ (q : ℕ × List (ℕ × ℕ)). All (λ (s : ℕ × ℕ). s.0 < length (pool pools q.0)) q.1)
pairs_there pools (m ∷ ms) [] cuts e h = absurd (omega arith)
pairs_there pools (m ∷ ms) (w ∷ ws) [] e h = All-nil (λ (q : ℕ × List (ℕ × ℕ)). All (λ (s : ℕ × ℕ). s.0 < length (pool pools q.0)) q.1)
pairs_there pools (m ∷ ms) (w ∷ ws) (c ∷ cuts) e h =
    let successor : Successor × List (ℕ × ℕ) = (record { node = m; weight = w }, c) in
    All-cons (λ (q : ℕ × List (ℕ × ℕ)). All (λ (s : ℕ × ℕ). s.0 < length (pool pools q.0)) q.1) (m, c) (zip ms cuts) (All_head (PairsRight pools) successor (zip (successors_of ms ws) cuts) h).there
    (pairs_there pools ms ws cuts (omega arith) (All_tail (PairsRight pools) successor (zip (successors_of ms ws) cuts) h))

-- a list that is right and in range, over the parts_of_node
module _ (n : nodes.Node) (s : Subproblem) (low high : List ℤ) (ws : List ℕ) (pools : List (List Cut)) (list : List Certificate) (limits : Limited n s) (sized : Sized pools n s low ws) where
  positive_weights : All (λ (r : Realization). 1 ≤ r.weight) (with_weights ws (node_of n s low high)).realizations
  unfolding node_of
  positive_weights = λ i d h.
      let inside : i < length ws = subst (λ (k : ℕ). i < k) (realizations-given n s low high ws sized.count sized.values) h in
      subst (λ (r : Realization). 1 ≤ r.weight) (sym (reweighted_at ws n.weights n.values i d inside sized.count sized.values)) (sized.positive i 0 inside)

  some_divisor : 0 < divisor (with_weights ws (node_of n s low high))
  unfolding node_of
  some_divisor = divisor_some pools n s low ws sized

  reduced_fit : Right pools (with_weights ws (node_of n s low high)) list → size_of pools (with_weights ws (node_of n s low high)) list ≤ℤ pos (2 ^ 127 - 1) → All (ReducedFit (scale (node_of n s low high)) pools n s) list
  unfolding node_of
  reduced_fit right size = λ i c h j k.
      let own : Certificate = get_or list i c in
      subst (λ (d : ℤ). (reach (lows s) (highs s) j *ℤ magnitude d) ≤ℤ pos (2 ^ 127 - 1)) (reduced-node_of n s low high pools own limits.successors j)
      (reduced_in pools (with_weights ws (node_of n s low high)) list some_divisor size right.count positive_weights i c h j (subst (λ (m : ℕ). j < m) (sym (length-map s.decisions (λ (d : Decision). d.cost))) k))

  pub cuttable : length low ≡ length s.state_costs → Right pools (with_weights ws (node_of n s low high)) list → size_of pools (with_weights ws (node_of n s low high)) list ≤ℤ pos (2 ^ 127 - 1) → Cuttable pools n s low ws list
  unfolding node_of
  cuttable states right size = record {
    limits = limits;
    sized = sized;
    each = right.count ∙ realizations-given n s low high ws sized.count sized.values ∙ sized.count;
    there = λ i c h. pairs_there pools n.successors n.successor_weights (get_or list i c).cuts limits.successors (right.each i c h).pairs;
    states = states;
    reduced = reduced_fit right size;
    slopes = slope_in pools (with_weights ws (node_of n s low high)) list some_divisor size;
    constant = constant_in pools (with_weights ws (node_of n s low high)) list some_divisor size;
  }

weight_of : (ws : List ℕ) (n : nodes.Node) (s : Subproblem) (low high : List ℤ) → length ws ≡ length n.weights → length n.values ≡ length n.weights → 0 < sum ws → 0 < realization_weight (with_weights ws (node_of n s low high))
unfolding node_of
weight_of ws n s low high c v h = subst (λ (k : ℕ). 0 < k) (sym (weight-reweighted ws n.weights n.values c v)) h

-- the given weights of a node with realizations are not all 0
pub given_weight : (p : Validated) (m : ℕ) (ws : List ℕ) → is_validated p ≡ true → m < length p.parts.nodes → length ws ≡ length (node_at (problem_of p) m).realizations → All (λ w. 1 ≤ w) ws → 0 < realization_weight (with_weights ws (node_at (problem_of p) m))
given_weight p m ws e h count positive =
    let q : Parts p m = parts_of_node p m e h in
    let w = weighty q.node (length q.subproblem.randoms) q.fit.realizations in
    let given : length ws ≡ length q.node.weights = count ∙ ap (λ (x : Node). length x.realizations) q.fit.is ∙ length-realizations q.node q.subproblem q.low q.high w.3 in
    subst (λ (x : Node). 0 < realization_weight (with_weights ws x)) (sym q.fit.is) (weight_of ws q.node q.subproblem q.low q.high given w.3 (some_weight ws (omega (arith, given, w.0)) positive))
