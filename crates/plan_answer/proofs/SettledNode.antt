-- The premises under which certificates are settled at a node of a validated problem, and the certificates there.
use Rattle.std.proofs.Common.{◌≡◌, ◌∙◌, ℕ, ◌<◌, ℤ, true, List, length, get_or, map, drop, refl, All, Result, Ok, Err, IfOk, slice_get, Some, nat_lt, sym, ap, ap₂, subst, arith}
use Rattle.std.proofs.lemmas.Bool.Decides.{nat_tests}
use Rattle.std.proofs.lemmas.Option.{slice_get-get_or}
use Rattle.base_num.proofs.Tests.{all_at}
use Rattle.problem.specs.declared.parts.ProblemParts.{ProblemParts}
use Rattle.problem.specs.declared.parts.Node as nodes
use Rattle.problem.specs.declared.parts.Subproblem.{Subproblem}
use Rattle.problem.specs.Validated.{Validated, is_validated, subproblem_of}
use Rattle.theory.specs.declared.cut.Cut.{Cut}
use Rattle.theory.specs.declared.cut.Certificate.{Certificate}
use Rattle.theory.specs.Problem.{Node, node_at}
use Rattle.theory.specs.Pools.{pool}
use Rattle.theory.specs.View.{node_of, successors_of, problem_of}
use Rattle.theory.specs.Certificates.{RightAt}
use Rattle.theory.proofs.ValidatedParts.{PartsFit, Parts, parts_of_node, parts_given, linked, successors_known}
use Rattle.theory.proofs.ValidatedPremises.{leads-validated, successors-validated}
use Rattle.cut_pool.specs.AtNodes.{PoolsFit}
use Rattle.lp_program.specs.declared.fixed.Fx.{Fx}
use Rattle.lp_program.specs.declared.programs.Answer.{Answer}
use Rattle.cut_make.specs.Acceptance.{fault_of, range_fault}
use Rattle.plan_answer.specs.Settling.{settled_rows, settled_successors, settled_duals, used_duals, settled_of}
use Rattle.plan_answer.proofs.SettledRight.{HasCuts, settled_used, settled_right, settled_fault}

-- a property that follows for the value of a result
pub if_ok : {A E : Type 0} (P Q : A → Type 0) (r : Result A E) → ((x : A) → P x → Q x) → IfOk r P → IfOk r Q
if_ok P Q (Ok x) f h = f x h
if_ok P Q (Err e) f h = h

-- each successor has a weight and a cut
pub have_cuts : (p : Validated) (m : ℕ) (pools : List (List Cut)) → is_validated p ≡ true → m < length p.parts.nodes → PoolsFit p pools → All (HasCuts pools) (node_at (problem_of p) m).successors
have_cuts p m pools e h fit = λ i d l. ((leads-validated p m e h i d l).0, fit.some (get_or (node_at (problem_of p) m).successors i d).node (successors-validated p m e h i d l))

pub only_range-validated : (p : Validated) (m : ℕ) (pools : List (List Cut)) (answers : List Answer) → is_validated p ≡ true → m < length p.parts.nodes → PoolsFit p pools
    → length answers ≡ length (node_at (problem_of p) m).realizations → fault_of pools (node_at (problem_of p) m) (map (settled_of pools (node_at (problem_of p) m)) answers) ≡ range_fault pools (node_at (problem_of p) m) (map (settled_of pools (node_at (problem_of p) m)) answers)
only_range-validated p m pools answers e h fit = settled_fault pools (node_at (problem_of p) m) answers (have_cuts p m pools e h fit)

-- the certificate that is made of a node's parts_of_node
made_of : (pools : List (List Cut)) (n : nodes.Node) (s : Subproblem) (low high : List ℤ) (duals : List Fx)
    → record { rows = settled_rows 0 s.rows duals; cuts = settled_successors pools (successors_of n.successors n.successor_weights) (drop (length s.rows) duals) } ≡ settled_duals pools (node_of n s low high) duals
unfolding node_of
made_of pools n s low high duals = refl

module _ (p : Validated) (parts : ProblemParts) (ns : List nodes.Node) (m : ℕ) (n : nodes.Node) (s : Subproblem) (pools : List (List Cut)) (e : is_validated p ≡ true) (is : parts ≡ p.parts) (all : ns ≡ parts.nodes) (h : m < length p.parts.nodes) (at : n ≡ get_or ns m n)
    (sub : subproblem_of p m ≡ Some s) (fit : PoolsFit p pools) where
  the_node : slice_get p.parts.nodes m ≡ Some n
  the_node = slice_get-get_or p.parts.nodes m n h ∙ ap Some (sym (at ∙ ap (λ (ks : List nodes.Node). get_or ks m n) (all ∙ ap (λ (r : ProblemParts). r.nodes) is)))

  abbrev the_low : List ℤ
  the_low = (parts_of_node p m e h).low

  abbrev the_high : List ℤ
  the_high = (parts_of_node p m e h).high

  given : PartsFit p m n s the_low the_high
  given = let q : Parts p m = parts_of_node p m e h in parts_given p m n s q.low q.high e the_node sub q.fit.the_low q.fit.the_high

  pub weights_there : length n.successor_weights ≡ length n.successors
  weights_there = (linked n (length p.parts.nodes) given.successors).1

  below : (k : ℕ) → nat_lt k (length p.parts.nodes) ≡ true → k < length p.parts.nodes
  below k h = grind (arith, nat_tests)

  known : (i d : ℕ) → i < length n.successors → get_or n.successors i d < length p.parts.nodes
  known i d l = below (get_or n.successors i d) (all_at (λ m. nat_lt m (length p.parts.nodes)) n.successors i d (successors_known n (length p.parts.nodes) given.successors) l)

  pub nodes_there : All (λ m. m < length pools) n.successors
  nodes_there = λ i d l. omega (arith, known i d l, fit.lists)

  pub cuts_there : All (λ m. 0 < length (pool pools m)) n.successors
  cuts_there = λ i d l. fit.some (get_or n.successors i d) (known i d l)

  here : All (HasCuts pools) (node_at (problem_of p) m).successors
  here = have_cuts p m pools e h fit

  module _ (answer : Answer) (used : List Fx) (c : Certificate) (duals : used ≡ used_duals answer.kind answer.duals)
      (made : c ≡ record { rows = settled_rows 0 s.rows used; cuts = settled_successors pools (successors_of n.successors n.successor_weights) (drop (length s.rows) used) }) where
    pub is_settled : c ≡ settled_of pools (node_at (problem_of p) m) answer
    is_settled =
        made ∙ made_of pools n s the_low the_high used
        ∙ ap₂ (λ (x : Node) (ds : List Fx). settled_duals pools x ds) (sym given.is) duals
        ∙ settled_used pools (node_at (problem_of p) m) answer here

    pub is_right : RightAt pools (node_at (problem_of p) m) c
    is_right = subst (RightAt pools (node_at (problem_of p) m)) (sym is_settled) (settled_right pools (node_at (problem_of p) m) answer here)
