-- The values of a validated problem's nodes.
use Rattle.std.proofs.Common.{◌≡◌, ℕ, ◌<◌, ◌≤◌, ℤ, true, List, [], length, zip, get_or, All, Option, Some, slice_get, option_and_then, ap, sym, subst, ◌∙◌, arith}
use Rattle.std.specs.List.{list_all}
use Rattle.std.proofs.lemmas.Bool.Decides.{nat_tests}
use Rattle.std.proofs.lemmas.Grind.{common_steps}
use Rattle.std.proofs.lemmas.List.{get_or-map, length-map}
use Rattle.std.proofs.lemmas.Option.{get_or_from_slice_get}
use Rattle.std.proofs.lemmas.Slice.Zip.{length-zip}
use Rattle.base_num.proofs.Tests.{all_at}
use Rattle.problem.specs.declared.parts.Node as nodes
use Rattle.problem.specs.declared.parts.Subproblem.{Subproblem}
use Rattle.problem.specs.Limits.{realizations_fit, are_numbers, are_values}
use Rattle.problem.specs.Validated.{Validated, is_validated, subproblem_of}
use Rattle.theory.specs.Problem.{Realization, Node, node_at}
use Rattle.theory.specs.View.{problem_of, realizations_of}
use Rattle.theory.proofs.Views.{realizations-node_of}
use Rattle.theory.proofs.ValidatedParts.{parts_of_node, weighty}
use Rattle.plan_stage.specs.Orders.{node_values_at}

-- the values of the node m: one list per realization, at most 100, each of the node's random variables
pub record NodeValues (p : Validated) (m : ℕ) (values : List (List ℤ)) : Type 0 where
  pub fit : All (λ own. are_values (subproblem_of p m) own ≡ true) values
  pub some : 0 < length values
  pub few : length values ≤ 100
  pub count : length values ≡ length (node_at (problem_of p) m).realizations

numbers : (n : nodes.Node) (randoms : ℕ) → realizations_fit randoms n ≡ true → list_all (are_numbers randoms) n.values ≡ true
numbers n randoms e = grind (arith, nat_tests, common_steps)

pub values_here : (p : Validated) (m : ℕ) → is_validated p ≡ true → m < length p.parts.nodes → NodeValues p m (node_values_at p.parts m)
values_here p m e h =
    let q = parts_of_node p m e h in
    let n : nodes.Node = q.node in
    let s : Subproblem = q.subproblem in
    let w = weighty n (length s.randoms) q.fit.realizations in
    let at : node_values_at p.parts m ≡ n.values = get_or-map (λ (k : nodes.Node). k.values) p.parts.nodes m n [] h ∙ ap (λ (k : nodes.Node). k.values) (get_or_from_slice_get p.parts.nodes m n n q.fit.the_node) in
    let sub : subproblem_of p m ≡ Some s = ap (λ (o : Option nodes.Node). option_and_then (λ (k : nodes.Node). slice_get p.parts.subs k.sub) o) q.fit.the_node ∙ q.fit.the_subproblem in
    let rs : (node_at (problem_of p) m).realizations ≡ realizations_of n.weights n.values = ap (λ (k : Node). k.realizations) q.fit.is ∙ realizations-node_of n s q.low q.high in
    subst (NodeValues p m) (sym at)
    (record {
      fit = λ i d l. subst (λ (o : Option Subproblem). are_values o (get_or n.values i d) ≡ true) (sym sub) (all_at (are_numbers (length s.randoms)) n.values i d (numbers n (length s.randoms) q.fit.realizations) l);
      some = omega (arith, w.0, w.3);
      few = omega (arith, w.1, w.3);
      count = omega (arith, ap (λ (k : List Realization). length k) rs, length-map {B = Realization} (zip n.weights n.values) (λ (r : ℕ × List ℤ). record { weight = r.0; values = r.1 }), length-zip n.weights n.values, w.3);
    })

-- the values that were read
pub values_read : (p : Validated) (m : ℕ) (ns : List nodes.Node) (n : nodes.Node) (values : List (List ℤ)) → m < length p.parts.nodes → ns ≡ p.parts.nodes → values ≡ (get_or ns m n).values → values ≡ node_values_at p.parts m
values_read p m ns n values h all is = is ∙ ap (λ (ks : List nodes.Node). (get_or ks m n).values) all ∙ sym (get_or-map (λ (k : nodes.Node). k.values) p.parts.nodes m n [] h)
