-- The node, the subproblem and the box that a problem gives at an index are the parts of that node.
use Rattle.std.proofs.Common.{◌≡◌, ℕ, ◌<◌, ℤ, true, List, length, slice_get, Some, sym, ap, ◌∙◌}
use Rattle.problem.specs.declared.parts.Node as nodes
use Rattle.problem.specs.declared.parts.Subproblem.{Subproblem}
use Rattle.problem.specs.Validated.{Validated, is_validated, subproblem_of}
use Rattle.theory.specs.declared.cut.Cut.{Cut}
use Rattle.theory.specs.Problem.{Node, node_at, with_weights}
use Rattle.theory.specs.View.{node_of, problem_of}
use Rattle.theory.proofs.ValidatedParts.{PartsFit, parts_given, counted, numbers_counted}
use Rattle.cut_make.specs.NodeParts.{NodeParts}
use Rattle.cut_make.specs.Parts.{Limited}
use Rattle.cut_make.specs.Reweighting.{Weighs}
use Rattle.cut_make.proofs.GivenNode.{length-realizations}
use Rattle.cut_make.proofs.ValidatedCuttable.{limited-validated}
use Rattle.cut_make.proofs.ValidatedWithin.{sized-validated}

pub node_parts : (p : Validated) (m : ℕ) (pools : List (List Cut)) (ws : List ℕ) (n : nodes.Node) (s : Subproblem) (low high : List ℤ) → is_validated p ≡ true → m < length p.parts.nodes → length pools ≡ length p.parts.nodes → Weighs (node_at (problem_of p) m) ws
    → slice_get p.parts.nodes m ≡ Some n → subproblem_of p m ≡ Some s → slice_get p.lo m ≡ Some low → slice_get p.hi m ≡ Some high → NodeParts p m pools ws n s low high
node_parts p m pools ws n s low high e h lists w the_node the_subproblem the_low the_high =
    let fit : PartsFit p m n s low high = parts_given p m n s low high e the_node the_subproblem the_low the_high in
    let limits : Limited n s = limited-validated p m n s low high e fit in
    let count = w.count ∙ ap (λ (k : Node). length k.realizations) fit.is ∙ length-realizations n s low high limits.values in
    let states = numbers_counted low (length p.parts.states) fit.lows in
    record {
      validated = e;
      the_node = the_node;
      the_subproblem = the_subproblem;
      the_low = the_low;
      the_high = the_high;
      is = fit.is;
      limits = limits;
      sized = sized-validated p m n s low high ws pools e h fit lists count w.positive w.total;
      states = states;
      costs = states ∙ sym (counted s (length p.parts.states) fit.subproblem).0;
    }

-- the node with weights that are given, over its parts
pub weighted : (p : Validated) (m : ℕ) (pools : List (List Cut)) (ws vs : List ℕ) (n : nodes.Node) (s : Subproblem) (low high : List ℤ) → NodeParts p m pools vs n s low high → vs ≡ ws → with_weights vs (node_of n s low high) ≡ with_weights ws (node_at (problem_of p) m)
weighted p m pools ws vs n s low high parts same = ap (λ (us : List ℕ). with_weights us (node_of n s low high)) same ∙ ap (with_weights ws) (sym parts.is)

-- with its own weights it is itself
pub own_weighted : (p : Validated) (m : ℕ) (pools : List (List Cut)) (ws vs : List ℕ) (n : nodes.Node) (s : Subproblem) (low high : List ℤ) → NodeParts p m pools vs n s low high → vs ≡ ws → with_weights ws (node_at (problem_of p) m) ≡ node_at (problem_of p) m
    → with_weights vs (node_of n s low high) ≡ node_at (problem_of p) m
own_weighted p m pools ws vs n s low high parts same own = weighted p m pools ws vs n s low high parts same ∙ own
