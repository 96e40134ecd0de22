-- The base certificates that are made are those of the node.
use Rattle.std.proofs.Common.{◌≡◌, ℕ, ℤ, true, List, Some, slice_get, sym, ap, ◌∙◌}
use Rattle.problem.specs.declared.parts.Node as nodes
use Rattle.problem.specs.declared.parts.Subproblem.{Subproblem}
use Rattle.problem.specs.Validated.{Validated, is_validated, subproblem_of}
use Rattle.theory.specs.Problem.{node_at}
use Rattle.theory.specs.View.{problem_of}
use Rattle.theory.specs.Base.{base_list}
use Rattle.theory.proofs.ValidatedParts.{PartsFit, parts_given}
use Rattle.cut_check.specs.Bases.{certificate_of}
use Rattle.cut_make.specs.Parts.{repeated}
use Rattle.cut_check.proofs.Basing.{made_list}
use Rattle.cut_make.proofs.GivenNode.{length-realizations}
use Rattle.cut_make.proofs.ValidatedWithin.{within-validated}

pub list_made : (p : Validated) (m : ℕ) (n : nodes.Node) (s : Subproblem) (low high : List ℤ) → is_validated p ≡ true → slice_get p.parts.nodes m ≡ Some n → subproblem_of p m ≡ Some s → slice_get p.lo m ≡ Some low → slice_get p.hi m ≡ Some high
    → repeated (certificate_of n s) n.weights ≡ base_list (node_at (problem_of p) m)
list_made p m n s low high e fn fs fl fh =
    let fit : PartsFit p m n s low high = parts_given p m n s low high e fn fs fl fh in
    let w = within-validated p m n s low high e fit in
    made_list n s low high n.weights w.successor_weights (sym (length-realizations n s low high w.values)) ∙ ap base_list (sym fit.is)
