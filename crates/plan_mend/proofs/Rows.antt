-- How many rows a node has.
use Rattle.std.proofs.Common.{◌≡◌, ℕ, ◌<◌, ◌≤◌, true, List, length, slice_get, Option, Some, option_and_then, sym, ap, subst}
use Rattle.problem.specs.declared.parts.Node as nodes
use Rattle.problem.specs.declared.parts.Row.{Row}
use Rattle.problem.specs.declared.parts.Subproblem.{Subproblem}
use Rattle.problem.specs.Validated.{Validated, is_validated, subproblem_of}
use Rattle.problem.proofs.SubproblemFacts.{counts-subproblem_fits, few-counts_fit}
use Rattle.theory.specs.Problem.{node_at}
use Rattle.theory.specs.View.{problem_of}
use Rattle.theory.proofs.ValidatedParts.{Parts, parts_of_node}
use Rattle.plan_answer.proofs.ClassifiedInfeasible.{rows_at}

same_sub : (s t : Subproblem) (o : Option Subproblem) → o ≡ Some s → o ≡ Some t → s ≡ t
same_sub s t o e f = cc

module _ (p : Validated) (e : is_validated p ≡ true) (m : ℕ) (h : m < length p.parts.nodes) (s : Subproblem) (is : subproblem_of p m ≡ Some s) where
  pub own_is : s ≡ (parts_of_node p m e h).subproblem
  own_is =
      let q : Parts p m = parts_of_node p m e h in
      same_sub s q.subproblem (subproblem_of p m) is (subst (λ (o : Option nodes.Node). option_and_then (λ (k : nodes.Node). slice_get p.parts.subs k.sub) o ≡ Some q.subproblem) (sym q.fit.the_node) q.fit.the_subproblem)

  pub few_rows : length s.rows ≤ 200
  few_rows =
      let q : Parts p m = parts_of_node p m e h in
      subst (λ (t : Subproblem). length t.rows ≤ 200) (sym own_is) (few-counts_fit (length p.parts.states) q.subproblem (counts-subproblem_fits (length p.parts.states) q.subproblem q.fit.subproblem)).0

  pub rows_counted : length s.rows ≡ length (node_at (problem_of p) m).rows
  rows_counted = ap (λ (rows : List Row). length rows) (rows_at p m s h is)
