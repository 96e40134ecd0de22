use Rattle.std.proofs.Common.{◌≡◌, ◌∙◌, true, ℕ, ℤ, List, [], Option, ap, sym, subst}
use Rattle.std.proofs.lemmas.Option.{get_or_from_slice_get}
use Rattle.problem.specs.declared.parts.Subproblem.{Subproblem}
use Rattle.problem.specs.Limits.{are_numbers, are_values}
use Rattle.theory.specs.Problem.{S, Node, node_at}
use Rattle.theory.specs.Tree.{InBox}
use Rattle.theory.specs.View.{problem_of}
use Rattle.theory.proofs.Views.{low-node_of, high-node_of}
use Rattle.theory.proofs.ValidatedParts.{parts_of_node}
use Rattle.test_measure.proofs.stage_moments.checked.Goals as goal

pub returns-then-is_inside : goal.returns-then-is_inside
returns-then-is_inside c =
    let p = c.args.problem.now in
    let m = c.args.node in
    let q = parts_of_node p m c.parts.ensures.validated c.requires in
    let low = sym (get_or_from_slice_get p.lo m c.lo.result.now [] c.lo.ensures) ∙ get_or_from_slice_get p.lo m q.low [] q.fit.the_low ∙ sym (ap (λ (n : Node). n.low) q.fit.is ∙ low-node_of q.node q.subproblem q.low q.high) in
    let high = sym (get_or_from_slice_get p.hi m c.hi.result.now [] c.hi.ensures) ∙ get_or_from_slice_get p.hi m q.high [] q.fit.the_high ∙ sym (ap (λ (n : Node). n.high) q.fit.is ∙ high-node_of q.node q.subproblem q.low q.high) in
    let numbers = subst (λ (k : ℕ). are_numbers k c.args.values.now ≡ true) c.len.ensures (sym c.are_numbers-fits.ensures ∙ c.if-fits.true) in
    record {
      known = c.requires;
      values = subst (λ (s : Option Subproblem). are_values s c.args.values.now ≡ true) (sym c.sub.ensures) numbers;
      state = subst (λ (xs : List ℤ). InBox S xs (node_at (problem_of p) m).high c.args.state) low
          (subst (λ (xs : List ℤ). InBox S c.lo.result.now xs c.args.state) high
          (subst (λ (xs : List ℤ). InBox S c.lo.result.now c.hi.result.now xs) c.as_slice.ensures (c.is_inside.ensures c.if-is_inside.true)));
    }
