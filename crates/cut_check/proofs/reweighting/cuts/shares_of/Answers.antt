use Rattle.std.proofs.Common.{◌≡◌, ◌∙◌, get_or, sym, subst, None}
use Rattle.theory.specs.Problem.{Node, with_weights}
use Rattle.theory.specs.View.{node_of}
use Rattle.cut_make.specs.Acceptance.{shape_fault, certificates_fault, right_fault}
use Rattle.cut_check.proofs.Accepted.{none-or_then_fault, right-walk}
use Rattle.cut_check.proofs.Reweighted.{right_count}
use Rattle.cut_make.proofs.ValidatedCuttable.{pairs_there}
use Rattle.cut_check.proofs.reweighting.cuts.shares_of.Goals as goal

pub all_shares-requires-clause-there : goal.all_shares-requires-clause-there
unfolding node_of
all_shares-requires-clause-there g c = λ i d h.
    let a = c.args.here.now in
    let k : Node = with_weights a.weights.now (node_of a.node.now a.subproblem.now a.low.now a.high.now) in
    let none : right_fault a.pools.now.lists k c.args.list.now ≡ None = subst (λ (n : Node). right_fault a.pools.now.lists n c.args.list.now ≡ None) c.requires.0 c.in-Ok.ensures in
    let both = none-or_then_fault (shape_fault k c.args.list.now) (certificates_fault a.pools.now.lists k 0 c.args.list.now) none in
    pairs_there a.pools.now.lists a.node.now.successors a.node.now.successor_weights (get_or c.args.list.now i d).cuts c.requires.1.0.successors ((right-walk a.pools.now.lists k c.args.list.now both.0 both.1).each i d h).pairs

pub all_shares-requires-clause-list : goal.all_shares-requires-clause-list
all_shares-requires-clause-list g c =
    let a = c.args.here.now in
    right_count a.pools.now.lists a.node.now a.subproblem.now a.low.now a.high.now a.weights.now c.args.list.now c.requires.1.1.count c.requires.1.1.values
    (subst (λ (n : Node). right_fault a.pools.now.lists n c.args.list.now ≡ None) c.requires.0 c.in-Ok.ensures) ∙ c.requires.1.1.count ∙ sym c.requires.1.1.values
