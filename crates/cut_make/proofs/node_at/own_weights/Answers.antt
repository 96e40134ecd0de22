use Rattle.std.proofs.Common.{sym, ap, ◌∙◌}
use Rattle.problem.specs.declared.parts.Node.{Node}
use Rattle.cut_make.proofs.OwnWeights.{own_weights-validated}
use Rattle.cut_make.proofs.node_at.own_weights.Goals as goal

pub returns : goal.returns
returns c =
    let o = own_weights-validated c.args.problem.now c.parts.result.now c.as_slice.result.now c.as_slice-2.result.now c.args.node c.index-as_slice-node.result c.parts.ensures.validated c.parts.ensures.value c.as_slice.ensures c.requires c.index-as_slice-node.is (c.as_slice-2.ensures ∙ ap (λ (k : Node). k.weights) (sym c.index-as_slice-node.is)) in
    record { validated = c.parts.ensures.validated; weighs = o.weighs; own = o.own }
