use Rattle.std.proofs.Common.{◌≡◌, Some, slice_get, arith}
use Rattle.std.proofs.lemmas.Grind.{common_steps}
use Rattle.problem.proofs.Bounds.{successors_at_most}
use Rattle.problem.proofs.validated.Problem.q.Goals as goal

pub successor_total-requires : goal.successor_total-requires
successor_total-requires c =
    let p = c.args.self.now in
    let here : slice_get p.parts.nodes c.args.node ≡ Some c.item_at-node.result.now = grind (arith, common_steps) in
    let most = successors_at_most p c.args.node c.item_at-node.result.now c.parts.ensures.validated here in
    grind (arith, common_steps)
