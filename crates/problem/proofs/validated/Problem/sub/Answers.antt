use Rattle.std.proofs.Common.{arith, ◌≡◌, slice_get, Some}
use Rattle.std.proofs.lemmas.Grind.{common_steps}
use Rattle.problem.proofs.ValidatedFacts.{known_subproblem}
use Rattle.problem.proofs.validated.Problem.sub.Goals as goal

pub item_at-requires : goal.item_at-requires
item_at-requires c =
    let i = c.self.inside in
    let here : slice_get i.parts.nodes c.args.node ≡ Some c.item_at-node.result.now = grind (arith, common_steps) in
    let known = known_subproblem (record { parts = i.parts; order = i.order; longest = i.longest; lo = i.lo; hi = i.hi }) c.args.node c.item_at-node.result.now c.self.invariant.0 here in
    grind (arith, common_steps)
