use Rattle.std.proofs.Common.{◌≡◌, ◌∙◌, ap}
use Rattle.problem.specs.declared.parts.ProblemParts.{ProblemParts}
use Rattle.cut_pool.proofs.Weighted.{known, starts}
use Rattle.journal_load.proofs.values.root_values.Goals as goal

pub value_at-requires-clause-known : goal.value_at-requires-clause-known
value_at-requires-clause-known c =
    let nodes : c.as_slice-node-items.result.now ≡ c.args.problem.now.parts.root = c.as_slice-node-items.ensures ∙ ap (λ (r : ProblemParts). r.root) c.parts.ensures.value in
    rw nodes (known c.args.problem.now c.loop-node.node-index 0 c.parts.ensures.validated (rw nodes at c.loop-node-test.true))

pub value_at-requires-clause-inside : goal.value_at-requires-clause-inside
value_at-requires-clause-inside c =
    let nodes : c.as_slice-node-items.result.now ≡ c.args.problem.now.parts.root = c.as_slice-node-items.ensures ∙ ap (λ (r : ProblemParts). r.root) c.parts.ensures.value in
    rw (nodes, c.initial-state.ensures) (starts c.args.problem.now c.loop-node.node-index c.parts.ensures.validated (rw nodes at c.loop-node-test.true))
