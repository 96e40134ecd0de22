use Rattle.std.proofs.Common.{◌≡◌, ◌<◌, ◌==◌, ℕ, length, false, slice_get, sym, ap, ◌∙◌, arith}
use Rattle.std.proofs.lemmas.Bool.Decides.{nat_tests}
use Rattle.plan_draw.specs.Picked.{picked}
use Rattle.plan_draw.specs.Drawn.{choices, word_in}
use Rattle.plan_draw.proofs.Draws.{node_linked, next_is, next_inside}
use Rattle.plan_draw.proofs.paths.next_node.Goals as goal

some : (weights successors : ℕ) → weights ≡ successors → (successors == 0) ≡ false → 0 < weights
some weights successors e h = grind (arith, nat_tests)

pub successor-requires-clause-some : goal.successor-requires-clause-some
successor-requires-clause-some c =
    let linked = node_linked c.args.problem.now c.args.node c.node_of-node.result.now c.node_of-node.ensures.validated c.node_of-node.ensures.node in
    some (length c.node_of-node.result.now.successor_weights) (length c.node_of-node.result.now.successors) linked.counted (sym c.is_empty.ensures ∙ c.if-is_empty.false)

pub successor-requires-clause-weights : goal.successor-requires-clause-weights
successor-requires-clause-weights c = (node_linked c.args.problem.now c.args.node c.node_of-node.result.now c.node_of-node.ensures.validated c.node_of-node.ensures.node).weights

pub successor-requires-clause-total : goal.successor-requires-clause-total
successor-requires-clause-total c = (node_linked c.args.problem.now c.args.node c.node_of-node.result.now c.node_of-node.ensures.validated c.node_of-node.ensures.node).total

pub returns-clause-value : goal.returns-clause-value
returns-clause-value c =
    c.successor.ensures ∙ ap (λ (w : ℕ). slice_get c.node_of-node.result.now.successors (picked (choices c.node_of-node.result.now) w)) c.next.ensures.word
    ∙ next_is c.args.problem.now c.args.node c.node_of-node.result.now (word_in c.args.words.now c.args.words.now.word_pos) c.node_of-node.ensures.node

pub returns-clause-inside : goal.returns-clause-inside
returns-clause-inside c =
    let linked = node_linked c.args.problem.now c.args.node c.node_of-node.result.now c.node_of-node.ensures.validated c.node_of-node.ensures.node in
    next_inside c.args.problem.now c.node_of-node.result.now (picked (choices c.node_of-node.result.now) c.next.result) c.successor.result linked c.successor.ensures
