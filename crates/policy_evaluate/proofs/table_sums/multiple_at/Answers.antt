use Rattle.std.proofs.Common.{◌≡◌, ◌∙◌, ℕ, ◌<◌, length, get_or, map, min, sym, ap, arith}
use Rattle.std.proofs.lemmas.List.{get_or-map, length-map}
use Rattle.policy_evaluate.specs.Multiples.{lcm}
use Rattle.policy_evaluate.proofs.Stopping.{all_positive, multiple_done, multiple_goes}
use Rattle.policy_evaluate.proofs.table_sums.multiple_at.Goals as goal

pub loop-node-preserved : goal.loop-node-preserved
loop-node-preserved c =
    let at = λ (m : ℕ). get_or c.args.table.now m 0 in
    let ms = c.args.nodes.now in
    let i = c.loop-node.node-index in
    let inside : i < length ms = c.loop-node-test.true in
    let there : i < length (map at ms) = omega (arith, inside, length-map ms at) in
    let entry : get_or (map at ms) i 0 ≡ at (get_or ms i 0) = get_or-map at ms i 0 0 inside in
    multiple_goes (map at ms) c.args.cap i c.loop-node.multiple c.capped_multiple-multiple.result c.requires.cap (all_positive at ms c.requires.some) there c.loop-node.invariant
    (c.capped_multiple-multiple.ensures ∙ ap (λ (b : ℕ). min (lcm c.loop-node.multiple b) c.args.cap) (sym entry))

pub returns : goal.returns
returns c =
    let at = λ (m : ℕ). get_or c.args.table.now m 0 in
    let ms = c.args.nodes.now in
    multiple_done (map at ms) c.args.cap c.loop-node.node-index c.loop-node.multiple (omega (arith, c.loop-node-test.false, length-map ms at)) c.loop-node.invariant
