use Rattle.std.proofs.Common.{ℕ, ◌+◌, ◌*◌, ◌∙◌, ap, arith}
use Rattle.serde_json.specs.View.{view, members_view}
use Rattle.plan_draw.specs.Drawn.{word_in}
use Rattle.hydro_gen.specs.Nodes.{generated_node}
use Rattle.hydro_gen.proofs.Orders.{node_grown}
use Rattle.hydro_gen.proofs.Streams.{later, same_words}
use Rattle.hydro_gen.proofs.nodes.nodes.Goals as goal

pub loop-number-preserved : goal.loop-number-preserved
loop-number-preserved c =
    let first = c.args.words.now in
    let i = c.loop-number.number in
    let been = c.loop-number.invariant.words in
    record {
      words = later first c.loop-number.words c.node.new.words (i * (10 * c.args.reservoirs)) (10 * c.args.reservoirs) ((i + 1) * (10 * c.args.reservoirs)) been c.in_ok-value.ensures.later (omega arith);
      members = node_grown (generated_node (word_in first) c.args.stages c.args.reservoirs) i (members_view c.loop-number.map.entries) (members_view c.put.new.map.entries) c.text_of.result.now (view c.in_ok-value.value)
          (omega arith) c.in_ok-put.ensures.ok (c.text_of.ensures ∙ c.node_name-name.ensures.value)
          (c.in_ok-value.ensures.value ∙ ap (λ (w : ℕ → ℕ). generated_node w c.args.stages c.args.reservoirs i) (same_words first c.loop-number.words (i * (10 * c.args.reservoirs)) been)) c.loop-number.invariant.members;
    }
