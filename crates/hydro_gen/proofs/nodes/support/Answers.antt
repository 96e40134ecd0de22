use Rattle.std.proofs.Common.{ℕ, ◌≡◌, ◌+◌, ◌∙◌, ap, arith}
use Rattle.serde_json.specs.View.{view, members_view}
use Rattle.plan_draw.specs.Drawn.{word_in}
use Rattle.hydro_form.specs.Listed.{whole_data}
use Rattle.hydro_gen.specs.Nodes.{inflow}
use Rattle.hydro_gen.proofs.Orders.{reservoir_grown}
use Rattle.hydro_gen.proofs.Streams.{later, same_words, place_of}
use Rattle.hydro_gen.proofs.nodes.support.Goals as goal

pub loop-reservoir-preserved : goal.loop-reservoir-preserved
loop-reservoir-preserved c =
    let first = c.args.words.now in
    let j = c.loop-reservoir.reservoir in
    let value = λ (k : ℕ). whole_data (inflow c.args.kind (word_in first (first.word_pos + k))) in
    let been = c.loop-reservoir.invariant.words in
    let drawn : c.inflow.result ≡ inflow c.args.kind (word_in first (first.word_pos + j)) =
    c.inflow.ensures.value ∙ ap (λ (w : ℕ → ℕ). inflow c.args.kind (w c.loop-reservoir.words.word_pos)) (same_words first c.loop-reservoir.words (first.word_pos + j) been)
    ∙ ap (λ (n : ℕ). inflow c.args.kind (word_in first n)) (place_of first c.loop-reservoir.words (first.word_pos + j) been) in
    record {
      words = later first c.loop-reservoir.words c.inflow.new.words (first.word_pos + j) 1 (first.word_pos + (j + 1)) been c.inflow.ensures.later (omega arith);
      members = reservoir_grown 119 value j (members_view c.loop-reservoir.map.entries) (members_view c.put.new.map.entries) c.text_of.result.now (view c.from-value.result)
          (omega arith) c.in_ok-put.ensures.ok (c.text_of.ensures ∙ c.reservoir_name-name.ensures.value) (c.from-value.ensures ∙ ap whole_data drawn) c.loop-reservoir.invariant.members;
    }
