use Rattle.std.proofs.Common.{ℕ, ◌+◌, ◌*◌, ◌∙◌, ap, arith}
use Rattle.plan_draw.specs.Drawn.{word_in}
use Rattle.hydro_gen.specs.Nodes.{generated_realization}
use Rattle.hydro_form.proofs.Counted.{list_grown}
use Rattle.hydro_gen.proofs.Streams.{later, same_words, place_of}
use Rattle.hydro_gen.proofs.nodes.realizations.Goals as goal

pub loop-k-preserved : goal.loop-k-preserved
loop-k-preserved c =
    let first = c.args.words.now in
    let k = c.loop-k._k in
    let count = c.args.reservoirs in
    let been = c.loop-k.invariant.words in
    let one = λ (j : ℕ). generated_realization (word_in first) (first.word_pos + j * count) c.args.kind count in
    record {
      words = later first c.loop-k.words c.realization.new.words (first.word_pos + k * count) count (first.word_pos + (k + 1) * count) been c.in_ok-realization.ensures.later (omega arith);
      list = list_grown one k c.loop-k.list.items c.push.new.self.items c.in_ok-realization.field-0 c.in_ok-push.ensures.items c.loop-k.invariant.list
          (c.in_ok-realization.ensures.value ∙ ap (λ (w : ℕ → ℕ). generated_realization w c.loop-k.words.word_pos c.args.kind count) (same_words first c.loop-k.words (first.word_pos + k * count) been)
          ∙ ap (λ (n : ℕ). generated_realization (word_in first) n c.args.kind count) (place_of first c.loop-k.words (first.word_pos + k * count) been));
    }
