use Rattle.std.proofs.Common.{◌≡◌, ◌∙◌, ◌+◌, ◌-◌, ◌≤◌, length, take, drop, arith}
use Rattle.std.proofs.lemmas.Grind.{common_steps}
use Rattle.run_program.proofs.KnownBytes.{appends_piece, on_err}
use Rattle.run_program.proofs.writing.put.Goals as goal

pub loop-at-preserved : goal.loop-at-preserved
loop-at-preserved g c =
    let taken = c.in_ok-at.ensures.bytes in
    let text = c.args.text.now in
    let at = c.loop-at.at in
    let tail : take (length text - at) (drop at text) ≡ drop at text = grind (arith, common_steps) in
    record {
      front = appends_piece (g.O.Sink.taken c.args.out.now) (g.O.Sink.taken c.loop-at.out) (g.O.Sink.taken c.write.new.self) at c.in_ok-at.field-0 text _ tail c.loop-at.invariant.front taken.2;
      inside = grind (arith, common_steps, taken.0);
      later = grind (arith, c.in_ok-at.ensures.cause.later, c.loop-at.invariant.later);
      stayed = c.in_ok-at.ensures.cause.succeeded ∙ c.loop-at.invariant.stayed;
    }

-- what was written before the call that failed, and the front that this call took
pub returns-in_err-at-clause-front : goal.returns-in_err-at-clause-front
returns-in_err-at-clause-front g c =
    let more = c.in_err-at.ensures.bytes in
    let text = c.args.text.now in
    let at = c.loop-at.at in
    let tail : take (length text - at) (drop at text) ≡ drop at text = grind (arith, common_steps) in
    let few : length (take (length text - at) (drop at text)) ≤ length text - at = grind (arith, common_steps) in
    on_err c.from_residual.result _ (
      at + more.0,
      omega (arith, c.loop-at.invariant.inside, more.1, few),
      appends_piece (g.O.Sink.taken c.args.out.now) (g.O.Sink.taken c.loop-at.out) (g.O.Sink.taken c.write.new.self) at more.0 text _ tail c.loop-at.invariant.front more.2,
    )
