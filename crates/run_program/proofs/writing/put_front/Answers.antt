use Rattle.std.proofs.Common.{◌≡◌, ℕ, ◌-◌, length, take, drop, sym, subst, arith}
use Rattle.std.proofs.lemmas.Grind.{common_steps}
use Rattle.std.specs.Io.KnownBytes.{Appends}
use Rattle.run_program.proofs.KnownBytes.{appends_kept, appends_piece}
use Rattle.run_program.proofs.writing.put_front.Goals.{in-Ok, in-Err}
use Rattle.run_program.proofs.writing.put_front.Goals as goal

pub loop-preserved : goal.loop-preserved
loop-preserved g c =
    let holds = g.W.Write.contents in
    let text = c.args.text.now in
    let at = c.loop.at in
    let front = λ (n : ℕ). Appends (holds c.args.output.now) (holds c.write.new.self) (take n text) in
    let tail : take (length text - at) (drop at text) ≡ drop at text = grind (arith, common_steps) in
    elim c.match-write.branch [
      | in-Ok w ↦ record {
        front = subst front (sym w.at-is) (appends_piece (holds c.args.output.now) (holds c.loop.output) (holds c.write.new.self) at w.in-Ok.count text _ tail c.loop.invariant.front w.in-Ok.ensures.bytes);
        inside = grind (arith, common_steps, w.at-is, w.in-Ok.ensures.bound, c.loop.invariant.inside);
      }
      | in-Err w ↦ record {
        front = subst front (sym w.at-is) (appends_kept (holds c.args.output.now) (holds c.loop.output) (holds c.write.new.self) (take at text) c.loop.invariant.front w.in-Err.ensures.bytes);
        inside = grind (arith, w.at-is, c.loop.invariant.inside);
      }
    ]
