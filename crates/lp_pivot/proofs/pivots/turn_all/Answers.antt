use Rattle.std.proofs.Common.{◌∙◌, arith}
use Rattle.std.proofs.lemmas.Int.{to_z-of_z}
use mir.Syntax.{w64}
use mir.Val.{to_z, of_z}
use Rattle.lp_pivot.specs.Pivot.{turned_entry}
use Rattle.lp_pivot.proofs.Values.{value_step, value_absent}
use Rattle.lp_pivot.proofs.pivots.turn_all.Goals as goal

pub loop-j-preserved : goal.loop-j-preserved
loop-j-preserved c = record {
  width = c.turn_at.ensures.width ∙ c.loop-j.invariant.width;
  turned = value_step (λ j x. turned_entry (to_z w64 (of_z w64 c.args.inverse)) c.args.k x) _ c.loop-j.line c.loop-j.j (omega (arith, c.loop-j-test.true, c.loop-j.invariant.width)) c.turn_at.new.line c.if-not-turn_at.ensures.turned c.loop-j.invariant.turned;
}

pub returns-then-not-turn_at-clause-turned : goal.returns-then-not-turn_at-clause-turned
returns-then-not-turn_at-clause-turned c =
    let gone = value_absent (λ j x. turned_entry (to_z w64 (of_z w64 c.args.inverse)) c.args.k x) _ c.loop-j.line c.loop-j.j (omega (arith, c.loop-j-test.true, c.loop-j.invariant.width)) c.if-not-turn_at.ensures.turned c.loop-j.invariant.turned in
    rw (to_z-of_z w64 c.args.inverse c.ranges.inverse) at gone
