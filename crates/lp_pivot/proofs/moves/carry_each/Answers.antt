use Rattle.std.proofs.Common.{◌∙◌, arith}
use Rattle.lp_pivot.specs.Move.{carried}
use Rattle.lp_pivot.proofs.Values.{value_step, value_absent}
use Rattle.lp_pivot.proofs.moves.carry_each.Goals as goal

pub loop-k-preserved : goal.loop-k-preserved
loop-k-preserved c = record {
  count = c.carry.ensures.count ∙ c.loop-k.invariant.count;
  moved = value_step (carried c.args.places.now c.args.lines.now c.args.leaving c.args.steps.now) _ c.loop-k.values c.loop-k.k (omega (arith, c.loop-k-test.true, c.loop-k.invariant.count)) c.carry.new.values c.if-not-carry.ensures.moved c.loop-k.invariant.moved;
}

pub returns-then-not-carry-clause-moved : goal.returns-then-not-carry-clause-moved
returns-then-not-carry-clause-moved c =
    value_absent (carried c.args.places.now c.args.lines.now c.args.leaving c.args.steps.now) _ c.loop-k.values c.loop-k.k (omega (arith, c.loop-k-test.true, c.loop-k.invariant.count)) c.if-not-carry.ensures.moved c.loop-k.invariant.moved
