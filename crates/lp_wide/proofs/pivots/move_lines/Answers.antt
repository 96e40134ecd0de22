use Rattle.std.proofs.Common.{◌∙◌, arith}
use Rattle.lp_wide.specs.Pivot.{wide_moved_or_kept}
use Rattle.lp_pivot.proofs.Lines.{line_step, line_absent}
use Rattle.lp_wide.proofs.pivots.move_lines.Goals as goal

pub loop-k-preserved : goal.loop-k-preserved
loop-k-preserved c = record {
  count = c.move_line.ensures.count ∙ c.loop-k.invariant.count;
  moved = line_step (wide_moved_or_kept c.args.places.now c.args.leaving c.args.place c.args.entering.now) _ c.loop-k.lines c.loop-k.k (omega (arith, c.loop-k-test.true, c.loop-k.invariant.count)) c.move_line.new.lines c.if-not-move_line.ensures.moved c.loop-k.invariant.moved;
}

pub returns-then-not-move_line-clause-moved : goal.returns-then-not-move_line-clause-moved
returns-then-not-move_line-clause-moved c =
    line_absent (wide_moved_or_kept c.args.places.now c.args.leaving c.args.place c.args.entering.now) _ c.loop-k.lines c.loop-k.k (omega (arith, c.loop-k-test.true, c.loop-k.invariant.count)) c.if-not-move_line.ensures.moved c.loop-k.invariant.moved
