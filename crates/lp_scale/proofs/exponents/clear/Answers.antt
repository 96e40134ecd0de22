use Rattle.std.proofs.Common.{map, None, arith, sym, length-set, ◌∙◌}
use Rattle.std.proofs.Math.ListN.{get_or-map}
use Rattle.std.proofs.lemmas.List.{length-map}
use Rattle.lp_scale.proofs.Passes.{no_span, nones_are}
use Rattle.lp_scale.proofs.Walking.{write_more, write_all}
use Rattle.lp_scale.proofs.exponents.clear.Goals as goal

pub loop-j-preserved : goal.loop-j-preserved
loop-j-preserved c =
    let n = length-map c.args.spans.now no_span in
    record {
      count = length-set c.loop-j.spans c.loop-j.j None ∙ c.loop-j.invariant.count;
      value = write_more (map no_span c.args.spans.now) c.args.spans.now c.loop-j.spans c.loop-j.j None None (omega (arith, n, c.loop-j-test.true, c.loop-j.invariant.count)) (omega (arith, c.loop-j-test.true, c.loop-j.invariant.count)) (sym (get_or-map no_span c.args.spans.now c.loop-j.j None)) c.loop-j.invariant.value;
    }

pub returns : goal.returns
returns c =
    let n = length-map c.args.spans.now no_span in
    write_all (map no_span c.args.spans.now) c.args.spans.now c.loop-j.spans c.loop-j.j (omega (arith, n, c.loop-j-test.false, c.loop-j.invariant.count)) (omega (arith, c.loop-j-test.false, c.loop-j.invariant.count)) c.loop-j.invariant.value ∙ nones_are c.args.spans.now
